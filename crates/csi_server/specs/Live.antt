-- A run of a server between two reads.
use Rattle.std.specs.Prelude.{◌≡◌, ◌≢◌, ℕ, ◌+◌, List, [], ◌++◌, length, All, Option, None}
use Rattle.std.specs.Io.KnownBytes.{Appends, Keeps}
use Rattle.std.specs.List.{flat_map}
use Rattle.envelope.specs.declared.fault.FrameFault.{FrameFault}
use Rattle.envelope.specs.declared.fault.FrameWhy.TheVariants.{EndOfInput}
use Rattle.csi_keeper.specs.Model.{Model}
use Rattle.csi_server.specs.declared.end.RunEnd.{RunEnd}
use Rattle.csi_server.specs.declared.end.RunEnd.TheVariants.{Done, Malformed, ReadFailed, TurnsSpent, WriteFailed, NoMemory}
use Rattle.envelope.specs.Envelope.{CallBytes, ReplyBytes, IsCall, reply}
use Rattle.envelope.specs.Stream.{frames, IsUnfinished}
use Rattle.frames_core.specs.Framer.{FramerState}
use Rattle.frames_core.specs.Writing.{WrotePrefix}
use Rattle.csi_server.specs.Machine.{Machine, Runs, Event, replies, calls_of}
use Rattle.csi_server.specs.Serving.{Answered, AreReplied, Broken, CutOff, HasFault, IsPrompt, Replied, fault_frame}
use Rattle.csi_server.specs.declared.running.PieceOutcome.{PieceOutcome}
use Rattle.csi_server.specs.declared.running.PieceOutcome.TheVariants.{Fed, Faulty, Cut}

-- The calls in the first bytes of a stream were answered; `bytes` are these first bytes.
pub record SoFar {S : Type 0} (m : Machine S) (start now : Model S) (s : S) (bytes : List ℕ) (held holds : Option (List ℕ)) : Type 0 where
  pub events : List Event
  pub run : Runs m start now s events
  pub each : All IsCall (calls_of events)
  pub whole : bytes ≡ frames (calls_of events)
  pub written : Appends held holds (replies m s events)

-- All bytes that were read are either calls that were answered, or held by the framer as an unfinished frame.
pub record Live {S : Type 0} (m : Machine S) (start now : Model S) (s : S) (read : List ℕ) (framer : FramerState) (held holds : Option (List ℕ)) : Type 0 where
  pub given : List ℕ
  pub so_far : SoFar m start now s given held holds
  pub whole : read ≡ given ++ framer.held
  pub past : framer.past ≡ length given
  pub unknown : framer.fault ≡ None
  pub unfinished : IsUnfinished framer.held

-- `Live` is true as long as nothing is in doubt
abbrev pub IsLive : {S : Type 0} → Machine S → Model S → Model S → S → List ℕ → FramerState → Option (List ℕ) → Option (List ℕ) → Type 0
IsLive m start now s read framer held holds = now.doubt ≡ 0 → Live m start now s read framer held holds

-- the piece was taken, or the run is over
abbrev pub Steps : {S : Type 0} → Machine S → Model S → Model S → S → List ℕ → FramerState → Option (List ℕ) → Option (List ℕ) → PieceOutcome → Type 0
Steps m start now s read framer held holds Fed = Live m start now s read framer held holds
Steps m start now s read framer held holds (Faulty f) = (f.why ≢ EndOfInput)
    × Answered m start now s read held holds (λ calls. HasFault read calls f.why f.at) []
Steps m start now s read framer held holds Cut = CutOff m start now s read ⊥ held holds

-- ---- any service

-- As `Live`, for the bytes alone: each call has one reply of the envelope's table.
pub record Replying (read : List ℕ) (framer : FramerState) (held holds : Option (List ℕ)) : Type 0 where
  pub given : List ℕ
  pub calls : List CallBytes
  pub rs : List ReplyBytes
  pub each : All IsCall calls
  pub given_is : given ≡ frames calls
  pub replied : AreReplied calls rs
  pub whole : read ≡ given ++ framer.held
  pub past : framer.past ≡ length given
  pub unknown : framer.fault ≡ None
  pub unfinished : IsUnfinished framer.held
  pub written : Appends held holds (flat_map reply rs)

abbrev pub Replies : List ℕ → FramerState → Option (List ℕ) → Option (List ℕ) → PieceOutcome → Type 0
Replies read framer held holds Fed = Replying read framer held holds
Replies read framer held holds (Faulty f) = (f.why ≢ EndOfInput) × Replied held holds (λ calls. HasFault read calls f.why f.at) [] × IsPrompt read
Replies read framer held holds Cut = Broken read ⊥ held holds

-- the framer takes more bytes
abbrev pub IsReady : FramerState → Type 0
IsReady s = (s.fault ≡ None) × IsUnfinished s.held

-- The framer took `n` bytes, and takes more.
pub record Advances (old new : FramerState) (n : ℕ) : Type 0 where
  pub count : new.past + length new.held ≡ old.past + length old.held + n
  pub ready : IsReady new

abbrev pub AdvancesBy : FramerState → FramerState → ℕ → PieceOutcome → Type 0
AdvancesBy old new n Fed = Advances old new n
AdvancesBy old new n (Faulty f) = Unit {0}
AdvancesBy old new n Cut = Unit {0}

-- The reply frame of the fault was written, or a prefix of it.
abbrev pub Refuses : FrameFault → Option (List ℕ) → Option (List ℕ) → RunEnd → Type 0
Refuses f held holds (Malformed g) = (g ≡ f) × Appends held holds (fault_frame f)
Refuses f held holds WriteFailed = WrotePrefix held holds (fault_frame f)
Refuses f held holds Done = ⊥
Refuses f held holds ReadFailed = ⊥
Refuses f held holds TurnsSpent = ⊥
Refuses f held holds NoMemory = ⊥

-- The end of the input: nothing is written, or the frame that was begun is refused.
abbrev pub Finishes : FramerState → Option (List ℕ) → Option (List ℕ) → RunEnd → Type 0
Finishes s held holds end =
    (IsUnfinished s.held → s.fault ≡ None → s.held ≡ [] → (end ≡ Done) × Keeps held holds)
    × (IsUnfinished s.held → s.fault ≡ None → s.held ≢ [] → Refuses (record { why = EndOfInput; at = s.past + length s.held }) held holds end)
