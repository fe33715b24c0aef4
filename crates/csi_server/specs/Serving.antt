-- The bytes that a server reads and writes, by the way it ends.
use Rattle.std.specs.Prelude.{◌≡◌, ℕ, ◌≤◌, ◌<◌, ◌^◌, List, [], ◌∷◌, ◌++◌, length, All, Option, ◌⊎◌, decimal}
use Rattle.std.specs.List.{flat_map}
use Rattle.std.specs.Io.KnownBytes.{Appends, Consumes, IsAtEnd, Keeps}
use Rattle.csi_types.specs.declared.code.Code.TheVariants as code
use Rattle.csi_types.specs.Codes.{number_of}
use Rattle.envelope.specs.declared.fault.FrameFault.{FrameFault}
use Rattle.envelope.specs.declared.fault.FrameWhy.{FrameWhy}
use Rattle.envelope.specs.declared.fault.FrameWhy.TheVariants.{EndOfInput}
use Rattle.envelope.specs.Envelope.{CallBytes, ReplyBytes, IsCall, IsReply, reply}
use Rattle.envelope.specs.Stream.{Stream, Clean, Fault, Open, frames}
use Rattle.envelope.specs.Texts.{fault_words}
use Rattle.frames_core.specs.Writing.{IsPrefix, WrotePrefix}
use Rattle.csi_keeper.specs.Model.{Model}
use Rattle.csi_server.specs.declared.end.RunEnd.{RunEnd}
use Rattle.csi_server.specs.declared.end.RunEnd.TheVariants.{Done, Malformed, ReadFailed, TurnsSpent, WriteFailed, NoMemory}
use Rattle.csi_server.specs.Machine.{Machine, Event, Runs, Answers, replies, state_after, step, refusal, calls_of}

-- the bytes that were read have these calls, and then this fault: a fault of the grammar, or an early end of
-- the input
abbrev pub HasFault : List ℕ → List CallBytes → FrameWhy → ℕ → Type 0
HasFault read calls EndOfInput at = Stream read calls Open × (at ≡ length read)
HasFault read calls why at = Stream read calls (Fault why at)

-- the bytes that were read have these calls and no fault
abbrev pub HasNoFault : List ℕ → List CallBytes → Type 0
HasNoFault read calls = Stream read calls Clean ⊎ Stream read calls Open

-- the bytes that were read begin with these calls
pub record BeginsWithCalls (read : List ℕ) (calls : List CallBytes) : Type 0 where
  pub rest : List ℕ
  pub whole : read ≡ frames calls ++ rest
  pub each : All IsCall calls

-- the reply frame that answers a fault
abbrev pub fault_frame : FrameFault → List ℕ
fault_frame f = reply (refusal (number_of code.InvalidArgument) (fault_words f.why ++ decimal f.at))

-- All calls that were read were answered, and then this was written.
pub record Answered {S : Type 0} (m : Machine S) (old new : Model S) (s : S) (read : List ℕ) (held holds : Option (List ℕ)) (IsEnd : List CallBytes
    → Type 0) (last : List ℕ) : Type 0 where
  pub events : List Event
  pub ended : IsEnd (calls_of events)
  pub run : Runs m old new s events
  pub written : Appends held holds (replies m s events ++ last)

-- The reply to the last call, or the frame that answers the fault, was written in part or not flushed. An
-- early end of the input is a fault only if the end was read.
pub record CutOff {S : Type 0} (m : Machine S) (old new : Model S) (s : S) (read : List ℕ) (AtEnd : Type 0) (held holds : Option (List ℕ)) : Type 0 where
  pub events : List Event
  pub begins : BeginsWithCalls read (calls_of events)
  pub run : Runs m old new s events
  pub earlier : List Event
  pub part : List ℕ
  pub cut : ((last : Event) × (events ≡ earlier ++ last ∷ []) × IsPrefix part (reply (step m (state_after m s earlier) last).0))
      ⊎ ((f : FrameFault) × (events ≡ earlier) × HasFault read (calls_of events) f.why f.at × (f.why ≡ EndOfInput → AtEnd) × IsPrefix part (fault_frame f))
  pub written : Appends held holds (replies m s earlier ++ part)

-- One call was answered, from the state s: its reply was written, or a prefix of it.
pub record AnswersCall {S : Type 0} (m : Machine S) (old new : Model S) (s : S) (call : CallBytes) (held holds : Option (List ℕ))
    (Whole : Type 0) : Type 0 where
  pub r : ReplyBytes
  pub answers : Answers m old new s call r
  pub formed : IsReply r
  pub all : Whole → Appends held holds (reply r)
  pub part : WrotePrefix held holds (reply r)

-- The end of a run from the state s that read these bytes. `AtEnd` states that it found the end of the input.
abbrev pub Ended : {S : Type 0} → Machine S → Model S → Model S → S → List ℕ → Type 0 → Option (List ℕ) → Option (List ℕ) → RunEnd → Type 0
Ended m old new s read AtEnd held holds Done = Answered m old new s read held holds (λ calls. Stream read calls Clean) [] × AtEnd
Ended m old new s read AtEnd held holds (Malformed f) = Answered m old new s read held holds (λ calls. HasFault read calls f.why f.at) (fault_frame f)
    × (f.why ≡ EndOfInput → AtEnd)
Ended m old new s read AtEnd held holds ReadFailed = Answered m old new s read held holds (HasNoFault read) []
Ended m old new s read AtEnd held holds TurnsSpent = Answered m old new s read held holds (HasNoFault read) [] × (2 ^ 32 ≤ length read)
Ended m old new s read AtEnd held holds WriteFailed = CutOff m old new s read AtEnd held holds
Ended m old new s read AtEnd held holds NoMemory = Runs m old new s [] × Keeps held holds

-- A run of a service that was clean to its end: from each state that the service may have had, the run ends
-- as `Ended` says. The service goes from old to new, the reader from unread to left, the writer from held to
-- holds.
abbrev pub Serves : {S : Type 0} → Machine S → Model S → Model S → Option (List ℕ) → Option (List ℕ) → Option (List ℕ) → Option (List ℕ) → RunEnd → Type 0
Serves {S} m old new unread left held holds end =
    (read : List ℕ) × Consumes unread left read × (new.doubt ≡ 0 → (s : S) → old.holds s → Ended m old new s read (IsAtEnd left) held holds end)

-- ---- the promise for every service, also for a service over a store that lied

-- No piece is read after the piece with a fault: no earlier piece has one.
pub record IsPrompt (read : List ℕ) : Type 0 where
  pub before : List ℕ
  pub piece : List ℕ
  pub whole : read ≡ before ++ piece
  pub one : length piece ≤ 4096
  pub calls : List CallBytes
  pub faultless : HasNoFault before calls

-- each call has one reply, and each reply is a reply of the envelope's table
pub record AreReplied (calls : List CallBytes) (rs : List ReplyBytes) : Type 0 where
  pub one_each : length rs ≡ length calls
  pub formed : All IsReply rs

-- Such replies to these calls were written, and then the bytes `last`.
pub record Replied (held holds : Option (List ℕ)) (IsEnd : List CallBytes → Type 0) (last : List ℕ) : Type 0 where
  pub calls : List CallBytes
  pub rs : List ReplyBytes
  pub ended : IsEnd calls
  pub replied : AreReplied calls rs
  pub written : Appends held holds (flat_map reply rs ++ last)

-- The bytes that were read begin with these calls and one more, whose reply was being written. No piece is
-- read after the piece that ends this call.
pub record IsLast (read : List ℕ) (calls : List CallBytes) (part : List ℕ) : Type 0 where
  pub call : CallBytes
  pub rest : List ℕ
  pub whole : read ≡ frames (calls ++ call ∷ []) ++ rest
  pub each : All IsCall (calls ++ call ∷ [])
  pub few : length rest < 4096
  pub r : ReplyBytes
  pub formed : IsReply r
  pub prefix : IsPrefix part (reply r)

-- The bytes that were read have this fault, whose frame was being written.
pub record IsRefused (read : List ℕ) (AtEnd : Type 0) (calls : List CallBytes) (part : List ℕ) : Type 0 where
  pub fault : FrameFault
  pub has : HasFault read calls fault.why fault.at
  pub at_end : fault.why ≡ EndOfInput → AtEnd
  pub prompt : IsPrompt read
  pub prefix : IsPrefix part (fault_frame fault)

-- All replies before the last one were written, and then a part of the last one or of the frame that answers
-- the fault.
pub record Broken (read : List ℕ) (AtEnd : Type 0) (held holds : Option (List ℕ)) : Type 0 where
  pub calls : List CallBytes
  pub rs : List ReplyBytes
  pub replied : AreReplied calls rs
  pub part : List ℕ
  pub cut : IsLast read calls part ⊎ IsRefused read AtEnd calls part
  pub written : Appends held holds (flat_map reply rs ++ part)

-- The bytes that a run wrote, by the way it ends. The run read the bytes `read`, and `AtEnd` states that it
-- found the end of the input.
abbrev pub Wrote : List ℕ → Type 0 → Option (List ℕ) → Option (List ℕ) → RunEnd → Type 0
Wrote read AtEnd held holds Done = Replied held holds (λ calls. Stream read calls Clean) [] × AtEnd
Wrote read AtEnd held holds (Malformed f) = Replied held holds (λ calls. HasFault read calls f.why f.at) (fault_frame f)
    × (f.why ≡ EndOfInput → AtEnd) × IsPrompt read
Wrote read AtEnd held holds ReadFailed = Replied held holds (HasNoFault read) []
Wrote read AtEnd held holds TurnsSpent = Replied held holds (HasNoFault read) [] × (2 ^ 32 ≤ length read)
Wrote read AtEnd held holds WriteFailed = Broken read AtEnd held holds
Wrote read AtEnd held holds NoMemory = (read ≡ []) × Keeps held holds

-- A run of any service: the reader goes from unread to left, the writer from held to holds.
abbrev pub Writes : Option (List ℕ) → Option (List ℕ) → Option (List ℕ) → Option (List ℕ) → RunEnd → Type 0
Writes unread left held holds end = (read : List ℕ) × Consumes unread left read × Wrote read (IsAtEnd left) held holds end
