-- A run that shows replies, between two reads.
use Rattle.std.specs.Prelude.{ℕ, ◌≡◌, ◌+◌, ◌≤◌, ◌<◌, Bool, List, [], ◌++◌, length, take, Option, None, Result, Ok, Err}
use Rattle.std.specs.Io.KnownBytes.{Appends, Keeps}
use Rattle.csi_types.specs.declared.code.Code.TheVariants as code
use Rattle.csi_types.specs.declared.method.Method.{Method}
use Rattle.envelope.specs.Envelope.{ReplyBytes}
use Rattle.envelope.specs.ReplyStream.{IsUnfinished}
use Rattle.frames_core.specs.Framer.{ReplyFramerState}
use Rattle.frames_core.specs.Writing.{WrotePrefix}
use Rattle.csi_client.specs.declared.showing.Halt.{Halt}
use Rattle.csi_client.specs.declared.showing.Halt.TheVariants as halt
use Rattle.csi_client.specs.declared.showing.ShowEnd.{ShowEnd}
use Rattle.csi_client.specs.declared.showing.ShowEnd.TheVariants.{Malformed, BadBody, WriteFailed, NoMemory}
use Rattle.csi_client.specs.declared.showing.Shown.{Shown}
use Rattle.csi_client.specs.declared.showing.Shown.TheVariants.{Fed, Faulty, Halted}
use Rattle.csi_client.specs.Replies.{first_line}
use Rattle.csi_client.specs.Showing.{AreLinesOf, IsBad, IsShown, Wrote, Ended, frames, has_refusal}

-- the end of a run that is halted
abbrev pub end_of : Halt → ShowEnd
end_of halt.BadBody = BadBody
end_of halt.WriteFailed = WriteFailed
end_of halt.NoMemory = NoMemory

-- one reply was shown, or not
abbrev pub ShowsOne : {X : Type 0} → Option Method → ReplyBytes → Option (List ℕ) → Option (List ℕ) → Result X Halt → Type 0
ShowsOne method r held holds (Ok x) = (lines : List ℕ) × IsShown method r lines × Appends held holds lines
ShowsOne method r held holds (Err halt.BadBody) = IsBad method r × Appends held holds (first_line code.Ok r)
ShowsOne method r held holds (Err halt.WriteFailed) = (lines : List ℕ) × AreLinesOf method r lines × WrotePrefix held holds lines
ShowsOne method r held holds (Err halt.NoMemory) = Keeps held holds

-- All bytes that were read are either replies that were shown, or held by the framer as an unfinished reply.
pub record Live (method : Option Method) (read : List ℕ) (s : ReplyFramerState) (held holds : Option (List ℕ)) (refused : Bool) : Type 0 where
  pub replies : List ReplyBytes
  pub wrote : Wrote method read held holds replies s.held []
  pub refusals : refused ≡ has_refusal replies
  pub past : s.past ≡ length (frames replies)
  pub unknown : s.fault ≡ None
  pub unfinished : IsUnfinished s.held

-- one step over the bytes after the input already read
abbrev pub Steps : Option Method → List ℕ → List ℕ → ReplyFramerState → Option (List ℕ) → Option (List ℕ) → Bool → Shown → Type 0
Steps method read rest s held holds refused (Fed n) = Live method (read ++ take n rest) s held holds refused
Steps method read rest s held holds refused (Faulty f) = Ended method (read ++ rest) ⊥ held holds (Malformed f)
Steps method read rest s held holds refused (Halted h) = Ended method (read ++ rest) ⊥ held holds (end_of h)

-- the framer takes more bytes
abbrev pub IsReady : ReplyFramerState → Type 0
IsReady s = (s.fault ≡ None) × IsUnfinished s.held

-- The framer took `n` of `len` bytes, and takes more.
pub record Advances (old new : ReplyFramerState) (len n : ℕ) : Type 0 where
  pub count : new.past + length new.held ≡ old.past + length old.held + n
  pub within : n ≤ len
  pub some : 0 < len → 0 < n
  pub ready : IsReady new

abbrev pub AdvancesBy : ReplyFramerState → ReplyFramerState → ℕ → Shown → Type 0
AdvancesBy old new len (Fed n) = Advances old new len n
AdvancesBy old new len (Faulty f) = Unit {0}
AdvancesBy old new len (Halted h) = Unit {0}

abbrev pub IsAllFed : ℕ → Shown → Type 0
IsAllFed len (Fed n) = n ≡ len
IsAllFed len (Faulty f) = Unit {0}
IsAllFed len (Halted h) = Unit {0}
