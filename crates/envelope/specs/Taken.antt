-- The first frame of the rest of a stream.
use Rattle.std.specs.Prelude.{◌≡◌, ◌≤◌, List, [], length, take, ℕ, Option, Some, None, Result, Ok, Err}
use Rattle.envelope.specs.declared.taken.Taken.{Taken}
use Rattle.envelope.specs.declared.taken.Taken.TheVariants.{Nothing, Frame, Fault}
use Rattle.envelope.specs.Envelope.{CallBytes, IsCall, bytes_of, frame}
use Rattle.envelope.specs.declared.kind.FrameKind.{FrameKind}
use Rattle.envelope.specs.declared.kind.Part.{Part}
use Rattle.envelope.specs.Grammar.{FaultAt as FaultAtPart}
use Rattle.envelope.specs.Head.{WholePrefix}
use Rattle.envelope.specs.Stream.{FaultAt}

-- the result for the rest: the length of its first frame, nothing if it is empty, or its fault; two functions
-- give the part and the place of the fault
abbrev pub BeginsWith : {F : Type 0} → FrameKind → (F → Part) → (F → ℕ) → List ℕ → Result (Option ℕ) F → Type 0
BeginsWith kind part place bytes (Ok None) = bytes ≡ []
BeginsWith kind part place bytes (Ok (Some size)) = WholePrefix kind bytes size
BeginsWith kind part place bytes (Err f) = FaultAtPart kind bytes (part f) (place f)

-- the result is exactly this call
abbrev pub IsTaken : CallBytes → Taken → Type 0
IsTaken call Nothing = ⊥
IsTaken call (Frame c size) = (bytes_of c ≡ call) × (size ≡ length (frame call))
IsTaken call (Fault f) = ⊥

abbrev pub TakesFirst : List ℕ → Taken → Type 0
TakesFirst bytes Nothing = bytes ≡ []
TakesFirst bytes (Frame call size) = IsCall (bytes_of call) × (size ≤ length bytes) × (take size bytes ≡ frame (bytes_of call))
TakesFirst bytes (Fault f) = FaultAt bytes f.why f.at
