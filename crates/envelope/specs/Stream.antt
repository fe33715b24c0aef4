-- Which calls a stream of bytes has, and how it ends: docs/PROTOCOL.md, "Streams" (own).
use Rattle.std.specs.Prelude.{◌≡◌, ℕ, ◌+◌, List, [], ◌++◌, length, All}
use Rattle.std.specs.List.{flat_map}
use Rattle.envelope.specs.declared.fault.FrameWhy.{FrameWhy}
use Rattle.envelope.specs.declared.fault.FrameWhy.TheVariants.{BadPathLength, BadPath, BadFlag, TooLong, EndOfInput}
use Rattle.envelope.specs.declared.kind.FrameKind.TheVariants.{Calls}
use Rattle.envelope.specs.declared.kind.Part.{Part}
use Rattle.envelope.specs.declared.kind.Part.TheVariants.{TextLength, Text, Flag, BodyLength, Missing}
use Rattle.envelope.specs.Envelope.{CallBytes, IsCall, frame}
use Rattle.envelope.specs.Grammar as grammar

-- the part of a frame that is wrong, for each reason
abbrev pub part_of : FrameWhy → Part
part_of BadPathLength = TextLength
part_of BadPath = Text
part_of BadFlag = Flag
part_of TooLong = BodyLength
part_of EndOfInput = Missing

-- the byte at this place breaks the table of a frame, for this reason
abbrev pub Breaks : List ℕ → FrameWhy → ℕ → Type 0
Breaks bytes why at = grammar.Breaks Calls bytes (part_of why) at

-- the rest of a stream breaks the table nowhere
abbrev pub IsUnbroken : List ℕ → Type 0
IsUnbroken bytes = grammar.IsUnbroken Calls bytes

-- the rest breaks the table first at this place, for this reason
abbrev pub BreaksFirst : List ℕ → FrameWhy → ℕ → Type 0
BreaksFirst bytes why at = grammar.BreaksFirst Calls bytes (part_of why) at

-- a prefix of the rest is a frame
abbrev pub BeginsFrame : List ℕ → Type 0
BeginsFrame bytes = grammar.BeginsFrame Calls bytes

-- the rest may yet become a frame
abbrev pub IsUnfinished : List ℕ → Type 0
IsUnfinished bytes = grammar.IsUnfinished Calls bytes

-- the rest is not empty, and may yet become a frame
abbrev pub IsOpen : List ℕ → Type 0
IsOpen bytes = grammar.IsOpen Calls bytes

-- how a stream ends
pub data End : Type 0 where
  Clean : End
  Fault : FrameWhy → ℕ → End
  Open : End

-- the rest, which begins at this place of the stream, gives the stream this end
abbrev pub Ends : ℕ → List ℕ → End → Type 0
Ends from rest Clean = rest ≡ []
Ends from rest (Fault why place) = (at : ℕ) × BreaksFirst rest why at × (place ≡ from + at)
Ends from rest Open = IsOpen rest

abbrev pub frames : List CallBytes → List ℕ
frames calls = flat_map frame calls

-- The bytes are the frames of the calls, and then a rest that gives the stream this end.
pub record Stream (bytes : List ℕ) (calls : List CallBytes) (end : End) : Type 0 where
  pub rest : List ℕ
  pub whole : bytes ≡ frames calls ++ rest
  pub each : All IsCall calls
  pub ends : Ends (length (frames calls)) rest end

-- The fault of the rest of a stream if the input ends with it: an open rest ends too early.
abbrev pub FaultAt : List ℕ → FrameWhy → ℕ → Type 0
FaultAt rest why at = grammar.FaultAt Calls rest (part_of why) at

-- the bytes can be read
abbrev pub HasReading : List ℕ → Type 0
HasReading bytes = (calls : List CallBytes) × (end : End) × Stream bytes calls end

-- any two readings of the bytes are the same
abbrev pub HasOneReading : List ℕ → Type 0
HasOneReading bytes = (calls others : List CallBytes) (end other : End) → Stream bytes calls end → Stream bytes others other → (calls ≡ others) × (end ≡ other)

-- a fault is the end of longer bytes too, and no call follows it
abbrev pub KeepsEnd : List CallBytes → List CallBytes → End → End → Type 0
KeepsEnd calls others Clean other = Unit {0}
KeepsEnd calls others (Fault why place) other = (others ≡ calls) × (other ≡ Fault why place)
KeepsEnd calls others Open other = Unit {0}

-- any reading of longer bytes begins with the calls of the bytes, and keeps their fault
abbrev pub KeepsReading : List ℕ → List ℕ → Type 0
KeepsReading bytes more =
    (calls others : List CallBytes) (end other : End) → Stream bytes calls end → Stream (bytes ++ more) others other
    → ((later : List CallBytes) × (others ≡ calls ++ later)) × KeepsEnd calls others end other
