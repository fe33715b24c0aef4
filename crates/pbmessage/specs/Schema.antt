-- Which payloads of a message are good, by the numbers of their fields: a text is UTF-8 (Protocol Buffers
-- language guide, 'Scalar Value Types'), and an embedded message is itself a list of good fields (encoding
-- guide, 'Length-Delimited Records').
use Rattle.std.specs.Prelude.{ℕ, List, IfSome, IsUtf8, MatchBool, ◌==◌}
use Rattle.pbwire.specs.Wire.{WireField}
use Rattle.pbmessage.specs.Fields.{AreGood}
use Rattle.pbmessage.specs.Views.{payload}

-- the field numbers of a message's texts and embedded messages, and the schemas of the embedded messages; in
-- a field with another number any payload is good
pub data Schema : Type 0 where
  AnyPayload : Schema
  TextAt : ℕ → Schema → Schema
  MessageAt : ℕ → Schema → Schema → Schema

-- a field is good if its payload is good for its number; a field without a payload is always good
abbrev pub GoodField : (ℕ → List ℕ → Type 0) → WireField → Type 0
GoodField good e = IfSome (payload e.part) (good e.number)

-- the payload is itself a list of good fields
abbrev pub IsGoodMessage : (ℕ → List ℕ → Type 0) → List ℕ → Type 0
IsGoodMessage good p = AreGood (GoodField good) p

-- the payload is good in a field with this number
abbrev pub Good : Schema → ℕ → List ℕ → Type 0
Good AnyPayload k p = Unit {0}
Good (TextAt n others) k p = MatchBool (k == n) (IsUtf8 p) (Good others k p)
Good (MessageAt n inner others) k p = MatchBool (k == n) (IsGoodMessage (Good inner) p) (Good others k p)

-- an entry of a map of texts: key 1 and value 2 (encoding guide, 'Maps')
abbrev pub map_entry_schema : Schema
map_entry_schema = TextAt 1 (TextAt 2 AnyPayload)
