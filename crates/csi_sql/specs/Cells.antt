-- A value of a row as a number, a text, a blob or a flag of the code.
use Rattle.std.specs.Prelude.{ℕ, zero, suc, Bool, true, false, pos, List, Option, Some, None}
use Rattle.sqlite.specs.declared.types.Value.{Value}
use Rattle.sqlite.specs.declared.types.Value.TheVariants.{Int, Text, Blob}

abbrev pub as_number : Value → Option ℕ
as_number (Int (pos n)) = Some n
as_number _ = None

abbrev pub as_text : Value → Option (List ℕ)
as_text (Text t) = Some t
as_text _ = None

abbrev pub as_blob : Value → Option (List ℕ)
as_blob (Blob b) = Some b
as_blob _ = None

abbrev pub as_flag : Value → Option Bool
as_flag (Int (pos zero)) = Some false
as_flag (Int (pos (suc zero))) = Some true
as_flag _ = None
