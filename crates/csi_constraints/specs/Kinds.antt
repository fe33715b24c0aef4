-- Which kind of value is in each column.
use Rattle.std.specs.Prelude.{Bool, true, false, ◌&&◌}
use Rattle.std.specs.Str.{is_utf8}
use Rattle.sqlite.specs.Order.{Row, column}
use Rattle.sqlite.specs.declared.types.Value.{Value}
use Rattle.sqlite.specs.declared.types.Value.TheVariants.{Int, Text, Blob}

abbrev pub is_integer : Value → Bool
is_integer (Int n) = true
is_integer _ = false

-- a text, which is UTF-8
abbrev pub is_text : Value → Bool
is_text (Text t) = is_utf8 t
is_text _ = false

abbrev pub is_blob : Value → Bool
is_blob (Blob b) = true
is_blob _ = false

-- the number and the bytes are integers, the name and the pool are texts, and caps and params are bytes
abbrev pub has_volume_kinds : Row → Bool
has_volume_kinds row =
    is_integer (column row 0) && is_text (column row 1) && is_integer (column row 2) && is_text (column row 3) && is_blob (column row 4)
    && is_blob (column row 5)

-- after the rowid the number is an integer, the node is a text, the cap is bytes, and readonly is an integer
abbrev pub has_attachment_kinds : Row → Bool
has_attachment_kinds row =
    is_integer (column row 1) && is_text (column row 2) && is_blob (column row 3) && is_integer (column row 4)
