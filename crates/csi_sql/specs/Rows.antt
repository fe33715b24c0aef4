-- The rows of the tables, as they are stored and as a SELECT shows them.
use Rattle.std.specs.Prelude.{ℕ, Bool, [], ◌∷◌, List, pos, if◌then◌else◌}
use Rattle.sqlite.specs.declared.types.Value.TheVariants.{Null, Int, Text, Blob}
use Rattle.sqlite.specs.declared.types.Value.{Value}
use Rattle.sqlite.specs.Order.{Row, column}

abbrev pub number_value : ℕ → Value
number_value n = Int (pos n)

-- a flag as an integer: SQL has no type for flags
abbrev pub bool_value : Bool → Value
bool_value b = Int (if b then pos 1 else pos 0)

-- the row of meta: its key, the number of the format, and the next number
abbrev pub meta_row : ℕ → ℕ → Row
meta_row format next = number_value 1 ∷ number_value format ∷ number_value next ∷ []

-- a row of volumes as it is stored: the rowid comes first, and its own column is stored as NULL
abbrev pub volume_row : ℕ → List ℕ → ℕ → List ℕ → List ℕ → List ℕ → Row
volume_row number name bytes pool caps params =
    number_value number ∷ Null ∷ Text name ∷ number_value bytes ∷ Text pool ∷ Blob caps ∷ Blob params ∷ []

-- a row of attachments as a SELECT shows it, without the rowid that SQL gives it
abbrev pub attachment_row : ℕ → List ℕ → List ℕ → Bool → Row
attachment_row number node cap readonly = number_value number ∷ Text node ∷ Blob cap ∷ bool_value readonly ∷ []

-- the values that a SELECT of all columns shows of a stored row
abbrev pub seen_meta : Row → Row
seen_meta r = column r 0 ∷ column r 2 ∷ column r 3 ∷ []

abbrev pub seen_volume : Row → Row
seen_volume r = column r 0 ∷ column r 2 ∷ column r 3 ∷ column r 4 ∷ column r 5 ∷ column r 6 ∷ []

abbrev pub seen_attachment : Row → Row
seen_attachment r = column r 1 ∷ column r 2 ∷ column r 3 ∷ column r 4 ∷ []
