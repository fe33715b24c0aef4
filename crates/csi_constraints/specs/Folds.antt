-- A fold after rows.
use Rattle.std.specs.Prelude.{◌≡◌, ◌⊎◌, ◌↔◌, ℕ, ◌+◌, ◌-◌, ◌<◌, ◌^◌, length, min, sum_by, ℤ, int_lt, List, []}
use Rattle.std.specs.Prelude.{Bool, true, false, if◌then◌else◌, IsTrue, unwrap_or}
use Rattle.std.specs.Prelude.{◌∷◌, ◌++◌, map, Option, Some, None}
use Rattle.std.specs.List.{AllByRecursion}
use Rattle.std.specs.Ordering.{is_eq, nat_cmp}
use Rattle.std.specs.Cmp.Lexicographic.{slice_cmp}
use Rattle.std.specs.declared.cmp.Ordering.TheVariants.{Less}
use Rattle.sqlite.specs.Order.{Row, column, value_cmp}
use Rattle.sqlite.specs.Tree.{IsAscending}
use Rattle.sqlite.specs.View.{is_int}
use Rattle.sqlite.specs.declared.types.Value.{Value}
use Rattle.sqlite.specs.declared.types.Value.TheVariants.{Int, Text}
use Rattle.csi_sql.specs.Cells.{as_number}
use Rattle.csi_constraints.specs.declared.count.RowCount.{RowCount}
use Rattle.csi_constraints.specs.declared.rising.Rising.{Rising}
use Rattle.csi_constraints.specs.declared.sums.TextSum.{TextSum}
use Rattle.csi_constraints.specs.declared.sums.Weight.{Weight}
use Rattle.csi_constraints.specs.declared.sums.Weight.TheVariants.{One, Number}

-- `P` is true of an item of the list
abbrev pub HasSome : {X : Type 0} → (X → Type 0) → List X → Type 0
HasSome P [] = ⊥
HasSome P (x ∷ xs) = P x ⊎ HasSome P xs

-- ---- sums

-- the number in a column, and 0 for NULL
abbrev pub number_in : ℕ → Row → ℕ
number_in at row = unwrap_or (as_number (column row at)) 0

-- the amount that a row with the text adds
abbrev pub weight_of : Weight → Row → ℕ
weight_of One row = 1
weight_of (Number at) row = number_in at row

abbrev pub is_text : List ℕ → Value → Bool
is_text text (Text t) = is_eq (slice_cmp nat_cmp t text)
is_text text _ = false

-- the amount that a row adds: 0 if it has another text in the column
abbrev pub added_by : ℕ → List ℕ → Weight → Row → ℕ
added_by at text weight row = if is_text text (column row at) then weight_of weight row else 0

-- the sum after the rows, at most 2^64 - 1
abbrev pub sum_after : ℕ → List ℕ → Weight → ℕ → List Row → ℕ
sum_after at text weight sum rows = min (sum + sum_by (added_by at text weight) rows) (2 ^ 64 - 1)

-- a sum after rows
abbrev pub SumsText : TextSum → List Row → TextSum → Type 0
SumsText first rows now =
    (now.column ≡ first.column) × (now.text ≡ first.text) × (now.weight ≡ first.weight)
    × (first.sum < 2 ^ 64 → now.sum ≡ sum_after first.column first.text.items first.weight first.sum rows)

-- a count after more rows: the sum, or 2^64 - 1 if the sum is greater
abbrev pub CountsRows : RowCount → List Row → RowCount → Type 0
CountsRows first rows now = first.rows < 2 ^ 64 → now.rows ≡ min (first.rows + length rows) (2 ^ 64 - 1)

-- ---- integers that rise

abbrev pub as_integer : Value → Option ℤ
as_integer (Int n) = Some n
as_integer _ = None

abbrev pub is_above : Option ℤ → ℤ → Bool
is_above None n = true
is_above (Some m) n = int_lt m n

-- the integer that came before, if there was one
abbrev pub before : Option ℤ → List Value
before None = []
before (Some n) = Int n ∷ []

-- the integer that came before, and the values of a column
abbrev pub values_from : ℕ → Option ℤ → List Row → List Value
values_from at last rows = before last ++ map (λ r. column r at) rows

-- each row has an integer in the column, and each integer is above all integers before it
pub record IsRising (at : ℕ) (last : Option ℤ) (rows : List Row) : Type 0 where
  pub integers : AllByRecursion (λ r. is_int (column r at) ≡ true) rows
  pub rising : IsAscending (λ a b. value_cmp a b ≡ Less) (values_from at last rows)

-- the integer at the end of the values, if there is one
abbrev pub IsLast : List Value → Option ℤ → Type 0
IsLast values None = values ≡ []
IsLast values (Some n) = (front : List Value) × (values ≡ front ++ Int n ∷ [])

-- the outcome of a test of rising numbers, before and after the rows
pub record Rises (at : ℕ) (was : Bool) (last : Option ℤ) (rows : List Row) (good : Bool) (next : Option ℤ) : Type 0 where
  pub good_is : IsTrue good ↔ (IsTrue was × IsRising at last rows)
  pub last_is : IsTrue good → IsLast (values_from at last rows) next

-- this test after rows
abbrev pub RisesOver : Rising → List Row → Rising → Type 0
RisesOver first rows now = (now.column ≡ first.column) × Rises first.column first.good first.last rows now.good now.last
