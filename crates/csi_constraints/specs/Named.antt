-- The first row that breaks a constraint, by its number and its text.
use Rattle.std.specs.Prelude.{◌≡◌, ℕ, not, Bool, List, Option, Some, None, find, if◌then◌else◌}
use Rattle.std.specs.List.{AllByRecursion}
use Rattle.std.specs.Option.{option_map, option_or}
use Rattle.std.specs.Str.{is_utf8}
use Rattle.sqlite.specs.Order.{Row, column}
use Rattle.csi_constraints.specs.Folds.{as_integer}
use Rattle.csi_sql.specs.Cells.{as_text}
use Rattle.csi_constraints.specs.Values.{if_passes}
use Rattle.csi_constraints.specs.declared.named.FirstBroken.{FirstBroken}
use Rattle.csi_constraints.specs.declared.named.InfallibleTest.{InfallibleTest}
use Rattle.csi_constraints.specs.declared.named.RowName.{RowName}

-- the integer of one column, and the text of another if it is UTF-8
abbrev pub name_of : ℕ → ℕ → Row → RowName
name_of number text row = record { number = as_integer (column row number); text = if_passes is_utf8 (as_text (column row text)) }

-- the name of a row, if it does not pass a test
abbrev pub name_if : ℕ → ℕ → (Row → Bool) → Row → Option RowName
name_if number text test row = if test row then None else Some (name_of number text row)

-- the first row that does not pass a test
abbrev pub first_out : (Row → Bool) → List Row → Option Row
first_out test rows = find (λ r. not (test r)) rows

-- the earlier name, or the name of the first row that does not pass
abbrev pub named_out : ℕ → ℕ → (Row → Bool) → Option RowName → List Row → Option RowName
named_out number text test found rows = option_or found (option_map (name_of number text) (first_out test rows))

-- the result of the search for a broken constraint over rows: the rows pass, or one that does not is named
pub record FindsBroken {T : Type 0} (accepts : T → Row → Bool) (knows : T → Row → Type 0) (first : FirstBroken T) (rows : List Row)
    (now : FirstBroken T) : Type 0 where
  pub test : now.test ≡ first.test
  pub number : now.number ≡ first.number
  pub text : now.text ≡ first.text
  pub found : now.found ≡ named_out first.number first.text (accepts first.test) first.found rows
  pub known : now.found ≡ None → AllByRecursion (knows first.test) rows

-- as `FindsBroken`, with a test that takes no memory
abbrev pub FindsByTest : {T : Type 0} → (T → Row → Bool) → FirstBroken (InfallibleTest T) → List Row → FirstBroken (InfallibleTest T) → Type 0
FindsByTest accepts = FindsBroken (λ sure row. accepts sure.test row) (λ _ _. Unit {0})
