-- The columns of a row, as far as they are read.
use Rattle.std.specs.Prelude.{◌≡◌, ℕ, List, [], Option, Some, slice_get, get_or, map}
use denote.Ref.{Bor}
use Rattle.pbwire.specs.Wire.{WireField, AreFields}
use Rattle.csi_change_store.specs.Pages.{AreCells, bytes_at, bytes_in, number_at, number_in, with_field}
use Rattle.csi_change_store.specs.declared.cells.Cells.{Cells}
use Rattle.csi_change_store.specs.declared.cells.CellKind.{CellKind}
use Rattle.csi_change_store.specs.declared.cells.CellKind.TheVariants.{Integer, Bytes}

abbrev pub number_of : Cells → ℕ → ℕ
number_of cells k = get_or cells.numbers k 0

abbrev pub borrowed : Bor (List ℕ) → List ℕ
borrowed bytes = bytes.now

abbrev pub bytes_of : Cells → ℕ → List ℕ
bytes_of cells k = get_or (map borrowed cells.payloads) k []

-- a field was taken
pub record TakesField (kinds : List CellKind) (e : WireField) (old new : Cells) : Type 0 where
  pub numbers : (k : ℕ) → slice_get kinds k ≡ Some Integer → number_of new k ≡ with_field number_in k e (number_of old k)
  pub bytes : (k : ℕ) → slice_get kinds k ≡ Some Bytes → bytes_of new k ≡ with_field bytes_in k e (bytes_of old k)

-- the columns have the values of these fields
pub record HasColumns (kinds : List CellKind) (cells : Cells) (es : List WireField) : Type 0 where
  pub numbers : (k : ℕ) → slice_get kinds k ≡ Some Integer → number_of cells k ≡ number_at k es
  pub bytes : (k : ℕ) → slice_get kinds k ≡ Some Bytes → bytes_of cells k ≡ bytes_at k es

-- the payload encodes these columns
abbrev pub IsReadAs : List CellKind → List ℕ → Cells → Type 0
IsReadAs kinds payload cells = (es : List WireField) × AreFields es payload × AreCells kinds es × HasColumns kinds cells es

-- the payload encodes no columns
abbrev pub IsUnread : List CellKind → List ℕ → Type 0
IsUnread kinds payload = (es : List WireField) → AreFields es payload → AreCells kinds es → ⊥
