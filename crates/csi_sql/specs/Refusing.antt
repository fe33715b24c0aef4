-- The reasons why statements and transactions over the tables are refused. A change is refused by SQL's
-- rules, for example if a number or a name already exists, or for the size of a row. A read is refused only
-- if meta has no row.
use Rattle.std.specs.Prelude.{◌≡◌, ◌⊎◌, ℕ, [], ◌∷◌, List}
use Rattle.sqlite.specs.Effect.{Database}
use Rattle.sqlite.specs.Order.{Row}
use Rattle.sqlite.specs.State.{State}
use Rattle.sqlite.specs.declared.error.Error.{Error}
use Rattle.sqlite.specs.declared.error.Error.TheVariants.{QueryReturnedNoRows}
use Rattle.sqlite.specs.declared.types.Value.TheVariants.{Blob, Text}
use Rattle.csi_sql.specs.Failing.{SqlRefuses, Unrefused}
use Rattle.csi_sql.specs.Effects.{AddsVolume}
use Rattle.csi_sql.specs.Rows.{number_value, seen_volume}
use Rattle.csi_sql.specs.Tables.{schema}
use Rattle.csi_sql.specs.Texts.{text, AddVolume, SetNext, SetFormat, SetParams, RemoveVolume, Attach, Detach, DetachAll}

-- ---- changes

abbrev pub RefusesVolume : Row → State → Error → Type 0
RefusesVolume row s e = SqlRefuses (text AddVolume) (seen_volume row) s e

abbrev pub RefusesNext : ℕ → State → Error → Type 0
RefusesNext next s e = SqlRefuses (text SetNext) (number_value next ∷ []) s e

-- the row is refused, or the next number is refused after the row was added
abbrev pub RefusesNumbered : Row → ℕ → State → Error → Type 0
RefusesNumbered row next s e = RefusesVolume row s e
    ⊎ ((db : Database) × (s.now.schema ≡ schema → AddsVolume row s.now db) × RefusesNext next (record s { now = db }) e)

abbrev pub RefusesFormat : State → Error → Type 0
RefusesFormat s e = SqlRefuses (text SetFormat) [] s e

abbrev pub RefusesParams : ℕ → List ℕ → State → Error → Type 0
RefusesParams volume params s e = SqlRefuses (text SetParams) (number_value volume ∷ Blob params ∷ []) s e

abbrev pub RefusesRemoval : ℕ → State → Error → Type 0
RefusesRemoval volume s e = SqlRefuses (text RemoveVolume) (number_value volume ∷ []) s e

abbrev pub RefusesAttachment : Row → State → Error → Type 0
RefusesAttachment row s e = SqlRefuses (text Attach) row s e

abbrev pub RefusesDetaching : ℕ → List ℕ → State → Error → Type 0
RefusesDetaching volume node s e = SqlRefuses (text Detach) (number_value volume ∷ Text node ∷ []) s e

abbrev pub RefusesDetachingAll : ℕ → State → Error → Type 0
RefusesDetachingAll volume s e = SqlRefuses (text DetachAll) (number_value volume ∷ []) s e

-- ---- reads

abbrev pub NothingRefuses : State → Error → Type 0
NothingRefuses s = Unrefused

-- meta has no row
abbrev pub HasNoNext : State → Error → Type 0
HasNoNext s e = (e ≡ QueryReturnedNoRows) × (s.now.trees 0 ≡ [])
