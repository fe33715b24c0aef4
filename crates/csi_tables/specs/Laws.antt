-- Laws of the tables.
use Rattle.std.specs.Prelude.{◌≡◌, ℕ}
use Rattle.sqlite.specs.Effect.{Database}
use Rattle.sqlite.specs.Tree.{Trees}
use Rattle.csi_config.specs.declared.config.Config.{Config}
use Rattle.csi_keeper.specs.Invariant.{IsInvariant}
use Rattle.csi_keeper.specs.State.{State}
use Rattle.csi_sql.specs.Tables.{schema}
use Rattle.csi_sql.specs.Effects.{SetsFormat}
use Rattle.csi_tables.specs.Holding.{IsEitherRows, IsRows, IsRowsOf}
use Rattle.csi_tables.specs.Refusing.{HasKnownModes}

-- tables are the rows of only one State, whichever format they have
abbrev pub OneState : Type 0
OneState = (s t : State) (db : Trees) → IsEitherRows s db → IsEitherRows t db → s ≡ t

-- rows of any format, once they have the number of the latest one, are rows of the same State
abbrev pub LatestHas : Type 0
LatestHas = (format : ℕ) (s : State) (old new : Database) → old.schema ≡ schema → IsRowsOf format s old.trees → SetsFormat old new → IsRows s new.trees

-- a State that meets the invariant has only known modes
abbrev pub HaveKnownModes : Type 0
HaveKnownModes = (config : Config) (s : State) → IsInvariant config s → HasKnownModes s
