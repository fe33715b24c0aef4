-- The adoption of tables that a keeper left.
use Rattle.std.specs.Prelude.{◌≡◌, true, IsTrue}
use Rattle.sqlite.specs.Held.{Held, state}
use Rattle.sqlite.specs.State.{HasCleanDisk}
use Rattle.sqlite.specs.Store.{Ghosts}
use Rattle.sqlite.specs.Tree.{Trees}
use Rattle.csi_config.specs.declared.config.Config.{Config}
use Rattle.csi_keeper.specs.Invariant.{IsInvariant}
use Rattle.csi_keeper.specs.State.{State}
use Rattle.csi_sql.specs.Tables.{schema}
use Rattle.csi_tables.specs.Holding.{IsEitherRows}
use Rattle.csi_tables.specs.Keeping.{connection_of, tables_model}
use Rattle.csi_tables.specs.declared.tables.Tables.{Tables}
use Rattle.csi_adoption.specs.Faults.{is_failure}
use Rattle.csi_adoption.specs.declared.fault.AdoptFault.{AdoptFault}
use Rattle.csi_adoption.specs.Adopting.{committed, IsAdopted, IsUnadopted}

module _ {S : Type 0} (g : Ghosts S) (config : Config) where
  -- adoption of the connection gives a keeper of the State, and a stop leaves that State; or the database
  -- or memory failed
  pub record IsTakenAs (conn : Held S) (s : State) : Type 0 where
    pub taken : (t : Tables S) → IsAdopted g config conn t → (tables_model g t).doubt ≡ 0 → (tables_model g t).holds s
    pub settled : (t : Tables S) → IsAdopted g config conn t → (tables_model g t).doubt ≡ 0 → (r : State) → (tables_model g t).survivors r → r ≡ s
    pub failed : (fault : AdoptFault) (back : Held S) → IsUnadopted g config conn fault back → HasCleanDisk (state g back)
        → IsTrue (state g back).is_open → is_failure fault ≡ true

  -- tables that a stop of a keeper left: they represent a survivor of the keeper, and any connection over
  -- them is adopted as this State
  pub record IsTakenAfter (t : Tables S) (db : Trees) : Type 0 where
    pub left : State
    pub survivor : (tables_model g t).survivors left
    pub again : (conn : Held S) → (committed g config conn).schema ≡ schema → (committed g config conn).trees ≡ db → IsInvariant config left
        → IsTakenAs conn left

-- ---- laws

module _ {S : Type 0} (g : Ghosts S) where
  -- the tables of a keeper that ended are adopted as its State
  abbrev pub EndsTaken : Type 0
  EndsTaken = (config : Config) (t : Tables S) (s : State) → (tables_model g t).holds s → IsInvariant config s → IsTakenAs g config (connection_of g t) s

  -- tables of either format are adopted as their State
  abbrev pub EitherTaken : Type 0
  EitherTaken =
      (config : Config) (conn : Held S) (s : State) → (committed g config conn).schema ≡ schema → IsEitherRows s (committed g config conn).trees
      → IsInvariant config s → IsTakenAs g config conn s

  -- the tables that a stop of a keeper leaves are adopted as a survivor
  abbrev pub StopsTaken : Type 0
  StopsTaken = (config : Config) (t : Tables S) (db : Trees) → (tables_model g t).doubt ≡ 0 → (tables_model g t).tied
      → (state g (connection_of g t)).may_leave db → IsTakenAfter g config t db
