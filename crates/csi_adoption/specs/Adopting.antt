-- The promises of adoption about a connection.
use Rattle.std.specs.Prelude.{◌≡◌, ◌≢◌, ◌⊎◌, ℕ, ◌≤◌, true, false, None, List, length, sum, IsTrue}
use Rattle.sqlite.specs.Effect.{Database}
use Rattle.sqlite.specs.Held.{Held, state}
use Rattle.sqlite.specs.State as sql
use Rattle.sqlite.specs.State.{HasCleanDisk, KeepsCommit}
use Rattle.sqlite.specs.Store.{Ghosts}
use Rattle.sqlite.specs.Tree.{Trees}
use Rattle.sqlite_catalog.specs.Listing.{IsSound}
use Rattle.csi_config.specs.declared.config.Config.{Config}
use Rattle.csi_keeper.specs.Invariant.{IsInvariant}
use Rattle.csi_keeper.specs.State.{State, sizes, first_state}
use Rattle.csi_keeper.specs.Totals.{the_total, AreTotals}
use Rattle.csi_keeper.specs.declared.totals.Totals.{Totals}
use Rattle.csi_sql.specs.Making.{MakesTables}
use Rattle.csi_sql.specs.Tables.{no_schema, schema}
use Rattle.csi_tables.specs.Holding.{IsEitherRows, IsFirstRows, IsFormat, IsRows, IsRowsIn, conn_doubt}
use Rattle.csi_tables.specs.Keeping.{connection_of, is_down, refusals, tables_model}
use Rattle.csi_tables.specs.declared.tables.Tables.{Tables}
use Rattle.csi_adoption.specs.Faults.{is_failure}
use Rattle.csi_adoption.specs.Seen.{sums_of}
use Rattle.csi_adoption.specs.declared.fault.AdoptFault.{AdoptFault}
use Rattle.csi_adoption.specs.declared.fault.AdoptFault.TheVariants.{Foreign}
use Rattle.csi_adoption.specs.declared.fault.Foreign.TheVariants as foreign
use Rattle.csi_adoption.specs.declared.seen.VolumesSeen.{VolumesSeen}
use Rattle.csi_adoption.specs.Failing.{AdoptionFails, IsOfShut}
use Rattle.csi_adoption.specs.Judging.{total_in, IsFaultOf}

-- the State of a database: the database has the rows of the State, or it has no table yet and the State is
-- the first one
abbrev pub IsStateOf : Database → State → Type 0
IsStateOf db s = ((db.schema ≡ schema) × IsEitherRows s db.trees) ⊎ ((db.schema ≡ no_schema) × (s ≡ first_state 1))

-- a State of the rows that meets every constraint; its totals are the sums of the scan
pub record FoundState (config : Config) (db : Trees) (seen : VolumesSeen) : Type 0 where
  pub known : IsFormat seen.format
  pub state : State
  pub rows : IsRowsIn seen.format state db
  pub invariant : IsInvariant config state
  pub totals : (pool : List ℕ) → total_in config.pools (sums_of seen.pool_volumes.items) (sums_of seen.pool_bytes.items) pool
      ≡ the_total (length (sizes state pool)) (sum (sizes state pool))

-- a State of a database with our tables in a format; the State meets every constraint and has these totals
pub record IsFound (config : Config) (db : Database) (format : ℕ) (totals : Totals) : Type 0 where
  pub schema_is : db.schema ≡ schema
  pub found : IsSound schema db.trees → IsFormat format × (s : State) × IsRowsIn format s db.trees × IsInvariant config s × AreTotals totals s

-- Tables that were adopted: they still represent the same State, which meets every constraint, and they are
-- of the latest format.
pub record IsTaken (config : Config) (old new : sql.State) (totals : Totals) : Type 0 where
  pub was_open : IsTrue old.is_open
  pub is_open : IsTrue new.is_open
  pub was_ours : old.now.schema ≡ schema
  pub is_ours : new.now.schema ≡ schema
  pub settled : old.now ≡ old.committed → new.now ≡ new.committed
  pub found : IsSound schema old.now.trees → (s : State) × IsEitherRows s old.now.trees × IsRows s new.now.trees × IsInvariant config s × AreTotals totals s

-- a stop may leave tables of the latest format, and of the same State, instead of tables of the first format;
-- the State meets every constraint
pub record LeavesLatest (config : Config) (old : sql.State) (db : Trees) : Type 0 where
  pub was_open : IsTrue old.is_open
  pub was_ours : old.now.schema ≡ schema
  pub same : IsSound schema old.now.trees → (s : State) × IsFirstRows s old.now.trees × IsRows s db × IsInvariant config s

-- rows of a State that meets every constraint are refused only if something failed
abbrev pub IsNotRefused : Config → Database → AdoptFault → Type 0
IsNotRefused config db fault = (s : State) → db.schema ≡ schema → IsEitherRows s db.trees → IsInvariant config s → is_failure fault ≡ true

module _ {S : Type 0} (g : Ghosts S) (config : Config) (conn : Held S) where
  -- the database of the last commit of the connection
  abbrev pub committed : Database
  committed = (state g conn).committed

  -- a keeper of the committed State
  pub record IsAdopted (t : Tables S) : Type 0 where
    pub clean : conn_doubt g conn ≤ (tables_model g t).doubt
    pub was_open : (tables_model g t).doubt ≡ 0 → IsTrue (state g conn).is_open
    -- there is a committed State, it meets every constraint, and the keeper has it
    pub held : (tables_model g t).doubt ≡ 0 → (s : State) × IsStateOf committed s × IsInvariant config s × (tables_model g t).holds s
    -- a stop leaves only that State
    pub settled : (tables_model g t).doubt ≡ 0 → (s : State) → (tables_model g t).survivors s → IsStateOf committed s
    pub ties : (tables_model g t).doubt ≡ 0 → (tables_model g t).tied
    pub up : is_down g t ≡ false
    pub uncounted : refusals g t ≡ 0
    pub unlimited : (connection_of g t).step_limit ≡ None

  -- a fault, and the connection that is returned
  pub record IsUnadopted (fault : AdoptFault) (back : Held S) : Type 0 where
    pub idle : back.in_transaction ≡ false
    pub unlimited : back.step_limit ≡ None
    pub clean : conn_doubt g conn ≤ conn_doubt g back
    -- the commit stays
    pub kept : HasCleanDisk (state g back) → KeepsCommit (state g conn) (state g back)
    -- A stop leaves what it could leave before. In two cases it may leave more: new tables, if there was no
    -- table; and tables of the latest format, if there were tables of the first format of a State that meets
    -- every constraint, and something failed.
    pub crash : HasCleanDisk (state g back) → (db : Trees) → (state g back).may_leave db → (state g conn).may_leave db
        ⊎ ((made : Database) × (committed.schema ≡ no_schema) × MakesTables committed made × (db ≡ made.trees))
        ⊎ ((s : State) × (committed.schema ≡ schema) × IsFirstRows s committed.trees × IsRows s db × IsInvariant config s × (is_failure fault ≡ true))
    -- the fault is the first one of the committed rows, unless something failed
    pub first : HasCleanDisk (state g back) → IsTrue (state g back).is_open → is_failure fault ≡ false → IsFaultOf config committed fault
    -- other tables are reported as such, also if something fails
    pub other : HasCleanDisk (state g back) → IsTrue (state g back).is_open → committed.schema ≢ schema → committed.schema ≢ no_schema
        → fault ≡ Foreign foreign.Schema
    -- if the connection is shut, no row is judged, and other tables are reported only of the schema that it
    -- shows
    pub shut : HasCleanDisk (state g back) → (state g back).is_open ≡ false → IsOfShut (state g back).now.schema fault
    -- a database without a table is refused only if something failed
    pub blank : HasCleanDisk (state g back) → IsTrue (state g back).is_open → committed.schema ≡ no_schema → is_failure fault ≡ true
    -- The database fails for a cause, and its error is of that cause: the disk failed again, a fault shut the
    -- connection before or during adoption, or the database refuses a statement over the committed rows.
    pub failed : AdoptionFails g conn back fault
    -- rows of a State that meets every constraint are refused only if something failed
    pub sound : HasCleanDisk (state g back) → IsTrue (state g back).is_open → IsNotRefused config committed fault
