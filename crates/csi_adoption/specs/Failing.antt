-- The reasons why adoption fails if no row is at fault: a failure of the database has a cause.
use Rattle.std.specs.Prelude.{◌≡◌, ◌≢◌, ◌⊎◌, false, None, List, map, IfErr, IsTrue, Result, ⊤}
use Rattle.sqlite.specs.Held.{Held, state}
use Rattle.sqlite.specs.Order.{Row}
use Rattle.sqlite.specs.Schema.{Schema}
use Rattle.sqlite.specs.State.{HasCleanDisk, is_disk_error}
use Rattle.sqlite.specs.Store.{Ghosts}
use Rattle.sqlite.specs.Tree.{Trees}
use Rattle.sqlite.specs.declared.error.Error.{Error}
use Rattle.sqlite.specs.declared.error.Error.TheVariants.{SqliteFailure}
use Rattle.sqlite.specs.declared.error.ErrorCode.TheVariants.{Closed, DatabaseCorrupt}
use Rattle.sqlite_disk.specs.Disk.{MoreFaults}
use Rattle.csi_sql.specs.Failing.{FailsFor}
use Rattle.csi_sql.specs.Making.{RefusesTables}
use Rattle.csi_sql.specs.Rows.{seen_volume}
use Rattle.csi_sql.specs.Tables.{no_schema, schema}
use Rattle.csi_sql.specs.Refusing.{RefusesFormat}
use Rattle.csi_constraints.specs.ScanFailing.{HasTooMany}
use Rattle.csi_constraints.specs.Folds.{IsRising}
use Rattle.csi_constraints.specs.Scans.{IsInOrder, keyed_attachment}
use Rattle.csi_adoption.specs.Faults.{is_failure, wants_memory}
use Rattle.csi_adoption.specs.declared.fault.AdoptFault.{AdoptFault}
use Rattle.csi_adoption.specs.declared.fault.AdoptFault.TheVariants.{Foreign, Store}
use Rattle.csi_adoption.specs.declared.fault.Foreign.TheVariants as foreign

-- the rows, in the order of their first column, do not have strictly rising integers in it
abbrev pub DoNotRise : List Row → Type 0
DoNotRise seen = (rows : List Row) × IsInOrder seen rows × (IsRising 0 None rows → ⊥)

-- the numbers of volumes, or the rowids of attachments, are not in strictly rising order
abbrev pub HasUnrisen : Trees → Type 0
HasUnrisen db = DoNotRise (map seen_volume (db 1)) ⊎ DoNotRise (map keyed_attachment (db 3))

-- the database refuses a request with this error, on an open connection, although the disk has not failed
pub data Refuses {S : Type 0} (g : Ghosts S) (old : Held S) (e : Error) : Type 0 where
  -- a scan has too many rows
  too_many : HasTooMany g old e → Refuses g old e
  unrisen : IsTrue (state g old).is_open → e ≡ SqliteFailure DatabaseCorrupt → HasUnrisen (state g old).now.trees → Refuses g old e
  -- the UPDATE that turns tables of the first format into tables of the latest format
  format : IsTrue (state g old).is_open → (state g old).now.schema ≡ schema → RefusesFormat (state g old) e → Refuses g old e
  -- the INSERT of the row of meta into new tables
  tables : (state g old).now.schema ≡ no_schema → RefusesTables (state g old) e → Refuses g old e

-- if the fault is an error of the database, `P` is true of the error, and it is no lack of memory
abbrev pub OfStore : (Error → Type 0) → AdoptFault → Type 0
OfStore P (Store e) = (wants_memory e ≡ false) × P e
OfStore P _ = ⊤

module _ {S : Type 0} (g : Ghosts S) (old new : Held S) where
  -- the cause of an error
  abbrev pub HasCause : Error → Type 0
  HasCause e = HasCleanDisk (state g new) → FailsFor (Refuses g old) (state g old) (state g new) e

  -- an error of a scan has a cause
  abbrev pub ScanFails : {X : Type 0} → Result X Error → Type 0
  ScanFails r = IfErr r HasCause

  -- an error in the judging or the adoption of rows has a cause
  abbrev pub JudgingFails : {X : Type 0} → Result X AdoptFault → Type 0
  JudgingFails r = IfErr r (OfStore HasCause)

-- on a connection that is shut no row is judged: a fault that is no failure says that the tables are other
-- tables
abbrev pub IsOfShut : Schema → AdoptFault → Type 0
IsOfShut seen fault = is_failure fault ≡ false → (fault ≡ Foreign foreign.Schema) × (seen ≢ schema)

module _ {S : Type 0} (g : Ghosts S) (new : Held S) where
  -- rows are judged on a connection that is open
  abbrev pub ReportsOpen : {X : Type 0} → Result X AdoptFault → Type 0
  ReportsOpen r = HasCleanDisk (state g new) → IfErr r (λ fault. is_failure fault ≡ false → IsTrue (state g new).is_open)

  abbrev pub ReportsShut : {X : Type 0} → Result X AdoptFault → Type 0
  ReportsShut r = HasCleanDisk (state g new) → (state g new).is_open ≡ false → IfErr r (IsOfShut (state g new).now.schema)

-- the database refuses a statement over the last commit of the connection, which was open; the limit on its
-- steps is removed
abbrev pub RefusesCommitted : {S : Type 0} → Ghosts S → Held S → Error → Type 0
RefusesCommitted {S} g conn e =
    IsTrue (state g conn).is_open × (settled : Held S) × (settled.step_limit ≡ None) × ((state g settled).now ≡ (state g conn).committed) × Refuses g settled e

-- the connection is shut: a fault had shut it before, or has shut it since
abbrev pub WasShut : {S : Type 0} → Ghosts S → Held S → Held S → Type 0
WasShut g conn back = ((state g back).is_open ≡ false) × (((state g conn).is_open ≡ false) ⊎ MoreFaults (state g conn).faults (state g back).faults)

-- the error that ends an adoption, and its cause
pub data FailsCommitted {S : Type 0} (g : Ghosts S) (conn back : Held S) (e : Error) : Type 0 where
  -- the disk failed since adoption began
  by_disk : IsTrue (is_disk_error e) → MoreFaults (state g conn).faults (state g back).faults → FailsCommitted g conn back e
  as_shut : e ≡ SqliteFailure Closed → WasShut g conn back → FailsCommitted g conn back e
  as_refused : RefusesCommitted g conn e → FailsCommitted g conn back e

abbrev pub AdoptionFails : {S : Type 0} → Ghosts S → Held S → Held S → AdoptFault → Type 0
AdoptionFails g conn back fault = OfStore (λ e. HasCleanDisk (state g back) → FailsCommitted g conn back e) fault
