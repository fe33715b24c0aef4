-- The rows of the tables after a change: meta is tree 0, volumes tree 1, attachments tree 3.
use Rattle.std.specs.Prelude.{◌≡◌, ℕ, true, [], ◌∷◌, List, map, Result, IfOk, IsPermutation, IsTrue}
use Rattle.std.specs.Ordering.{is_eq}
use Rattle.sqlite.specs.declared.error.Error.{Error}
use Rattle.sqlite.specs.Effect.{Database, IsDatabase}
use Rattle.sqlite.specs.Held.{Held, state}
use Rattle.sqlite.specs.Order.{Row, value_cmp}
use Rattle.sqlite.specs.State.{State, HasCleanDisk}
use Rattle.sqlite.specs.Store.{Ghosts}
use Rattle.sqlite.specs.Tree.{Trees, rowid}
use Rattle.sqlite.specs.View.{is_int}
use Rattle.sqlite_rules.specs.Lists.{Has}
use Rattle.csi_sql.specs.Failing.{FailsFrom, FailsOver}
use Rattle.csi_sql.specs.Transactions.{StepsFrom, ChangesFrom, LeavesFrom, KeepsCommitted, LeavesNothingNew, IsUndone}
use Rattle.csi_sql.specs.declared.formats.TheConstants.{LATEST_FORMAT}
use Rattle.csi_sql.specs.Tables.{schema}
use Rattle.csi_sql.specs.Rows.{meta_row, seen_meta, seen_attachment}

-- ---- a statement, a transaction and a stop, under our schema

abbrev pub Steps : (Database → Database → Type 0) → State → State → Type 0
Steps = StepsFrom schema

abbrev pub Changes : (Database → Database → Type 0) → State → State → Type 0
Changes = ChangesFrom schema

abbrev pub Leaves : (Database → Database → Type 0) → State → Trees → Type 0
Leaves = LeavesFrom schema

-- a SELECT leaves the database unchanged, and `What` is true of the database
pub record Sees (What : Database → Type 0) (old new : Database) : Type 0 where
  pub same : new ≡ old
  pub reported : What old

-- a read of the rows, in a transaction that is then undone: `What` is true of the database
pub record Reads (What : Database → Type 0) (old : State) : Type 0 where
  pub was_open : IsTrue old.is_open
  pub what : old.now.schema ≡ schema → What old.now

module _ {S : Type 0} (g : Ghosts S) (old new : Held S) where
  -- A SELECT inside a transaction: the value that it shows, or the reason why it fails. The database stays,
  -- and nothing is committed.
  pub record Selects {X : Type 0} (What : Database → X → Type 0) (Refuses : State → Error → Type 0) (r : Result X Error) : Type 0 where
    pub ok : HasCleanDisk (state g new) → IsTrue old.in_transaction → IfOk r (λ x. Steps (Sees (λ db. What db x)) (state g old) (state g new))
    pub failed : FailsFrom g old new schema Refuses r
    pub kept : KeepsCommitted g old new
    pub survives : LeavesNothingNew g old new

  -- A call that only reads, in a transaction that is then undone: its answer from the rows, or the reason why
  -- it fails. A stop leaves only what it could leave before.
  pub record ReadsOnly {X : Type 0} (What : Database → X → Type 0) (Refuses : State → Error → Type 0) (r : Result X Error) : Type 0 where
    pub ok : HasCleanDisk (state g new) → IfOk r (λ x. Reads (λ db. What db x) (state g old))
    pub undone : HasCleanDisk (state g new) → IsUndone (state g old) (state g new)
    pub failed : HasCleanDisk (state g new) → FailsOver schema Refuses (state g old) (state g new) r
    pub survives : LeavesNothingNew g old new

-- ---- tables in which no two rows share a rowid

-- each rowid is a number, and two rows with the same rowid show the same values
pub record AreKeyed (see : Row → Row) (rows : List Row) : Type 0 where
  pub keyed : (r : Row) → Has rows r → is_int (rowid r) ≡ true
  pub one : (a b : Row) → Has rows a → Has rows b → is_eq (value_cmp (rowid a) (rowid b)) ≡ true → see a ≡ see b

-- ---- the database after each statement

-- the row is added to attachments
pub record AddsAttachment (row : Row) (old new : Database) : Type 0 where
  pub schema : new.schema ≡ old.schema
  pub sound : IsDatabase new
  pub rows : IsPermutation (row ∷ map seen_attachment (old.trees 3)) (map seen_attachment (new.trees 3))
  pub keyed : AreKeyed seen_attachment (old.trees 3) → AreKeyed seen_attachment (new.trees 3)
  pub meta : new.trees 0 ≡ old.trees 0
  pub volumes : new.trees 1 ≡ old.trees 1

-- the row is added to volumes
pub record AddsVolume (row : Row) (old new : Database) : Type 0 where
  pub schema : new.schema ≡ old.schema
  pub sound : IsDatabase new
  pub rows : IsPermutation (row ∷ old.trees 1) (new.trees 1)
  pub meta : new.trees 0 ≡ old.trees 0
  pub attachments : new.trees 3 ≡ old.trees 3

-- the one row of meta has this next number, and keeps its format
pub record SetsNext (next : ℕ) (old new : Database) : Type 0 where
  pub schema : new.schema ≡ old.schema
  pub sound : IsDatabase new
  pub meta : (format was : ℕ) → map seen_meta (old.trees 0) ≡ meta_row format was ∷ [] → map seen_meta (new.trees 0) ≡ meta_row format next ∷ []
  pub volumes : new.trees 1 ≡ old.trees 1
  pub attachments : new.trees 3 ≡ old.trees 3

-- the one row of meta has the latest format, and keeps its next number
pub record SetsFormat (old new : Database) : Type 0 where
  pub schema : new.schema ≡ old.schema
  pub sound : IsDatabase new
  pub meta : (was next : ℕ) → map seen_meta (old.trees 0) ≡ meta_row was next ∷ [] → map seen_meta (new.trees 0) ≡ meta_row LATEST_FORMAT next ∷ []
  pub volumes : new.trees 1 ≡ old.trees 1
  pub attachments : new.trees 3 ≡ old.trees 3

-- a volume is added, and the next number is the one given
pub record AddsNumbered (row : Row) (next : ℕ) (old new : Database) : Type 0 where
  pub schema : new.schema ≡ old.schema
  pub sound : IsDatabase new
  pub rows : IsPermutation (row ∷ old.trees 1) (new.trees 1)
  pub meta : (format was : ℕ) → map seen_meta (old.trees 0) ≡ meta_row format was ∷ [] → map seen_meta (new.trees 0) ≡ meta_row format next ∷ []
  pub attachments : new.trees 3 ≡ old.trees 3
