-- The database after a statement, and after a whole transaction, under a schema.
use Rattle.std.specs.Prelude.{◌≡◌, true, IsTrue, Result, OnErr, OnOk}
use Rattle.sqlite.specs.declared.error.Error.{Error}
use Rattle.sqlite.specs.Effect.{Database}
use Rattle.sqlite.specs.Held.{Held, state}
use Rattle.sqlite.specs.Schema.{Schema}
use Rattle.sqlite.specs.State.{State, HasCleanDisk, KeepsCommit, Shows, Survives}
use Rattle.sqlite.specs.Store.{Ghosts}
use Rattle.sqlite.specs.Tree.{Trees}
use Rattle.csi_sql.specs.Failing.{FailsFrom, FailsOver}

module _ (before : Schema) (Effect : Database → Database → Type 0) (old new : State) where
  -- a statement inside a transaction
  pub record StepsFrom : Type 0 where
    pub shown : Shows old new new.now old.committed true
    pub effect : old.now.schema ≡ before → Effect old.now new.now

  -- a transaction that was committed
  pub record ChangesFrom : Type 0 where
    pub was_open : IsTrue old.is_open
    pub is_open : IsTrue new.is_open
    pub committed : new.committed ≡ new.now
    pub effect : old.now.schema ≡ before → Effect old.now new.now

-- a transaction that was undone; nothing is stated for a connection that a fault has shut
pub record IsUndone (old new : State) : Type 0 where
  pub was_open : IsTrue new.is_open → IsTrue old.is_open
  pub now : IsTrue new.is_open → new.now ≡ old.committed
  pub committed : IsTrue new.is_open → new.committed ≡ old.committed

-- a database that a stop in the commit may leave in addition
abbrev pub LeavesFrom : Schema → (Database → Database → Type 0) → State → Trees → Type 0
LeavesFrom before Effect old trees = IsTrue old.is_open × (db : Database) × (old.now.schema ≡ before → Effect old.now db) × (trees ≡ db.trees)

module _ {S : Type 0} (g : Ghosts S) (old new : Held S) where
  -- a statement that succeeded inside a transaction
  abbrev pub RunsFrom : {X : Type 0} → Schema → (Database → Database → Type 0) → Result X Error → Type 0
  RunsFrom before Effect r = HasCleanDisk (state g new) → IsTrue old.in_transaction → OnOk r (StepsFrom before Effect (state g old) (state g new))

  -- inside a transaction nothing is committed
  abbrev pub KeepsCommitted : Type 0
  KeepsCommitted = HasCleanDisk (state g new) → IsTrue old.in_transaction → KeepsCommit (state g old) (state g new)

  -- a stop leaves only what it could leave before
  abbrev pub LeavesNothingNew : Type 0
  LeavesNothingNew = Survives (state g old) (state g new) (λ _. ⊥)

  -- A statement inside a transaction: its effect on tables of a schema, or the reason why it fails. Nothing
  -- is committed.
  pub record RunsOver {X : Type 0} (before : Schema) (Effect : Database → Database → Type 0) (Refuses : State → Error
      → Type 0) (r : Result X Error) : Type 0 where
    pub ok : RunsFrom before Effect r
    pub failed : FailsFrom g old new before Refuses r
    pub kept : KeepsCommitted
    pub survives : LeavesNothingNew

  -- A change in a transaction of its own: committed, or undone for a cause. A stop leaves what it could leave
  -- before, or the change.
  pub record CommitsOver {X : Type 0} (before : Schema) (Effect : Database → Database → Type 0) (Refuses : State → Error
      → Type 0) (r : Result X Error) : Type 0 where
    pub ok : HasCleanDisk (state g new) → OnOk r (ChangesFrom before Effect (state g old) (state g new))
    pub err : HasCleanDisk (state g new) → OnErr r (IsUndone (state g old) (state g new))
    pub failed : HasCleanDisk (state g new) → FailsOver before Refuses (state g old) (state g new) r
    pub survives : Survives (state g old) (state g new) (LeavesFrom before Effect (state g old))
