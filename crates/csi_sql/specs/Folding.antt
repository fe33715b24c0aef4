-- A query whose rows are folded one by one: the fold after it, or the reason why it fails.
use Rattle.std.specs.Prelude.{◌≡◌, ◌⊎◌, ℕ, ◌-◌, ◌≤◌, ◌^◌, [], List, length, IfErr, OnOk, Result, Ok, Err}
use Rattle.sqlite.specs.Given.{HasGiven}
use Rattle.sqlite.specs.Held.{Held, state}
use Rattle.sqlite.specs.Order.{Row}
use Rattle.sqlite.specs.State.{HasCleanDisk, IsUnchanged, KeepsCommit, Relays}
use Rattle.sqlite.specs.Store.{Ghosts}
use Rattle.sqlite.specs.declared.error.Error.{Error}
use Rattle.sqlite.specs.declared.error.Error.TheVariants.{SqliteFailure}
use Rattle.sqlite.specs.declared.error.ErrorCode.TheVariants.{OperationInterrupted, OutOfMemory}
use Rattle.csi_sql.specs.Failing.{SqlRefusesToRead, FailsFor}
use Rattle.csi_sql.specs.Transactions.{LeavesNothingNew}

-- the call fails only for lack of memory
abbrev pub FailsForMemory : {X : Type 0} → Result X Error → Type 0
FailsForMemory (Ok x) = Unit {0}
FailsForMemory (Err error) = error ≡ SqliteFailure OutOfMemory

module _ {S : Type 0} (g : Ghosts S) (text : List ℕ) (old : Held S) where
  -- the query gave 2 ^ 64 - 1 rows or more, and no more rows are read
  abbrev pub GivesTooMany : Error → Type 0
  GivesTooMany e =
      (e ≡ SqliteFailure OperationInterrupted)
      × (now : Held S) × (given : List Row) × IsUnchanged (state g old) (state g now) × HasGiven g text [] now given × (2 ^ 64 - 1 ≤ length given)

  -- the query is refused, or has too many rows
  abbrev pub RefusesRows : Error → Type 0
  RefusesRows e = SqlRefusesToRead text [] (state g old) e ⊎ GivesTooMany e

-- the result of a fold over rows with this property
abbrev pub HasFolded : {F : Type 0} → (F → List Row → F → Type 0) → F → F → (List Row → Type 0) → Type 0
HasFolded folds old new What = (rows : List Row) × What rows × folds old rows new

-- A call that folds the rows that a query gives: the property of the rows, or the reason why it fails. The
-- database stays, and a stop leaves only what it could leave before.
module _ {S F : Type 0} (g : Ghosts S) (old new : Held S) (folds : F → List Row → F → Type 0) (before after : F) where
  pub record FoldsOver {X : Type 0} (What : List Row → Type 0) (Refuses : Error → Type 0) (r : Result X Error) : Type 0 where
    pub ok : HasCleanDisk (state g new) → OnOk r (HasFolded folds before after What)
    pub failed : HasCleanDisk (state g new) → IfErr r (FailsFor Refuses (state g old) (state g new))
    -- the error of the disk, as the store named it, if the store keeps it
    pub reported : HasCleanDisk (state g new) → IfErr r (λ e. Relays (state g new).blamed e ⊎ Refuses e)
    pub same : HasCleanDisk (state g new) → OnOk r (IsUnchanged (state g old) (state g new))
    pub kept : HasCleanDisk (state g new) → KeepsCommit (state g old) (state g new)
    pub survives : LeavesNothingNew g old new
