-- The connection after a scan over the tables, and the rows that the scan shows.
use Rattle.std.specs.Prelude.{List, Result, IfOk, OnOk}
use Rattle.sqlite.specs.Held.{Held, state}
use Rattle.sqlite.specs.Order.{Row}
use Rattle.sqlite.specs.State.{HasCleanDisk, IsUnchanged, KeepsCommit, Survives}
use Rattle.sqlite.specs.Store.{Ghosts}
use Rattle.sqlite.specs.Tree.{Trees}

module _ {S : Type 0} (g : Ghosts S) (old new : Held S) where
  -- nothing is changed or committed, and a stop leaves only what it could leave before
  pub record Scans {X E : Type 0} (result : Result X E) : Type 0 where
    pub same : HasCleanDisk (state g new) → OnOk result (IsUnchanged (state g old) (state g new))
    pub kept : HasCleanDisk (state g new) → KeepsCommit (state g old) (state g new)
    pub survives : Survives (state g old) (state g new) (λ _. ⊥)

  -- there are rows with this property, and the result is the report of these rows
  abbrev pub SeenBy : {X E : Type 0} → Result X E → (Trees → List Row → Type 0) → (List Row → X → Type 0) → Type 0
  SeenBy result What Report = HasCleanDisk (state g new) → IfOk result (λ seen. (rows : List Row) × What (state g old).now.trees rows × Report rows seen)
