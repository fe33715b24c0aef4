-- The model of a keeper over a memory and a change store.
use Rattle.std.specs.Prelude.{◌≡◌, ◌+◌, ◌≤◌, true, false, Result, Err}
use Rattle.csi_config.specs.declared.config.Config.{Config}
use Rattle.csi_keeper.specs.Invariant.{IsInvariant}
use Rattle.csi_keeper.specs.Keeper.{Applies, Reads}
use Rattle.csi_keeper.specs.Model.{Model}
use Rattle.csi_keeper.specs.State.{State}
use Rattle.csi_keeper.specs.declared.change.Change.{Change}
use Rattle.csi_keeper.specs.declared.change.StoreFault.{StoreFault}
use Rattle.csi_through.specs.declared.through.Through.{Through}

-- The change store has the State, and the memory has it too, unless it is out of date. A stop leaves only
-- what the change store leaves.
abbrev pub through_model : {M D : Type 0} → (M → Model State) → (D → Model State) → Through M D → Model State
through_model memory change_store t = record {
  holds = λ s. (change_store t.change_store).holds s × (t.is_current ≡ true → (memory t.memory).holds s);
  doubt = (change_store t.change_store).doubt + (memory t.memory).doubt;
  refusals = t.health.refusals;
  survivors = (change_store t.change_store).survivors;
  tied = (change_store t.change_store).tied;
  is_down = t.health.is_down;
}

-- a read, as of any keeper, that does not change whether the memory is current
pub record ReadsThrough {M D X : Type 0} (memory : M → Model State) (change_store : D → Model State) (old new : Through M D) (result : Result X StoreFault)
    (IsSo : State → X → Type 0) : Type 0 where
  pub reads : Reads (through_model memory change_store old) (through_model memory change_store new) result IsSo
  pub current : new.is_current ≡ old.is_current

-- a memory was asked for a change, and did not make it
abbrev pub HasMissed : Model State → Model State → Change → Type 0
HasMissed old new change = (fault : StoreFault) × Applies {X = Unit {0}} old new change (Err fault)

-- a keeper is opened over the keeper `old`: it has the States of `old` that meet the invariant, a stop leaves
-- nothing more, no refusal is counted, and it is not down
pub record Opens (old new : Model State) : Type 0 where
  pub clean : old.doubt ≤ new.doubt
  pub state : new.doubt ≡ 0 → (config : Config) (s : State) → old.holds s → IsInvariant config s → new.holds s
  pub crash : new.doubt ≡ 0 → (t : State) → new.survivors t → old.survivors t
  pub ties : new.doubt ≡ 0 → old.tied → new.tied
  pub fresh : new.refusals ≡ 0
  pub up : new.is_down ≡ false
