-- The calls of a keeper, by its model before the call and after it.
use Rattle.std.specs.Prelude.{◌≡◌, ◌↔◌, IsTrue, IfOk, ◌⊎◌, ℕ, ◌+◌, ◌-◌, ◌^◌, ◌≤◌, min, Result, Ok, Err}
use Rattle.csi_keeper.specs.Model.{Model}
use Rattle.csi_keeper.specs.State.{State, changed, Allows}
use Rattle.csi_keeper.specs.declared.change.Change.{Change}
use Rattle.csi_keeper.specs.declared.change.StoreFault.{StoreFault}
use Rattle.csi_keeper.specs.declared.change.StoreFault.TheVariants.{NoMemory, Refused, Down}

-- the count after a call: one more at each refusal, up to 2 ^ 64 - 1
abbrev pub count_after : {X : Type 0} → ℕ → Result X StoreFault → ℕ
count_after n (Ok x) = n
count_after n (Err NoMemory) = n
count_after n (Err Refused) = min (n + 1) (2 ^ 64 - 1)
count_after n (Err Down) = min (n + 1) (2 ^ 64 - 1)

module _ (old new : Model State) where
  -- the State is kept, no survivor is new, and doubt does not go away
  pub record IsQuiet : Type 0 where
    pub clean : old.doubt ≤ new.doubt
    pub state : new.doubt ≡ 0 → (s : State) → old.holds s → new.holds s
    pub crash : new.doubt ≡ 0 → (t : State) → new.survivors t → old.survivors t
    pub ties : new.doubt ≡ 0 → old.tied → new.tied
    pub down : new.is_down ≡ old.is_down

  -- the answer to a read holds for each State that the keeper may have
  abbrev pub Reports : (State → Type 0) → Type 0
  Reports P = new.doubt ≡ 0 → (s : State) → old.holds s → P s

  -- the change is made, only the State with the change survives, and the keeper does not go down
  pub record Makes (change : Change) : Type 0 where
    pub clean : old.doubt ≤ new.doubt
    pub state : new.doubt ≡ 0 → (s : State) → old.holds s → Allows s change → new.holds (changed s change)
    pub settled : new.doubt ≡ 0 → (s : State) → old.holds s → Allows s change → (t : State) → new.survivors t → t ≡ changed s change
    pub ties : new.doubt ≡ 0 → (s : State) → old.holds s → Allows s change → old.tied → new.tied
    pub down : new.is_down ≡ old.is_down

  -- the State is kept, and a survivor is an old survivor or the State with the change
  pub record Fails (change : Change) : Type 0 where
    pub clean : old.doubt ≤ new.doubt
    pub state : new.doubt ≡ 0 → (s : State) → old.holds s → Allows s change → new.holds s
    pub crash : new.doubt ≡ 0 → (s : State) → old.holds s → Allows s change → (t : State) → new.survivors t → old.survivors t ⊎ (t ≡ changed s change)
    pub ties : new.doubt ≡ 0 → (s : State) → old.holds s → Allows s change → old.tied → new.tied

-- the change is made, or it fails; a keeper that is down does nothing
abbrev pub Changes : {X : Type 0} → Model State → Model State → Change → Result X StoreFault → Type 0
Changes old new change (Ok x) = Makes old new change
Changes old new change (Err NoMemory) = Fails old new change
Changes old new change (Err Refused) = Fails old new change
Changes old new change (Err Down) = IsQuiet old new

-- A read: its answer holds for each State that the keeper may have, nothing changes, a refusal is counted,
-- and `Down` is answered exactly if the keeper is down.
pub record Reads {X : Type 0} (old new : Model State) (result : Result X StoreFault) (IsSo : State → X → Type 0) : Type 0 where
  pub value : IfOk result (λ x. Reports old new (λ s. IsSo s x))
  pub quiet : IsQuiet old new
  pub count : new.refusals ≡ count_after old.refusals result
  pub down : (result ≡ Err Down) ↔ IsTrue old.is_down

-- A change: it is made or fails, a refusal is counted, and `Down` is answered exactly if the keeper is down.
pub record Applies {X : Type 0} (old new : Model State) (change : Change) (result : Result X StoreFault) : Type 0 where
  pub changes : Changes old new change result
  pub count : new.refusals ≡ count_after old.refusals result
  pub down : (result ≡ Err Down) ↔ IsTrue old.is_down
