-- A keeper's count of refusals after a call, and the answer to the call.
use Rattle.std.specs.Prelude.{◌≡◌, ◌≢◌, ◌↔◌, IsTrue, OnErr, Result, Ok, Err}
use Rattle.csi_keeper.specs.Keeper.{count_after}
use Rattle.csi_keeper.specs.declared.change.StoreFault.{StoreFault}
use Rattle.csi_keeper.specs.declared.change.StoreFault.TheVariants.{NoMemory, Refused, Down}
use Rattle.csi_keeper.specs.declared.health.Health.{Health}

-- the answer of a keeper that is not down: if a store below it is down, it answers a refusal
abbrev pub answered : {X : Type 0} → Result X StoreFault → Result X StoreFault
answered (Ok x) = Ok x
answered (Err NoMemory) = Err NoMemory
answered (Err Refused) = Err Refused
answered (Err Down) = Err Refused

-- A call starts. It is answered `Down` exactly if the keeper is down, and that is counted.
pub record Starts (old new : Health) (result : Result (Unit {0}) StoreFault) : Type 0 where
  pub down : (result ≡ Err Down) ↔ IsTrue old.is_down
  pub fault : OnErr result (result ≡ Err Down)
  pub count : new.refusals ≡ count_after old.refusals result
  pub stays : new.is_down ≡ old.is_down

-- A call finishes: a refusal is counted, and the keeper goes neither down nor up.
pub record Finishes {X : Type 0} (old new : Health) (answer result : Result X StoreFault) : Type 0 where
  pub answers : result ≡ answered answer
  pub up : result ≢ Err Down
  pub count : new.refusals ≡ count_after old.refusals result
  pub stays : new.is_down ≡ old.is_down
