-- A keeper that refuses one call.
use Rattle.std.specs.Prelude.{◌≡◌, ◌≢◌, ℕ, ◌-◌, ◌==◌, Bool, false, Option, Some, None, Result, Ok, Err, if◌then◌else◌, ⊤}
use Rattle.csi_memory.specs.Holding.{Holds}
use Rattle.csi_keeper.specs.Model.{Model}
use Rattle.csi_keeper.specs.State.{State}
use Rattle.csi_keeper.specs.declared.change.StoreFault.{StoreFault}
use Rattle.csi_keeper.specs.declared.change.StoreFault.TheVariants.{Refused}
use Rattle.csi_memory.specs.declared.fakes.FusedMem.{FusedMem}
use Rattle.csi_memory.specs.declared.mem.MemKeeper.{MemKeeper}

-- the answer to a call and the number of calls that still pass after it, from the number that pass before it
abbrev pub burnt : Option ℕ → Result (Unit {0}) StoreFault × Option ℕ
burnt None = (Ok tt, None)
burnt (Some n) = if n == 0 then (Err Refused, None) else (Ok tt, Some (n - 1))

-- the parts of a keeper that refuses one call: the keeper below it, the number of calls that pass before the
-- refused one (0 after it), the number of calls answered `Refused` or `Down`, and whether it is down
abbrev pub kept : FusedMem → MemKeeper
kept fused = fused.keeper

abbrev pub calls_left : FusedMem → Option ℕ
calls_left fused = fused.fuse.left

abbrev pub refusals_of : FusedMem → ℕ
refusals_of fused = fused.fuse.health.refusals

abbrev pub is_shut : FusedMem → Bool
is_shut fused = fused.fuse.health.is_down

-- A call passes, or is the refused one. No other call is refused, and every call is counted.
pub record Burns {X : Type 0} (old new : FusedMem) (result : Result X StoreFault) : Type 0 where
  pub left : is_shut old ≡ false → calls_left new ≡ (burnt (calls_left old)).1
  pub refused : is_shut old ≡ false → (burnt (calls_left old)).0 ≡ Err Refused → result ≡ Err Refused
  pub goes_by : is_shut old ≡ false → (burnt (calls_left old)).0 ≡ Ok tt → result ≢ Err Refused

-- the model of a keeper that refuses one call
abbrev pub fused_model : FusedMem → Model State
fused_model fused = record { holds = Holds (kept fused); doubt = 0; refusals = refusals_of fused; survivors = λ s. ⊥; tied = ⊤; is_down = is_shut fused }
