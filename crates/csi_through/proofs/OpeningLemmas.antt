-- The first State of a keeper over a memory and a change store.
use Rattle.std.proofs.Common.{◌≡◌, ap, arith, sym, subst, false}
use Rattle.csi_memory.specs.Holding.{Holds, mem_model}
use Rattle.csi_keeper.specs.Keeper.{IsQuiet}
use Rattle.csi_keeper.specs.Model.{Model}
use Rattle.csi_keeper.specs.State.{State}
use Rattle.csi_memory.specs.declared.mem.MemKeeper.{MemKeeper}
use Rattle.csi_through.specs.Copying.{IsCopy}
use Rattle.csi_through.specs.Through.{Opens, through_model}
use Rattle.csi_through.specs.declared.change_store.KeeperChanges.{KeeperChanges}
use Rattle.csi_through.specs.declared.through.Through.{Through}

-- a keeper that is opened over a copy of a keeper, and over the keeper
pub opens : {K : Type 0} (model : K → Model State) (old keeper : K) (memory : MemKeeper) (t : Through MemKeeper (KeeperChanges K))
    → IsQuiet (model old) (model keeper) → IsCopy (model old) (model keeper) memory
    → t.memory ≡ memory → t.change_store.keeper ≡ keeper → t.health.refusals ≡ 0 → t.health.is_down ≡ false
    → Opens (model old) (through_model mem_model (λ (logged : KeeperChanges K). model logged.keeper) t)
opens model old keeper memory t quiet copy is_memory is_keeper none up =
    let same : model t.change_store.keeper ≡ model keeper = ap model is_keeper in
    let alike : (model t.change_store.keeper).doubt ≡ (model keeper).doubt = ap (λ (m : Model State). m.doubt) same in
    let clean = quiet.clean in
    record {
      clean = omega (arith, clean, alike);
      state = λ d config s held inv.
          let zero : (model keeper).doubt ≡ 0 = omega (arith, d, alike) in (
            subst (λ (m : Model State). m.holds s) (sym same) (quiet.state zero s held),
            λ current. subst (λ (m : MemKeeper). Holds m s) (sym is_memory) (copy zero config s held inv),
          );
      crash = λ d s left. quiet.crash (omega (arith, d, alike)) s (subst (λ (m : Model State). m.survivors s) same left);
      ties = λ d tied. subst (λ (m : Model State). m.tied) (sym same) (quiet.ties (omega (arith, d, alike)) tied);
      fresh = none;
      up = up;
    }
