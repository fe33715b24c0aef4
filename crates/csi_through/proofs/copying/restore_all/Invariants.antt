use Rattle.std.proofs.Common.{◌≡◌, ◌<◌, ◌≤◌}
use Rattle.csi_config.specs.declared.config.Config.{Config}
use Rattle.csi_memory.specs.Holding.{Holds}
use Rattle.csi_keeper.specs.Invariant.{IsInvariant}
use Rattle.csi_keeper.specs.Keeper.{IsQuiet}
use Rattle.csi_keeper.specs.State.{State}
use Rattle.csi_through.specs.Copying.{up_to}
use Rattle.csi_through.proofs.copying.restore_all.Given as goal

abbrev pub invariant-loop-turn : goal.invariant-loop-turn
invariant-loop-turn g l = record {
  quiet : IsQuiet (g.K.Keeper.model l.fn.keeper) (g.K.Keeper.model l.keeper);
  refusals : (g.K.Keeper.model l.keeper).refusals ≡ (g.K.Keeper.model l.fn.keeper).refusals;
  -- each page has at least one volume, so the pages end
  rises : (g.K.Keeper.model l.keeper).doubt ≡ 0 → (config : Config) (s : State) → (g.K.Keeper.model l.fn.keeper).holds s → IsInvariant config s → (l.turn ≤ l.after) × (l.after < s.next);
  copies : (g.K.Keeper.model l.keeper).doubt ≡ 0 → (config : Config) (s : State) → (g.K.Keeper.model l.fn.keeper).holds s → IsInvariant config s
      → Holds l.fn.memory (up_to s 0) → (l.after < s.next) × Holds l.memory (up_to s l.after);
}
