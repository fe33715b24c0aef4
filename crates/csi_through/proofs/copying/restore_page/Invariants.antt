use Rattle.std.proofs.Common.{◌≡◌, ◌+◌, ◌++◌, length}
use Rattle.std.specs.List.{AllByRecursion}
use Rattle.std.specs.Vec.Iter.{into_iter_items, into_iter_len}
use Rattle.csi_config.specs.declared.config.Config.{Config}
use Rattle.csi_memory.specs.Holding.{Holds}
use Rattle.csi_keeper.specs.Invariant.{IsInvariant}
use Rattle.csi_keeper.specs.Keeper.{IsQuiet}
use Rattle.csi_keeper.specs.State.{State}
use Rattle.csi_through.specs.Copying.{AreNext, AreNodes, IsHeld, last_number, up_to}
use Rattle.csi_through.proofs.copying.restore_page.Given as goal

abbrev pub invariant-loop-volume : goal.invariant-loop-volume
invariant-loop-volume g l = record {
  quiet : IsQuiet (g.K.Keeper.model l.fn.keeper) (g.K.Keeper.model l.keeper);
  refusals : (g.K.Keeper.model l.keeper).refusals ≡ (g.K.Keeper.model l.fn.keeper).refusals;
  -- the volumes that are left
  rest : l.yielded ++ into_iter_items l.volume-iterator ≡ l.fn.volumes;
  size : length l.yielded + into_iter_len l.volume-iterator ≡ length l.fn.volumes;
  index : l.index ≡ length l.yielded;
  last : l.last ≡ last_number l.after l.yielded;
  held : AllByRecursion IsHeld l.yielded;
  copies : (g.K.Keeper.model l.keeper).doubt ≡ 0 → (config : Config) (s : State) → (g.K.Keeper.model l.fn.keeper).holds s → IsInvariant config s → AreNext s l.after l.yielded
      → AreNodes s l.fn.volumes l.nodes
      → Holds l.fn.memory (up_to s l.after) → Holds l.memory (up_to s (last_number l.after l.yielded));
}
