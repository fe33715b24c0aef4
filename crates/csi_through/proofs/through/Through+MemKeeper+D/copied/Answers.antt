use Rattle.std.proofs.Common.{subst, sym}
use Rattle.csi_memory.specs.declared.mem.MemKeeper.{MemKeeper}
use Rattle.csi_through.specs.Copying.{IsCopy}
use Rattle.csi_through.proofs.through.Through+MemKeeper+D.copied.Goals as goal

pub returns-clause-copy : goal.returns-clause-copy
returns-clause-copy g c =
    subst (λ (memory : MemKeeper). IsCopy (g.K.Keeper.model c.args.keeper.now) (g.K.Keeper.model c.copy_of.new.keeper) memory) (sym c.new.ensures.over.0) c.in_ok-memory.ensures.copy
