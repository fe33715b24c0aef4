use Rattle.std.proofs.Common.{◌∙◌, ap}
use Rattle.csi_through.proofs.OpeningLemmas.{opens}
use Rattle.csi_through.proofs.through.Through+MemKeeper+KeeperChanges+K.over.Goals as goal

pub returns-in-Ok-clause-opens : goal.returns-in-Ok-clause-opens
returns-in-Ok-clause-opens g c =
    opens g.K.Keeper.model c.args.keeper c.copy_of.new.keeper c.in-Ok.memory c.new-in-Ok.result c.in-Ok.ensures.keeper_unchanged c.in-Ok.ensures.copy
    c.new-in-Ok.ensures.over.0 (ap (λ logged. logged.keeper) c.new-in-Ok.ensures.over.1 ∙ c.new.ensures) c.new-in-Ok.ensures.fresh.0 c.new-in-Ok.ensures.fresh.2
