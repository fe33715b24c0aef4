use Rattle.std.proofs.Common.{sym}
use Rattle.csi_maps.specs.Stored.{as_volume}
use Rattle.csi_memory.proofs.ChangeLemmas.{taken, kept_none}
use Rattle.csi_memory.proofs.mem.MemKeeper.remove.Goals as goal

pub returns-in_default : goal.returns-in_default
returns-in_default c s k a = kept_none _ _ _ _ _ _ s _ c.args.number k (sym c.in_default.ensures.value) c.remove_volume.ensures.rest

pub returns-in-Some : goal.returns-in-Some
returns-in-Some c s k a =
    taken _ _ _ _ _ _ s _ _ _ c.args.number (as_volume c.args.number c.in-Some.stored) k (sym c.in-Some.ensures.value)
    c.remove_volume.ensures.rest c.remove.ensures c.drop_name.ensures
