use Rattle.std.proofs.Common.{◌∙◌, refl}
use Rattle.csi_keeper.specs.facts.Reads.{read_same}
use Rattle.csi_memory.proofs.ReadLemmas.{held_places}
use Rattle.csi_memory.proofs.mem.MemKeeperKeeper.attachments.Goals as goal

pub returns : goal.returns
returns c = read_same _ _ refl (λ d s k. c.in_ok-attached_to.ensures.value ∙ held_places _ _ _ _ _ _ s c.args.number c.in_ok-attached_to.ensures.ordered k)
