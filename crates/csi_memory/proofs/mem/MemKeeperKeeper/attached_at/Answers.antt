use Rattle.std.proofs.Common.{◌∙◌, refl}
use Rattle.csi_keeper.specs.facts.Reads.{read_same}
use Rattle.csi_memory.proofs.ReadLemmas.{held_at}
use Rattle.csi_memory.proofs.mem.MemKeeperKeeper.attached_at.Goals as goal

pub returns : goal.returns
returns c = read_same _ _ refl (λ d s k. c.in_ok-numbers_at.ensures.value ∙ held_at _ _ _ _ _ _ s c.args.node.now c.in_ok-numbers_at.ensures.ordered k)
