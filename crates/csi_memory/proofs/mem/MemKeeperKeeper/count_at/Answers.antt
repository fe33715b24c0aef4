use Rattle.std.proofs.Common.{◌∙◌, refl}
use Rattle.csi_keeper.specs.facts.Reads.{read_same}
use Rattle.csi_memory.proofs.ReadLemmas.{held_count}
use Rattle.csi_memory.proofs.mem.MemKeeperKeeper.count_at.Goals as goal

pub returns : goal.returns
returns c = read_same _ _ refl (λ d s k. c.count_at.ensures.value ∙ held_count _ _ _ _ _ _ s c.args.node.now c.count_at.ensures.ordered k)
