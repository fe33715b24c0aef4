use Rattle.std.proofs.Common.{◌∙◌, refl}
use Rattle.csi_keeper.specs.facts.Reads.{read_same}
use Rattle.csi_memory.proofs.NamesLemmas.{named_kept}
use Rattle.csi_memory.proofs.mem.MemKeeperKeeper.by_name.Goals as goal

pub returns : goal.returns
returns c = read_same _ _ refl (λ d s k. c.in_ok-volume_named.ensures ∙ named_kept _ _ _ _ _ _ s c.args.name.now k)
