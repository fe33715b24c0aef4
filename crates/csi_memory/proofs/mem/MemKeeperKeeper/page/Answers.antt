use Rattle.std.proofs.Common.{◌∙◌, refl}
use Rattle.csi_keeper.specs.facts.Reads.{read_same}
use Rattle.csi_maps.specs.facts.Stored.{page_stored}
use Rattle.csi_memory.proofs.ReadLemmas.{held_page}
use Rattle.csi_memory.proofs.mem.MemKeeperKeeper.page.Goals as goal

pub returns : goal.returns
returns c = read_same _ _ refl (λ d s k.
    c.in_ok-volumes_after.ensures.value ∙ page_stored (λ v. v) c.args.self.now.volumes.entries c.args.after c.args.count
    ∙ held_page _ _ _ _ _ _ s c.args.after c.args.count c.in_ok-volumes_after.ensures.ordered k)
