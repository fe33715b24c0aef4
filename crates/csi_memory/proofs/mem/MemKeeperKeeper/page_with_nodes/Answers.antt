use Rattle.std.proofs.Common.{◌∙◌, refl}
use Rattle.csi_keeper.specs.facts.Reads.{read_same}
use Rattle.csi_maps.specs.Rows.{nodes_in}
use Rattle.csi_maps.specs.facts.Stored.{page_stored}
use Rattle.csi_memory.proofs.ReadLemmas.{held_nodes, held_page}
use Rattle.csi_memory.proofs.mem.MemKeeperKeeper.page_with_nodes.Goals as goal

pub returns : goal.returns
returns c = read_same _ _ refl (λ d s k. record {
  volumes = c.in_ok-volumes_after.ensures.value ∙ page_stored (λ v. v) c.args.self.now.volumes.entries c.args.after c.args.count
      ∙ held_page _ _ _ _ _ _ s c.args.after c.args.count c.in_ok-volumes_after.ensures.ordered k;
  nodes = c.in_ok-nodes_after.ensures.value
      ∙ page_stored (λ v. nodes_in c.args.self.now.attachments.entries v.number) c.args.self.now.volumes.entries c.args.after c.args.count
      ∙ held_nodes _ _ _ _ _ _ s c.args.after c.args.count c.in_ok-nodes_after.ensures.ordered k;
})
