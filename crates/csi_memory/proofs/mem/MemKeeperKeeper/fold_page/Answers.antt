use Rattle.std.proofs.Common.{◌∙◌, refl, subst}
use Rattle.csi_keeper.specs.facts.Reads.{read_same}
use Rattle.csi_maps.specs.Rows.{listed_in}
use Rattle.csi_maps.specs.facts.Stored.{page_stored}
use Rattle.csi_memory.proofs.ReadLemmas.{held_listing}
use Rattle.csi_memory.proofs.mem.MemKeeperKeeper.fold_page.Goals as goal

pub returns-clause-folded : goal.returns-clause-folded
returns-clause-folded g c =
    read_same _ _ refl (λ d s k. subst (λ reported. g.F.PageFold.folds c.args.fold.now reported c.fold_after.new.fold)
    (page_stored (listed_in c.args.self.now.attachments.entries) c.args.self.now.volumes.entries c.args.after c.args.count
    ∙ held_listing _ _ _ _ _ _ s c.args.after c.args.count c.in_ok-fold_after.ensures.ordered k) c.in_ok-fold_after.ensures.folded)
