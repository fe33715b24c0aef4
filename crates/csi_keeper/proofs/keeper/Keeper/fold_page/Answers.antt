use Rattle.std.proofs.Common.{◌∙◌, ap, subst, List}
use Rattle.csi_keeper.specs.Listing.{listed_each}
use Rattle.csi_keeper.specs.declared.volume.Volume.{Volume}
use Rattle.csi_keeper.proofs.ListedLemmas.{folded_page}
use Rattle.csi_keeper.proofs.keeper.Keeper.fold_page.Goals as goal

pub returns-clause-folded : goal.returns-clause-folded
returns-clause-folded g c =
    folded_page (λ reported. g.F.PageFold.folds c.args.fold.now reported c.fold_listed.new.fold) _ _ _ _ c.args.after c.args.count _ c.in_ok-volumes.ensures
    (c.as_slice-2.ensures ∙ c.in_ok-listed.ensures ∙ ap (λ (vs : List Volume). listed_each vs c.in_ok-volumes.field-0.nodes) c.as_slice.ensures) c.in_ok-fold_listed.ensures.folded
