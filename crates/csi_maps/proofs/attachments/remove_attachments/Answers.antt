use Rattle.std.proofs.Common.{◌∙◌}
use Rattle.csi_maps.proofs.DetachLemmas.{each_detached}
use Rattle.csi_maps.proofs.attachments.remove_attachments.Goals as goal

pub returns-clause-ok : goal.returns-clause-ok
returns-clause-ok c = c.remove_each.ensures.rows ∙ each_detached _ _ c.args.number c.in_ok-places.ensures.ordered c.in_ok-places.ensures.value
