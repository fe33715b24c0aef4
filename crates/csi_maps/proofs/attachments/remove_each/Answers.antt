use Rattle.std.proofs.Common.{◌∙◌, ap, sym}
use Rattle.std.specs.FinMap.{FinMap, remove}
use Rattle.csi_keeper.specs.State.{attachment_key_cmp}
use Rattle.csi_keeper.specs.declared.volume.Attachment.{Attachment}
use Rattle.csi_maps.proofs.DetachLemmas.{each_more}
use Rattle.csi_maps.proofs.attachments.remove_each.Goals as goal

pub loop-place-preserved : goal.loop-place-preserved
loop-place-preserved c = record {
  rows = c.remove_attachment.ensures.rows ∙ ap (λ (m : FinMap attachment_key_cmp Attachment). remove m c.in-Some.place) c.loop-place.invariant.rows ∙ sym (each_more _ c.loop-place.yielded c.in-Some.place);
  spotted = λ old. c.remove_attachment.ensures.spotted (c.loop-place.invariant.spotted old);
}
