use Rattle.std.proofs.Common.{◌≡◌, ◌∙◌, ap, sym, subst, false, List, rules}
use Rattle.csi_keeper.specs.State.{AttachmentKey}
use Rattle.csi_keeper.specs.Texts.{Text}
use Rattle.csi_keeper.specs.declared.volume.Attachment.{Attachment}
use Rattle.csi_maps.specs.Rows.{AreSpotted, IsSpotSet}
use Rattle.csi_maps.specs.facts.Spots.{spotted_more, spotted_again, spotted_same}
use Rattle.csi_maps.proofs.attachments.put_attachment.Goals as goal

pub returns-clause-spotted : goal.returns-clause-spotted
returns-clause-spotted c none old = spotted_more _ _ _ _ (c.args.number, c.args.attachment.now.node) c.args.attachment.now (search rules) c.in_ok-put_spot.ensures.ok c.put_spot.ensures.full old

pub returns-in_err-put_spot-clause-spotted : goal.returns-in_err-put_spot-clause-spotted
returns-in_err-put_spot-clause-spotted c none old = spotted_same _ _ _ c.in_err-put_spot.ensures.err c.put_spot.ensures.full old

pub returns-in-Err-clause-spotted : goal.returns-in-Err-clause-spotted
returns-in-Err-clause-spotted c none old =
    let place : c.in-Err.failed.value.0 ≡ (c.args.number, c.args.attachment.now.node) =
    ap (λ (p : AttachmentKey × Attachment). p.0) c.in-Err.ensures.back ∙ ap (λ (t : Text). (c.args.number, t)) (c.in_ok-copy_text.ensures ∙ c.as_str.ensures.bytes) in
    let gone = subst (λ (p : AttachmentKey). IsSpotSet (p.1, p.0) false c.put_spot.new.nodes.entries c.drop_spot.new.nodes.entries) place c.drop_spot.ensures.gone in
    subst (λ (es : List (AttachmentKey × Attachment)). AreSpotted es c.drop_spot.new.nodes.entries) (sym c.in-Err.ensures.err)
    (spotted_again _ _ _ _ (c.args.number, c.args.attachment.now.node) none c.in_ok-put_spot.ensures.ok gone (λ full. c.drop_spot.ensures.full (c.put_spot.ensures.full full)) old)
