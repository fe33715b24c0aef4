use Rattle.std.proofs.Common.{ap, ◌∙◌, ◌==◌, map, filter, rules, List}
use Rattle.std.specs.Map.Iter.{deref_pair}
use Rattle.std.proofs.lemmas.Map.Iter.{iter_end}
use Rattle.csi_keeper.specs.State.{AttachmentKey}
use Rattle.csi_keeper.specs.declared.volume.Attachment.{Attachment}
use Rattle.csi_maps.proofs.attachments.attached_to.Goals as goal

pub returns : goal.returns
returns c =
    let e = iter_end deref_pair _ c.loop-place.yielded _ _ _ c.next.result (search rules) c.loop-place.yielded_by c.in-None.is c.next.ensures.steps in
    record {
      value = c.loop-place.invariant ∙ ap (λ (es : List (AttachmentKey × Attachment)). map (λ e. e.1) (filter (λ e. e.0.0 == c.args.number) es)) e.0;
      ordered = c.places_of_one-place-items.ensures.ordered;
    }
