use Rattle.std.proofs.Common.{ap, sym, ◌∙◌, ◌==◌, map, filter, rules, List}
use Rattle.std.specs.Map.Iter.{deref_pair}
use Rattle.std.proofs.lemmas.Map.Iter.{iter_end}
use Rattle.csi_keeper.specs.State.{AttachmentKey}
use Rattle.csi_keeper.specs.declared.volume.Attachment.{Attachment}
use Rattle.csi_maps.specs.facts.Listing.{place_rows}
use Rattle.csi_maps.proofs.attachments.nodes_of.Goals as goal

pub returns : goal.returns
returns c =
    let e = iter_end deref_pair _ c.loop-place.yielded _ _ _ c.next.result (search rules) c.loop-place.yielded_by c.in-None.is c.next.ensures.steps in
    let nodes = λ (es : List (AttachmentKey × Attachment)). map (λ (a : Attachment). a.node) (map (λ e. e.1) es) in
    c.loop-place.invariant ∙ ap (λ (es : List (AttachmentKey × Attachment)). nodes (filter (λ e. e.0.0 == c.args.number) es)) e.0
    ∙ ap nodes (place_rows c.args.attachments.now.entries c.args.number)
    ∙ ap (λ (es : List (AttachmentKey × Attachment)). nodes (filter (λ e. e.0.0 == c.args.number) es)) (sym c.places_of_one-place-items.ensures.ordered)
