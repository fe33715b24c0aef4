use Rattle.std.proofs.Common.{sym, ap, ◌∙◌}
use Rattle.csi_types.specs.Maps.{same_text}
use Rattle.csi_types.specs.declared.topology.segments.Segment.{Segment}
use Rattle.csi_types.proofs.SegmentLemmas.{found_place}
use Rattle.csi_types.proofs.topology.is_among.Goals as goal

pub returns-in-Ok : goal.returns-in-Ok
returns-in-Ok c = λ same.
    let found = c.index-segments-place.result in
    found_place c.args.segments.now c.in-Ok.place found (record { key = c.args.key; value = c.args.value }) c.in-Ok.ensures.bound c.index-segments-place.is (c.in-Ok.ensures.ok found) (ap (λ (t : Segment). same_text c.args.value.now t.value.now) c.index-segments-place.is ∙ sym c.eq.ensures ∙ same)
