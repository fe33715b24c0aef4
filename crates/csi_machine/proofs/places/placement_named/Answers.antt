use Rattle.std.proofs.Common.{◌∙◌, ap, arith, subst, sym, true≢false, Some}
use Rattle.csi_machine.specs.Places.{IsPlaced}
use Rattle.csi_machine.specs.declared.places.PoolPlacement.{PoolPlacement}
use Rattle.csi_machine.proofs.PageLemmas.{found_here, looked_past, placed_at}
use Rattle.csi_machine.proofs.places.placement_named.Goals as goal

pub returns-then-is_of-clause-placed : goal.returns-then-is_of-clause-placed
returns-then-is_of-clause-placed c config placed =
    subst (λ place. IsPlaced config place) (sym c.place-item.is) (placed_at config c.args.places.now c.loop-place.place-index c.place-item.result (omega arith) placed)

pub returns-then-is_of-clause-exact : goal.returns-then-is_of-clause-exact
returns-then-is_of-clause-exact c =
    let here = ap (λ (p : PoolPlacement). p.pool) (sym c.place-item.is) ∙ c.is_of.ensures.0 c.if-is_of.true ∙ c.as_str-pool.ensures.bytes in
    sym (c.loop-place.invariant ∙ found_here c.args.pool.now c.args.places.now c.loop-place.place-index c.place-item.result (omega arith) here ∙ ap Some (sym c.place-item.is))

pub loop-place-preserved : goal.loop-place-preserved
loop-place-preserved c =
    c.loop-place.invariant
    ∙ looked_past c.args.pool.now c.args.places.now c.loop-place.place-index c.place-item.result (omega arith)
    (λ same. true≢false (sym (c.is_of.ensures.1 (ap (λ (p : PoolPlacement). p.pool) c.place-item.is ∙ same ∙ sym c.as_str-pool.ensures.bytes)) ∙ c.if-is_of.false))
