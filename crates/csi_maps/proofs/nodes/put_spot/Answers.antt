use Rattle.std.proofs.Common.{ap, sym, ◌∙◌, Some, rules}
use Rattle.csi_maps.specs.Rows.{numbers_in}
use Rattle.csi_maps.proofs.NodesLemmas.{on_err, spot_set, spots_kept}
use Rattle.csi_maps.proofs.nodes.put_spot.Goals as goal

pub returns-in_err-insert-clause-err : goal.returns-in_err-insert-clause-err
returns-in_err-insert-clause-err c =
    let found = c.in-Some.ensures.value in
    let t = c.insert.new.self in
    on_err c.from_residual.result
    (spots_kept _ _ c.args.node.now c.args.number (Some t) ((c.get_mut.follows.holds t).3 (search rules)).0
    (ap numbers_in (sym found) ∙ sym c.in_err-insert.ensures.err))

pub returns-in-Some-clause-ok : goal.returns-in-Some-clause-ok
returns-in-Some-clause-ok c =
    let found = c.in-Some.ensures.value in
    let t = c.insert.new.self in
    spot_set _ _ c.args.node.now c.args.number (Some t) _ _ ((c.get_mut.follows.holds t).3 (search rules)).0
    (ap numbers_in (sym found)) c.in_ok-insert.ensures.updates.0

pub returns-clause-ok : goal.returns-clause-ok
returns-clause-ok c =
    spot_set _ _ c.args.node.now c.args.number (Some c.insert-2.new.self) _ _ (search rules)
    (ap numbers_in (sym c.in_default.ensures.value) ∙ sym c.new-numbers.ensures.empty) c.in_ok-insert-2.ensures.updates.0
