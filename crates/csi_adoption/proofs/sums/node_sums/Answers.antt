use Rattle.std.proofs.Common.{◌+◌, arith, List, subst, sym, take}
use Rattle.std.specs.List.{AllZip}
use Rattle.csi_constraints.specs.declared.sums.Weight.TheVariants.{One}
use Rattle.csi_constraints.specs.declared.sums.TextSum.{TextSum}
use Rattle.csi_adoption.specs.Starting.{IsBegun}
use Rattle.csi_adoption.proofs.BegunLemmas.{begun_all, begun_more}
use Rattle.csi_adoption.proofs.sums.node_sums.Goals as goal

pub loop-node-preserved : goal.loop-node-preserved
loop-node-preserved c =
    let sum = c.in_ok-sum_of.field-0 in
    let begun = subst (λ text. IsBegun 2 text One sum) c.as_bytes.ensures.bytes c.in_ok-sum_of.ensures in
    subst (AllZip (λ p sum. IsBegun 2 p.id One sum) (take (c.loop-node.node-index + 1) c.args.nodes.now)) (sym {A = List TextSum} c.in_ok-push.ensures.items)
    (begun_more (λ p sum. IsBegun 2 p.id One sum) c.args.nodes.now c.loop-node.node-index c.node-item.result c.loop-node.parts.items sum (omega arith) c.node-item.is c.loop-node.invariant begun)

pub returns : goal.returns
returns c = begun_all (λ p sum. IsBegun 2 p.id One sum) c.args.nodes.now c.loop-node.node-index c.loop-node.parts.items (omega arith) c.loop-node.invariant
