use Rattle.std.proofs.Common.{◌+◌, arith, List, subst, sym, take}
use Rattle.std.specs.List.{AllZip}
use Rattle.csi_constraints.specs.declared.sums.TextSum.{TextSum}
use Rattle.csi_adoption.specs.Starting.{IsBegun}
use Rattle.csi_adoption.proofs.BegunLemmas.{begun_all, begun_more}
use Rattle.csi_adoption.proofs.sums.pool_sums.Goals as goal

pub loop-pool-preserved : goal.loop-pool-preserved
loop-pool-preserved c =
    let sum = c.in_ok-sum_of.field-0 in
    let begun = subst (λ text. IsBegun 3 text c.args.weight sum) c.as_bytes.ensures.bytes c.in_ok-sum_of.ensures in
    subst (AllZip (λ p sum. IsBegun 3 p.name c.args.weight sum) (take (c.loop-pool.pool-index + 1) c.args.pools.now)) (sym {A = List TextSum} c.in_ok-push.ensures.items)
    (begun_more (λ p sum. IsBegun 3 p.name c.args.weight sum) c.args.pools.now c.loop-pool.pool-index c.pool-item.result c.loop-pool.parts.items sum (omega arith) c.pool-item.is c.loop-pool.invariant begun)

pub returns : goal.returns
returns c = begun_all (λ p sum. IsBegun 3 p.name c.args.weight sum) c.args.pools.now c.loop-pool.pool-index c.loop-pool.parts.items (omega arith) c.loop-pool.invariant
