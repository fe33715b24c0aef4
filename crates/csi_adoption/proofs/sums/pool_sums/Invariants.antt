use Rattle.std.proofs.Common.{take}
use Rattle.std.specs.List.{AllZip}
use Rattle.csi_adoption.specs.Starting.{IsBegun}
use Rattle.csi_adoption.proofs.sums.pool_sums.Given as goal

abbrev pub invariant-loop-pool : goal.invariant-loop-pool
invariant-loop-pool l = AllZip (λ p sum. IsBegun 3 p.name l.weight sum) (take l.pool-index l.pools) l.parts.items
