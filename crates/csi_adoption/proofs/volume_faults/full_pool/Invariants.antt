use Rattle.std.proofs.Common.{◌≡◌}
use Rattle.std.specs.Iterator.Adapters.{zip_first, zip_second}
use Rattle.std.specs.Slice.Iter.{iter_rest}
use Rattle.csi_adoption.specs.Faults.{full_pool}
use Rattle.csi_adoption.specs.Seen.{sums_of}
use Rattle.csi_adoption.proofs.volume_faults.full_pool.Given as goal

-- the first full pool of all pools is the first full one of the pools that are left
abbrev pub invariant-loop-pool : goal.invariant-loop-pool
invariant-loop-pool l =
    (goal.iterator-loop-pool).can_next l.pool-iterator
    × (goal.iterator-loop-pool).is_finite l.pool-iterator
    × (full_pool l.pools (sums_of l.bytes) ≡ full_pool (iter_rest (zip_first l.pool-iterator)) (sums_of (iter_rest (zip_second l.pool-iterator))))
