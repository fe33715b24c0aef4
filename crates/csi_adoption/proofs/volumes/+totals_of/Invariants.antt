use Rattle.std.proofs.Common.{length}
use Rattle.csi_adoption.proofs.volumes.+totals_of.Given as goal

abbrev pub decreases-totals_of : goal.decreases-totals_of
decreases-totals_of l = length l.pools.now
