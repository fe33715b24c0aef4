-- Pools that are too small for their volumes.
use Rattle.std.specs.Prelude.{ℕ, nat_lt, Bool}
use Rattle.csi_config.specs.declared.pools.Pool.{Pool}

-- the pool has fewer bytes than the sum of its volumes' bytes
abbrev pub is_overcommitted : Pool → ℕ → Bool
is_overcommitted p sum = nat_lt p.bytes sum
