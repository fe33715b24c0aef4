-- The rules that a pool breaks by its size and its segments.
use Rattle.std.specs.Prelude.{Bool, false, []}
use Rattle.csi_config.specs.Faults.{breaks_pool}
use Rattle.csi_config.specs.declared.fault.PoolRule.{PoolRule}
use Rattle.csi_config.specs.declared.fault.PoolRule.TheVariants.{Name, NameTwice}
use Rattle.csi_config.specs.declared.pools.Pool.{Pool}

-- a pool breaks a rule for its size or its segments
abbrev pub pool_breaks : PoolRule → Pool → Bool
pool_breaks Name pool = false
pool_breaks NameTwice pool = false
pool_breaks rule pool = breaks_pool rule [] pool
