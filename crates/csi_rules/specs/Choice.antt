-- The choice of the pool of a new volume.
use Rattle.std.specs.Prelude.{ℕ, ◌-◌, ◌&&◌, nat_le, Bool, List, Option, map, find, sum_by}
use Rattle.std.specs.Option.{option_map}
use Rattle.std.specs.List.{flat_map}
use Rattle.csi_types.specs.Maps.{TextMap}
use Rattle.csi_config.specs.declared.config.Config.{Config}
use Rattle.csi_config.specs.declared.pools.Pool.{Pool}
use Rattle.csi_keeper.specs.declared.change.Usage.{Usage}
use Rattle.csi_rules.specs.declared.choice.Room as code
use Rattle.csi_keeper.specs.State.{State, used}
use Rattle.csi_rules.specs.Topology.{serves}

-- a pool, and the usage of its volumes
abbrev pub Room : Type 0
Room = Pool × Usage

abbrev pub room_value : code.Room → Room
room_value r = (r.pool.now, r.used)

abbrev pub free : Room → ℕ
free r = r.0.bytes - r.1.bytes

-- the pools with their usage, in the order of the configuration
abbrev pub rooms : Config → State → List Room
rooms config s = map (λ p. (p, used s p.name)) config.pools

-- the pairs of a term and a pool, in the order of the terms and then of the pools
abbrev pub pairs : List TextMap → List Room → List (TextMap × Room)
pairs ts rs = flat_map (λ t. map (λ r. (t, r)) rs) ts

-- the pool serves the term and has room for the size
abbrev pub fits : ℕ → TextMap × Room → Bool
fits size p = serves p.1.0.segments p.0 && nat_le size (free p.1)

-- the pool of the first pair that fits
abbrev pub choice : List Room → List TextMap → ℕ → Option Pool
choice rs ts size = option_map (λ p. p.1.0) (find (fits size) (pairs ts rs))

-- the number of volumes in all pools
abbrev pub count : List Room → ℕ
count rs = sum_by (λ r. r.1.volumes) rs
