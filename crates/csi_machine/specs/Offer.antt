-- The request of a create that GetCapacity offers (CSI specification, 'GetCapacity', maximum_volume_size).
use Rattle.std.specs.Prelude.{◌≡◌, ℕ, pos, ◌<◌, Option, Some, None}
use Rattle.std.specs.FinMap.{empty}
use Rattle.csi_types.specs.Maps.{TextMap}
use Rattle.csi_types.specs.declared.capacity.CapacityRange.{CapacityRange}
use Rattle.csi_types.specs.declared.limits.TheConstants.{MAX_NUMBER, MAX_VOLUMES}
use Rattle.csi_types.specs.declared.requests.CreateVolume.{CreateVolume}
use Rattle.csi_config.specs.Values.{Has}
use Rattle.csi_config.specs.declared.config.Config.{Config}
use Rattle.csi_rules.specs.Choice.{rooms, count}
use Rattle.csi_keeper.specs.State.{State, named}
use Rattle.csi_keeper.specs.Texts.{Text}
use Rattle.csi_rules.specs.Size.{size}
use Rattle.csi_rules.specs.Topology.{terms}

-- the topology of a GetCapacity as a term; without a topology the empty term
abbrev pub term_of : Option TextMap → TextMap
term_of None = empty
term_of (Some t) = t

-- the range for exactly this size
abbrev pub exactly : ℕ → CapacityRange
exactly n = record { required = pos n; limit = pos n }

-- the requested range gives a volume of exactly this size, as the range of `exactly` does, and the topology
-- is one of the terms
pub record AsksFor (config : Config) (r : CreateVolume) (topology : Option TextMap) (n : ℕ) : Type 0 where
  pub sized : size config.sizes r.range ≡ Some n
  pub term : Has (terms r.topology) (term_of topology)

-- no volume has the name, and neither the count of volumes nor their numbers are used up
pub record IsNew (config : Config) (s : State) (name : Text) : Type 0 where
  pub unnamed : named s name ≡ None
  pub few : count (rooms config s) < MAX_VOLUMES
  pub numbered : s.next < MAX_NUMBER
