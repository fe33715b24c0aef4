-- The properties of a configuration that requests need.
use Rattle.std.specs.Prelude.{◌≡◌, ◌≤◌, ◌^◌, true}
use Rattle.csi_config.specs.Faults.{is_whole}
use Rattle.csi_config.specs.Values.{Has}
use Rattle.csi_config.specs.declared.config.Config.{Config}
use Rattle.csi_config.specs.declared.nodes.Node.{Node}
use Rattle.csi_config.specs.declared.pools.Pool.{Pool}

pub record IsConfigured (config : Config) : Type 0 where
  -- sizes are positive multiples of 1 MiB
  pub default : is_whole config.sizes.default_bytes ≡ true
  pub greatest : is_whole config.sizes.greatest_bytes ≡ true
  pub wholes : (p : Pool) → Has config.pools p → is_whole p.bytes ≡ true
  -- sizes are at most 2 ^ 62 bytes
  pub most : config.sizes.greatest_bytes ≤ 2 ^ 62
  pub small : (p : Pool) → Has config.pools p → p.bytes ≤ 2 ^ 62
  -- no two pools have the same name, and no two nodes have the same id
  pub pools : (p q : Pool) → Has config.pools p → Has config.pools q → p.name ≡ q.name → p ≡ q
  pub nodes : (m n : Node) → Has config.nodes m → Has config.nodes n → m.id ≡ n.id → m ≡ n
