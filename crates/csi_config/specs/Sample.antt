-- The sample configuration.
use Rattle.std.specs.Prelude.{ℕ, List, [], ◌∷◌, codes}
use Rattle.std.specs.FinMap.{empty, insert}
use Rattle.csi_config.specs.declared.nodes.Node.{Node}
use Rattle.csi_config.specs.declared.plugin.Plugin.{Plugin}
use Rattle.csi_config.specs.declared.pools.Pool.{Pool}

abbrev pub sample_plugin : Plugin
sample_plugin = record { name = codes "pools.example.org"; version = codes "1.0.0" }

-- a pool with one segment
abbrev pub sample_pool : List ℕ → ℕ → List ℕ → Pool
sample_pool name bytes zone = record { name = name; bytes = bytes; segments = insert empty (codes "zone") zone }

-- a node for two volumes
abbrev pub sample_node : List ℕ → Node
sample_node id = record { id = id; max_volumes = 2 }

abbrev pub sample_pools : List Pool
sample_pools = sample_pool (codes "p1") 10485760 (codes "a") ∷ sample_pool (codes "p2") 4194304 (codes "b") ∷ []

abbrev pub sample_nodes : List Node
sample_nodes = sample_node (codes "n1") ∷ sample_node (codes "n2") ∷ []
