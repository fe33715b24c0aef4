-- The pool with a name and the node with an id, in a configuration.
use Rattle.std.specs.Prelude.{List, Option, find}
use Rattle.csi_types.specs.Maps.{same_text}
use Rattle.csi_config.specs.declared.config.Config.{Config}
use Rattle.csi_config.specs.declared.nodes.Node.{Node}
use Rattle.csi_config.specs.declared.pools.Pool.{Pool}
use Rattle.csi_keeper.specs.Texts.{Text}

abbrev pub pool_named : List Pool → Text → Option Pool
pool_named pools name = find (λ p. same_text p.name name) pools

abbrev pub node_of : Config → Text → Option Node
node_of config id = find (λ m. same_text m.id id) config.nodes
