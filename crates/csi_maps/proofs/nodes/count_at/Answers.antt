use Rattle.csi_maps.proofs.NodesLemmas.{none_ordered}
use Rattle.csi_maps.proofs.nodes.count_at.Goals as goal

pub returns-in-None-clause-ordered : goal.returns-in-None-clause-ordered
returns-in-None-clause-ordered c = none_ordered c.args.nodes.now.entries c.args.node.now c.in-None.ensures.value
