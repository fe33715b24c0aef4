use Rattle.csi_config.proofs.ConfigLemmas.{nodes_apart, up_to}
use Rattle.csi_config.proofs.GoodLemmas.{good}
use Rattle.csi_config.proofs.laws.node_ids_differ.Goals as goal

pub returns : goal.returns
returns c = record {
  bounded = up_to _ _ (good c.args.config.now).few_nodes;
  differ = nodes_apart c.pairs.ensures _ (good c.args.config.now).ids_apart;
}
