use Rattle.csi_config.proofs.ConfigLemmas.{pools_apart}
use Rattle.csi_config.proofs.GoodLemmas.{good}
use Rattle.csi_config.proofs.laws.pool_names_differ.Goals as goal

pub returns : goal.returns
returns c = pools_apart c.pairs.ensures _ (good c.args.config.now).names_apart
