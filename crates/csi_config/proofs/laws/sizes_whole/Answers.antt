use Rattle.csi_config.proofs.ConfigLemmas.{up_to}
use Rattle.csi_config.proofs.GoodLemmas.{good}
use Rattle.csi_config.proofs.laws.sizes_whole.Goals as goal

pub returns : goal.returns
returns c = record {
  default = (good c.args.config.now).default;
  greatest = (good c.args.config.now).greatest;
  order = up_to _ _ (good c.args.config.now).order;
  limit = up_to _ _ (good c.args.config.now).limit;
}
