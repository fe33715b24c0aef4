use Rattle.csi_config.proofs.ConfigLemmas.{above_none, up_to, first_on, first_off, second_off, label_given, label_short}
use Rattle.csi_config.proofs.GoodLemmas.{good}
use Rattle.csi_config.proofs.laws.plugin_named.Goals as goal

pub returns : goal.returns
returns c = record {
  name = (good c.args.config.now).name;
  name_given = label_given _ _ (first_on _ _ (first_on _ _ (good c.args.config.now).name));
  name_short = label_short _ _ (first_on _ _ (first_on _ _ (good c.args.config.now).name));
  version_given = above_none _ (first_off _ _ (good c.args.config.now).version);
  version_short = up_to _ _ (second_off _ _ (good c.args.config.now).version);
}
