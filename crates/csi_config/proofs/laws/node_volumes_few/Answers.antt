use Rattle.std.proofs.Common.{◌==◌, ◌||◌, nat_lt}
use Rattle.csi_types.specs.declared.limits.TheConstants.{MAX_VOLUMES}
use Rattle.csi_config.proofs.ConfigLemmas.{above_zero, up_to, each_passes, first_off, second_off}
use Rattle.csi_config.proofs.GoodLemmas.{good}
use Rattle.csi_config.specs.declared.nodes.Node.{Node}
use Rattle.csi_config.proofs.laws.node_volumes_few.Goals as goal

pub returns : goal.returns
returns c = record {
  positive = λ n h. above_zero _ (first_off _ _ (each_passes (λ (n : Node). n.max_volumes == 0 || nat_lt MAX_VOLUMES n.max_volumes) _ (good c.args.config.now).volumes n h));
  bounded = λ n h. up_to _ _ (second_off (n.max_volumes == 0) _ (each_passes (λ (n : Node). n.max_volumes == 0 || nat_lt MAX_VOLUMES n.max_volumes) _ (good c.args.config.now).volumes n h));
}
