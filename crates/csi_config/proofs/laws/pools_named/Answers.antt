use Rattle.std.proofs.Common.{not}
use Rattle.csi_config.proofs.ConfigLemmas.{above_none, up_to, not_off, each_passes}
use Rattle.csi_config.proofs.GoodLemmas.{good}
use Rattle.csi_config.specs.Faults.{is_pool_name}
use Rattle.csi_config.specs.declared.pools.Pool.{Pool}
use Rattle.csi_config.proofs.laws.pools_named.Goals as goal

pub returns : goal.returns
returns c = record {
  positive = above_none _ (good c.args.config.now).some_pools;
  bounded = up_to _ _ (good c.args.config.now).few_pools;
  names = λ p h. not_off _ (each_passes (λ (p : Pool). not (is_pool_name p.name)) _ (good c.args.config.now).names p h);
}
