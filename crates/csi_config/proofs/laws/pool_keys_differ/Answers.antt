use Rattle.std.proofs.Common.{nat_lt}
use Rattle.std.specs.FinMap.{len}
use Rattle.csi_types.specs.Topology.{has_alike_keys}
use Rattle.csi_types.specs.declared.limits.TheConstants.{MAX_SEGMENTS}
use Rattle.csi_config.proofs.ConfigLemmas.{up_to, each_passes}
use Rattle.csi_config.proofs.GoodLemmas.{good}
use Rattle.csi_config.specs.declared.pools.Pool.{Pool}
use Rattle.csi_config.proofs.laws.pool_keys_differ.Goals as goal

pub returns : goal.returns
returns c = record {
  bounded = λ p h. up_to _ _ (each_passes (λ (p : Pool). nat_lt MAX_SEGMENTS (len p.segments)) _ (good c.args.config.now).few_segments p h);
  differ = each_passes (λ (p : Pool). has_alike_keys p.segments) _ (good c.args.config.now).keys_apart;
}
