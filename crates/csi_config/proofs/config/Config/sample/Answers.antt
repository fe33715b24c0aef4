use Rattle.csi_config.proofs.SampleLemmas.{sample_faultless}
use Rattle.csi_config.proofs.config.Config.sample.Goals as goal

pub unreachable-requires : goal.unreachable-requires
unreachable-requires c = absurd (cc (sample_faultless, c.in-Err.ensures.fault, c.in_ok-plugin.ensures, c.in_ok-pools.ensures, c.in_ok-nodes.ensures))
