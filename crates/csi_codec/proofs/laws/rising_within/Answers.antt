use Rattle.csi_codec.proofs.CapabilityLemmas.{capability_rises}
use Rattle.csi_codec.proofs.laws.rising_within.Goals as goal

pub returns-clause-capabilities : goal.returns-clause-capabilities
returns-clause-capabilities c = capability_rises
