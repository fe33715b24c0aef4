use Rattle.csi_adoption.proofs.VolumeSumLemmas.{pool_reported}
use Rattle.csi_adoption.proofs.laws.pools_reported.Goals as goal

pub returns : goal.returns
returns c = pool_reported
