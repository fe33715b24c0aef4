use Rattle.csi_adoption.proofs.VolumePoolLemmas.{none_elsewhere}
use Rattle.csi_adoption.proofs.laws.pools_elsewhere.Goals as goal

pub returns : goal.returns
returns c = none_elsewhere
