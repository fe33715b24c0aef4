use Rattle.csi_adoption.proofs.VolumePassLemmas.{volumes_pass}
use Rattle.csi_adoption.proofs.laws.volumes_pass.Goals as goal

pub returns : goal.returns
returns c = volumes_pass c.volumes.ensures
