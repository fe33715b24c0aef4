use Rattle.csi_adoption.proofs.VolumeFoundLemmas.{volumes_found}
use Rattle.csi_adoption.proofs.laws.volumes_found.Goals as goal

pub returns : goal.returns
returns c = volumes_found c.volumes.ensures
