use Rattle.csi_adoption.proofs.VolumePoolLemmas.{totals_found}
use Rattle.csi_adoption.proofs.laws.totals_found.Goals as goal

pub returns : goal.returns
returns c = totals_found
