use Rattle.csi_constraints.proofs.AgreementLemmas.{volume_agrees}
use Rattle.csi_constraints.proofs.laws.volumes.Goals as goal

pub returns : goal.returns
returns c = volume_agrees c.read_back.ensures
