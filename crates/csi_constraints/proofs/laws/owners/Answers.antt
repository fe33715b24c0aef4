use Rattle.csi_constraints.proofs.AgreementLemmas.{owner_agrees}
use Rattle.csi_constraints.proofs.laws.owners.Goals as goal

pub returns : goal.returns
returns c = owner_agrees c.read_back.ensures
