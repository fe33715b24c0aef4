use Rattle.csi_constraints.proofs.AgreementLemmas.{pair_agrees}
use Rattle.csi_constraints.proofs.laws.pairs.Goals as goal

pub returns : goal.returns
returns c = pair_agrees c.read_back.ensures
