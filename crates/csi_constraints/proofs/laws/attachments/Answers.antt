use Rattle.csi_constraints.proofs.AgreementLemmas.{attachment_agrees}
use Rattle.csi_constraints.proofs.laws.attachments.Goals as goal

pub returns : goal.returns
returns c = attachment_agrees c.read_back.ensures
