use Rattle.csi_adoption.proofs.AttachmentPassLemmas.{owners_pass}
use Rattle.csi_adoption.proofs.attachment_laws.owners_pass.Goals as goal

pub returns : goal.returns
returns c = λ config format s db owned are good same. owners_pass config format s db are good c.owners.ensures owned same
