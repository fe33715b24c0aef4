use Rattle.csi_adoption.proofs.AttachmentPassLemmas.{attachments_pass}
use Rattle.csi_adoption.proofs.attachment_laws.attachments_pass.Goals as goal

pub returns : goal.returns
returns c = λ config format s db rows are good order. attachments_pass config format s db are good c.attachments.ensures rows order
