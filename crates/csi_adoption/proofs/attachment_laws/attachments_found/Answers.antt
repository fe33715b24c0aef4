use Rattle.csi_adoption.proofs.AttachmentFoundLemmas.{attachments_found}
use Rattle.csi_adoption.proofs.attachment_laws.attachments_found.Goals as goal

pub returns : goal.returns
returns c = attachments_found c.attachments.ensures c.owners.ensures c.pairs.ensures
