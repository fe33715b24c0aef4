use Rattle.csi_adoption.proofs.AttachmentPassLemmas.{places_pass}
use Rattle.csi_adoption.proofs.attachment_laws.places_pass.Goals as goal

pub returns : goal.returns
returns c = λ config format s db places are good same. places_pass config format s db are good c.pairs.ensures places same
