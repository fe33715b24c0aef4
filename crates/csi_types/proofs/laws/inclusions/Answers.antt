use Rattle.csi_types.proofs.OverlayLemmas.{has_itself, included}
use Rattle.csi_types.proofs.laws.inclusions.Goals as goal

pub returns : goal.returns
returns c = record { values = included; own = has_itself }
