use Rattle.csi_tables.proofs.ModeLemmas.{all_known}
use Rattle.csi_tables.proofs.laws.known_modes.Goals as goal

pub returns : goal.returns
returns c = all_known
