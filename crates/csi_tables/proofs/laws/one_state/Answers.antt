use Rattle.csi_tables.proofs.StateLemmas.{same_either}
use Rattle.csi_tables.proofs.laws.one_state.Goals as goal

pub returns : goal.returns
returns c = same_either c.read_back.ensures
