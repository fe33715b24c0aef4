use Rattle.csi_change_store.proofs.GivingLemmas.{given}
use Rattle.csi_change_store.proofs.laws.gives_rows.Goals as goal

pub returns : goal.returns
returns c = given
