use Rattle.csi_adoption.proofs.MetaLemmas.{meta_pass}
use Rattle.csi_adoption.proofs.laws.meta_pass.Goals as goal

pub returns : goal.returns
returns c = meta_pass
