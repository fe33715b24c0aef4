use Rattle.csi_types.proofs.FoldingLemmas.{equal_inner, equal_outer}
use Rattle.csi_types.proofs.laws.equal_topologies.Goals as goal

pub returns : goal.returns
returns c = record { inner = equal_inner; outer = equal_outer }
