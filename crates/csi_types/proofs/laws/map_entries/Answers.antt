use Rattle.csi_types.proofs.Maps.{again}
use Rattle.csi_types.proofs.laws.map_entries.Goals as goal

pub returns : goal.returns
returns c = again
