use Rattle.csi_tables.proofs.RowLemmas.{rows_latest}
use Rattle.csi_tables.proofs.laws.latest.Goals as goal

pub returns : goal.returns
returns c = rows_latest
