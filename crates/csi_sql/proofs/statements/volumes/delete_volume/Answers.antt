use Rattle.std.proofs.Common.{[], ◌∷◌}
use Rattle.csi_sql.specs.facts.Failing.{runs_over}
use Rattle.csi_sql.specs.Rows.{number_value}
use Rattle.csi_sql.specs.Texts.{text, RemoveVolume}
use Rattle.csi_sql.proofs.DoneLemmas.{runs_done}
use Rattle.csi_sql.proofs.DeleteLemmas.{removes}
use Rattle.csi_sql.proofs.TextLemmas.{alone}
use Rattle.csi_sql.proofs.statements.volumes.delete_volume.Goals as goal

pub returns-clause-runs : goal.returns-clause-runs
returns-clause-runs g c = rw c.and.ensures (runs_done c.execute.result (runs_over (text RemoveVolume) (number_value c.args.volume ∷ []) c.execute.result (alone RemoveVolume) (removes c.args.volume) (rw c.integer.ensures at c.execute.ensures.runs) c.execute.ensures.survives))
