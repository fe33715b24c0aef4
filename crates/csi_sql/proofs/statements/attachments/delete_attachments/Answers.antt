use Rattle.std.proofs.Common.{[], ◌∷◌}
use Rattle.csi_sql.specs.facts.Failing.{runs_over}
use Rattle.csi_sql.specs.Rows.{number_value}
use Rattle.csi_sql.specs.Texts.{text, DetachAll}
use Rattle.csi_sql.proofs.DoneLemmas.{runs_done}
use Rattle.csi_sql.proofs.DeleteLemmas.{detaches_all}
use Rattle.csi_sql.proofs.TextLemmas.{alone}
use Rattle.csi_sql.proofs.statements.attachments.delete_attachments.Goals as goal

pub returns-clause-runs : goal.returns-clause-runs
returns-clause-runs g c = rw c.and.ensures (runs_done c.execute.result (runs_over (text DetachAll) (number_value c.args.volume ∷ []) c.execute.result (alone DetachAll) (detaches_all c.args.volume) (rw c.integer.ensures at c.execute.ensures.runs) c.execute.ensures.survives))
