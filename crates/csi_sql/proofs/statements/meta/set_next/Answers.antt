use Rattle.std.proofs.Common.{[], ◌∷◌}
use Rattle.csi_sql.specs.facts.Failing.{runs_over}
use Rattle.csi_sql.specs.Rows.{number_value}
use Rattle.csi_sql.specs.Texts.{text, SetNext}
use Rattle.csi_sql.proofs.DoneLemmas.{runs_done}
use Rattle.csi_sql.proofs.UpdateLemmas.{sets_next_number}
use Rattle.csi_sql.proofs.TextLemmas.{alone}
use Rattle.csi_sql.proofs.statements.meta.set_next.Goals as goal

pub returns-clause-runs : goal.returns-clause-runs
returns-clause-runs g c = rw c.and.ensures (runs_done c.execute.result (runs_over (text SetNext) (number_value c.args.next ∷ []) c.execute.result (alone SetNext) (sets_next_number c.args.next) (rw c.integer.ensures at c.execute.ensures.runs) c.execute.ensures.survives))
