use Rattle.std.proofs.Common.{[]}
use Rattle.csi_sql.specs.facts.Failing.{runs_over}
use Rattle.csi_sql.specs.Texts.{text, SetFormat}
use Rattle.csi_sql.proofs.DoneLemmas.{runs_done}
use Rattle.csi_sql.proofs.UpdateLemmas.{sets_latest}
use Rattle.csi_sql.proofs.TextLemmas.{alone}
use Rattle.csi_sql.proofs.statements.meta.update_format.Goals as goal

pub returns-clause-runs : goal.returns-clause-runs
returns-clause-runs g c = rw c.and.ensures (runs_done c.execute.result (runs_over (text SetFormat) [] c.execute.result (alone SetFormat) sets_latest c.execute.ensures.runs c.execute.ensures.survives))
