use Rattle.std.proofs.Common.{[]}
use Rattle.csi_sql.specs.Making.{step_text}
use Rattle.csi_sql.specs.facts.Failing.{runs_over}
use Rattle.csi_sql.proofs.FailLemmas.{alone}
use Rattle.csi_sql.proofs.FirstRowLemmas.{makes}
use Rattle.csi_sql.proofs.making.make.Goals as goal

pub returns-clause-runs : goal.returns-clause-runs
returns-clause-runs g c = runs_over (step_text c.args.step) [] c.execute.result (alone c.args.step) (makes c.args.step) (rw c.text_of.ensures at c.execute.ensures.runs) c.execute.ensures.survives
