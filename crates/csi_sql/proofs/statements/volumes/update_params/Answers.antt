use Rattle.std.proofs.Common.{[], ◌∷◌}
use Rattle.sqlite.specs.declared.types.Value.TheVariants.{Blob}
use Rattle.csi_sql.specs.facts.Failing.{runs_over}
use Rattle.csi_sql.specs.Rows.{number_value}
use Rattle.csi_sql.specs.Texts.{text, SetParams}
use Rattle.csi_sql.proofs.DoneLemmas.{runs_done}
use Rattle.csi_sql.proofs.ParamsLemmas.{sets}
use Rattle.csi_sql.proofs.TextLemmas.{alone}
use Rattle.csi_sql.proofs.statements.volumes.update_params.Goals as goal

pub returns-clause-runs : goal.returns-clause-runs
returns-clause-runs g c = rw c.and.ensures (runs_done c.execute.result (runs_over (text SetParams) (number_value c.args.volume ∷ Blob c.args.params.now ∷ []) c.execute.result (alone SetParams) (sets c.args.volume c.args.params.now) (rw c.integer.ensures at c.execute.ensures.runs) c.execute.ensures.survives))
