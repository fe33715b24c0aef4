use Rattle.std.proofs.Common.{[], ◌∷◌}
use Rattle.sqlite.specs.declared.types.Value.TheVariants.{Text}
use Rattle.csi_sql.specs.facts.Failing.{runs_over}
use Rattle.csi_sql.specs.Rows.{number_value}
use Rattle.csi_sql.specs.Texts.{text, Detach}
use Rattle.csi_sql.proofs.DoneLemmas.{runs_done}
use Rattle.csi_sql.proofs.DeleteLemmas.{detaches}
use Rattle.csi_sql.proofs.TextLemmas.{alone}
use Rattle.csi_sql.proofs.statements.attachments.delete_attachment.Goals as goal

pub returns-clause-runs : goal.returns-clause-runs
returns-clause-runs g c = rw c.and.ensures (runs_done c.execute.result (runs_over (text Detach) (number_value c.args.volume ∷ Text c.args.node.now ∷ []) c.execute.result (alone Detach) (detaches c.args.volume c.args.node.now) (rw (c.integer.ensures, c.as_bytes.ensures.value) at c.execute.ensures.runs) c.execute.ensures.survives))
