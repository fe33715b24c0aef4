use Rattle.std.proofs.Common.{[], ◌∷◌}
use Rattle.sqlite.specs.declared.types.Value.TheVariants.{Text, Blob}
use Rattle.csi_sql.specs.facts.Failing.{runs_over}
use Rattle.csi_sql.specs.Rows.{number_value, bool_value}
use Rattle.csi_sql.specs.Texts.{text, Attach}
use Rattle.csi_sql.proofs.DoneLemmas.{runs_done}
use Rattle.csi_sql.proofs.InsertLemmas.{attaches}
use Rattle.csi_sql.proofs.TextLemmas.{alone}
use Rattle.csi_sql.proofs.statements.attachments.insert_attachment.Goals as goal

pub returns-clause-runs : goal.returns-clause-runs
returns-clause-runs g c = rw c.and.ensures (runs_done c.execute.result (runs_over (text Attach) (number_value c.args.volume ∷ Text c.args.node.now ∷ Blob c.args.cap.now ∷ bool_value c.args.readonly ∷ []) c.execute.result (alone Attach) (attaches c.args.volume c.args.node.now c.args.cap.now c.args.readonly) (rw (c.integer.ensures, c.as_bytes.ensures.value, c.flag.ensures) at c.execute.ensures.runs) c.execute.ensures.survives))
