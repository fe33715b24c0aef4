use Rattle.std.proofs.Common.{◌∙◌, sym, subst, take, ◌+◌, arith}
use Rattle.csi_keeper.specs.State.{AttachmentKey}
use Rattle.csi_keeper.specs.declared.volume.Attachment.{Attachment}
use Rattle.csi_columns.specs.Entries.{node_entry}
use Rattle.csi_tables.specs.Holding.{IsPlaced, IsReadablePlace}
use Rattle.csi_tables.specs.Reading.{AreReadOf, ShowsAttachment}
use Rattle.csi_tables.specs.declared.fault.TablesFault.TheVariants.{Refused}
use Rattle.csi_tables.proofs.CellLemmas.{read_more, entry_at, handed_on}
use Rattle.csi_tables.proofs.ReadingLemmas.{read_next, read_whole}
use Rattle.csi_tables.proofs.rows.attachments_from.Goals as goal

pub loop-row-preserved : goal.loop-row-preserved
loop-row-preserved c = (
  λ es all are. c.in_ok-push.ensures.ok
      ∙ read_more node_entry (λ (e : AttachmentKey × Attachment). e.1) IsPlaced c.args.rows.now es c.loop-row.row-index c.row-item.result c.loop-row.attachments c.in_ok-attachment_from.field-0 (omega arith)
      (λ e p is. c.in_ok-attachment_from.ensures.ok e p (c.row-item.is ∙ is)) all are (c.loop-row.invariant.0 es all are),
  subst (AreReadOf ShowsAttachment (take (c.loop-row.row-index + 1) c.args.rows.now)) (sym c.in_ok-push.ensures.ok)
      (read_next ShowsAttachment c.args.rows.now c.loop-row.row-index c.row-item.result c.loop-row.attachments c.in_ok-attachment_from.field-0 (omega arith) c.loop-row.invariant.1
      (subst (λ r. ShowsAttachment r c.in_ok-attachment_from.field-0) (c.row-item.is) c.in_ok-attachment_from.ensures.exact)),
)

pub returns-clause-exact : goal.returns-clause-exact
returns-clause-exact c = read_whole ShowsAttachment c.args.rows.now c.loop-row.row-index c.loop-row.attachments (omega arith) c.loop-row.invariant.1

pub returns-in_err-attachment_from-clause-refused : goal.returns-in_err-attachment_from-clause-refused
returns-in_err-attachment_from-clause-refused c is es all are =
    let e = entry_at node_entry IsReadablePlace c.args.rows.now es c.loop-row.row-index c.row-item.result (omega arith) all are in
    c.attachment_from.ensures.refused (handed_on c.from_residual.result c.attachment_from.result c.in_err-attachment_from.field-0.0 Refused c.from_residual.ensures.1 is c.in_err-attachment_from.was) e.0 e.1 (c.row-item.is ∙ e.2)
