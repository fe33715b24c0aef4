use Rattle.std.proofs.Common.{subst, sym}
use Rattle.csi_sql.specs.Refusing.{RefusesAttachment}
use Rattle.csi_sql.specs.Effects.{AddsAttachment}
use Rattle.csi_sql.specs.Rows.{attachment_row}
use Rattle.csi_change_store.specs.Items.{attachment_columns}
use Rattle.csi_change_store.specs.Pages.{Attachment}
use Rattle.csi_change_store.proofs.ItemsLemmas.{flag_again}
use Rattle.csi_change_store.proofs.PagesLemmas.{puts_err}
use Rattle.csi_change_store.proofs.pages.put_attachment.Goals as goal

pub returns-in-Err-clause-puts : goal.returns-in-Err-clause-puts
returns-in-Err-clause-puts g c =
    let row = c.args.row.now in
    puts_err (Attachment (attachment_columns row)) (AddsAttachment (attachment_row row.number row.node.now row.cap.now row.readonly)) (RefusesAttachment (attachment_row row.number row.node.now row.cap.now row.readonly)) c.in-Err.error c.fault_of.result
    (λ s why h. subst (λ b. RefusesAttachment (attachment_row row.number row.node.now row.cap.now b) s why) (sym (flag_again row.readonly)) h) c.in-Err.ensures.runs c.fault_of.ensures
