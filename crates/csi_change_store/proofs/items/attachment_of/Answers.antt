use Rattle.std.proofs.Common.{◌≡◌, ◌∙◌, ap, sym, subst, refl, Some, List, ℕ}
use Rattle.std.specs.Prelude.{IsUtf8}
use Rattle.csi_sql.specs.facts.Failing.{handed}
use Rattle.csi_change_store.specs.Asking.{bytes_field}
use Rattle.csi_change_store.specs.Cells.{bytes_of, number_of}
use Rattle.csi_change_store.specs.Pages.{IsItem, Attachment}
use Rattle.csi_change_store.specs.Taking.{IsItemFault}
use Rattle.csi_change_store.proofs.ItemsLemmas.{attachment_in, attachment_item, attachment_spelled, unflagged, untyped}
use Rattle.csi_change_store.proofs.items.attachment_of.Goals as goal

pub returns-in_err-node-clause-fault : goal.returns-in_err-node-clause-fault
returns-in_err-node-clause-fault c =
    let cells = c.in_ok-cells.cells in
    let spelled = IsItem (bytes_field 3 c.args.payload.now) in
    handed c.from_residual-in_err-node.result c.in_err-node.field-0.0 (IsItemFault spelled) c.from_residual-in_err-node.ensures.1
    (untyped spelled c.in_err-node.field-0.0 c.number-number.result (Attachment (attachment_in cells)) c.in_err-node.ensures.fault.0 (attachment_spelled c.args.payload.now cells c.in_ok-cells.ensures.read)
    (ap Some (sym c.number-number.ensures)) (λ text. c.in_err-node.ensures.fault.1 (subst IsUtf8 (sym c.bytes.ensures) text)))

pub returns-in_err-readonly-clause-fault : goal.returns-in_err-readonly-clause-fault
returns-in_err-readonly-clause-fault c =
    let cells = c.in_ok-cells.cells in
    let spelled = IsItem (bytes_field 3 c.args.payload.now) in
    handed c.from_residual-in_err-readonly.result c.in_err-readonly.field-0.0 (IsItemFault spelled) c.from_residual-in_err-readonly.ensures.1
    (unflagged spelled (attachment_in cells) c.number-number.result c.number.result c.in_ok-node.node.now c.in_err-readonly.field-0.0 (attachment_spelled c.args.payload.now cells c.in_ok-cells.ensures.read)
    (sym c.number-number.ensures) (sym (c.in_ok-node.ensures.text.0 ∙ c.bytes.ensures)) (sym c.number.ensures) c.in_err-readonly.ensures.fault)

pub returns-clause-row : goal.returns-clause-row
returns-clause-row c =
    attachment_item c.args.payload.now c.in_ok-cells.cells c.in_ok-cells.ensures.read _
    (λ i. record {
      number = c.number-number.ensures i;
      node = (c.in_ok-node.ensures.text.0 ∙ c.bytes.ensures) i;
      cap = c.bytes-2.ensures i;
      readonly = (sym c.in_ok-readonly.ensures.flag ∙ c.number.ensures) i;
    })
    (subst IsUtf8 c.bytes.ensures c.in_ok-node.ensures.text.1) c.in_ok-readonly.readonly (sym c.number.ensures ∙ c.in_ok-readonly.ensures.flag)
