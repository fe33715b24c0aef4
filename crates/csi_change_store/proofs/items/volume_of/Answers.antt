use Rattle.std.proofs.Common.{◌≡◌, ◌∙◌, ap, sym, subst, refl, Some, List, ℕ}
use Rattle.std.specs.Prelude.{IsUtf8}
use Rattle.std.specs.Result.{IsErrAnd}
use Rattle.csi_sql.specs.facts.Failing.{handed}
use Rattle.csi_change_store.specs.Asking.{bytes_field}
use Rattle.csi_change_store.specs.Cells.{bytes_of, number_of}
use Rattle.csi_change_store.specs.Pages.{IsItem, Volume}
use Rattle.csi_change_store.specs.Taking.{IsItemFault}
use Rattle.csi_change_store.proofs.ItemsLemmas.{untyped, volume_in, volume_item, volume_spelled}
use Rattle.csi_change_store.proofs.items.volume_of.Goals as goal

pub returns-in_err-name-clause-fault : goal.returns-in_err-name-clause-fault
returns-in_err-name-clause-fault c =
    let cells = c.in_ok-cells.cells in
    let spelled = IsItem (bytes_field 2 c.args.payload.now) in
    handed c.from_residual-in_err-name.result c.in_err-name.field-0.0 (IsItemFault spelled) c.from_residual-in_err-name.ensures.1
    (untyped spelled c.in_err-name.field-0.0 c.number-number.result (Volume (volume_in cells)) c.in_err-name.ensures.fault.0 (volume_spelled c.args.payload.now cells c.in_ok-cells.ensures.read)
    (ap Some (sym c.number-number.ensures)) (λ texts. c.in_err-name.ensures.fault.1 (subst IsUtf8 (sym c.bytes.ensures) texts.0)))

pub returns-in_err-pool-clause-fault : goal.returns-in_err-pool-clause-fault
returns-in_err-pool-clause-fault c =
    let cells = c.in_ok-cells.cells in
    let spelled = IsItem (bytes_field 2 c.args.payload.now) in
    handed c.from_residual-in_err-pool.result c.in_err-pool.field-0.0 (IsItemFault spelled) c.from_residual-in_err-pool.ensures.1
    (untyped spelled c.in_err-pool.field-0.0 c.number-number.result (Volume (volume_in cells)) c.in_err-pool.ensures.fault.0 (volume_spelled c.args.payload.now cells c.in_ok-cells.ensures.read)
    (ap Some (sym c.number-number.ensures)) (λ texts. c.in_err-pool.ensures.fault.1 (subst IsUtf8 (sym c.bytes-2.ensures) texts.1)))

pub returns-clause-row : goal.returns-clause-row
returns-clause-row c =
    volume_item c.args.payload.now c.in_ok-cells.cells c.in_ok-cells.ensures.read _
    (λ i. record {
      number = c.number-number.ensures i;
      name = (c.in_ok-name.ensures.text.0 ∙ c.bytes.ensures) i;
      bytes = c.number.ensures i;
      pool = (c.in_ok-pool.ensures.text.0 ∙ c.bytes-2.ensures) i;
      caps = c.bytes-3.ensures i;
      params = c.bytes-4.ensures i;
    })
    (subst IsUtf8 c.bytes.ensures c.in_ok-name.ensures.text.1) (subst IsUtf8 c.bytes-2.ensures c.in_ok-pool.ensures.text.1)
