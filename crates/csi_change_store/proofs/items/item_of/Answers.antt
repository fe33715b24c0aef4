use Rattle.std.proofs.Common.{◌≡◌, ◌∙◌, ap, sym, subst, refl}
use Rattle.csi_sql.specs.facts.Failing.{handed}
use Rattle.csi_change_store.specs.Asking.{bytes_field}
use Rattle.csi_change_store.specs.Pages.{IsItem}
use Rattle.csi_change_store.specs.Taking.{IsItemFault}
use Rattle.csi_change_store.proofs.items.item_of.Goals as goal

pub returns-in_err-volume_of-in-2-Bytes-clause-fault : goal.returns-in_err-volume_of-in-2-Bytes-clause-fault
returns-in_err-volume_of-in-2-Bytes-clause-fault c =
    rw (c.in-2-Bytes.is-0, c.in-2-Bytes.is-1) (handed c.from_residual.result c.in_err-volume_of-in-2-Bytes.field-0.0 (IsItemFault (IsItem (bytes_field 2 c.in-2-Bytes.payload.now))) c.from_residual.ensures.1 c.in_err-volume_of-in-2-Bytes.ensures.fault)

pub returns-in_err-attachment_of-in-3-Bytes-clause-fault : goal.returns-in_err-attachment_of-in-3-Bytes-clause-fault
returns-in_err-attachment_of-in-3-Bytes-clause-fault c =
    rw (c.in-3-Bytes.is-0, c.in-3-Bytes.is-1) (handed c.from_residual-in_err-attachment_of-in-3-Bytes.result c.in_err-attachment_of-in-3-Bytes.field-0.0 (IsItemFault (IsItem (bytes_field 3 c.in-3-Bytes.payload.now))) c.from_residual-in_err-attachment_of-in-3-Bytes.ensures.1 c.in_err-attachment_of-in-3-Bytes.ensures.fault)
