use Rattle.std.proofs.lemmas.Result.{err_from_is_err_and}
use Rattle.csi_change_store.proofs.ItemsLemmas.{malformed, meta_item, unread_meta}
use Rattle.csi_change_store.specs.Asking.{bytes_field}
use Rattle.csi_change_store.specs.Pages.{IsItem}
use Rattle.csi_change_store.proofs.items.meta_of.Goals as goal

pub returns-clause-row : goal.returns-clause-row
returns-clause-row c = meta_item c.args.payload.now c.in_ok-cells.cells c.in_ok-cells.ensures.read _ (λ i. record { format = c.number.ensures i; next = c.number-2.ensures i })
