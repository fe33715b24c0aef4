use Rattle.std.proofs.Common.{◌≡◌, false, length}
use Rattle.csi_change_store.specs.Items.{seen_notes}
use Rattle.csi_change_store.proofs.PagesLemmas.{Taking}
use Rattle.csi_change_store.proofs.pages.put_items.Given as goal

abbrev pub invariant-loop-next : goal.invariant-loop-next
invariant-loop-next g l = record {
  taking : Taking g.S.Store l.body l.fields.rest (seen_notes l.initial.notes) (seen_notes l.notes) l.initial.tx.conn.now l.tx.conn.now;
  same : l.tx.conn.ghost_name ≡ l.initial.tx.conn.ghost_name;
  sound : l.fields.failed ≡ false;
}

abbrev pub decreases-loop-next : goal.decreases-loop-next
decreases-loop-next g l = length l.fields.rest
