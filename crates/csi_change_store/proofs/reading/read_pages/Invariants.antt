use Rattle.std.proofs.Common.{◌≡◌}
use Rattle.csi_change_store.specs.Items.{seen_notes}
use Rattle.csi_change_store.proofs.WalkingLemmas.{Reading}
use Rattle.csi_change_store.proofs.reading.read_pages.Given as goal

abbrev pub invariant-loop-turn : goal.invariant-loop-turn
invariant-loop-turn g l = record {
  reading : Reading g.P.Peer.exchanged g.S.Store l.fn.peer l.peer (seen_notes l.notes) l.initial.tx.conn.now l.tx.conn.now;
  same : l.tx.conn.ghost_name ≡ l.initial.tx.conn.ghost_name;
}
