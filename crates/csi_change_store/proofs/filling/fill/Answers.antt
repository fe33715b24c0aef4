use Rattle.std.proofs.Common.{rules}
use Rattle.csi_change_store.specs.Items.{seen_notes}
use Rattle.csi_change_store.proofs.FillingLemmas.{filled}
use Rattle.csi_change_store.proofs.filling.fill.Goals as goal

pub returns-in-Ok-clause-filled : goal.returns-in-Ok-clause-filled
returns-in-Ok-clause-filled g c =
    filled g.S.Store g.P.Peer.exchanged c.args.peer.now c.read_pages.new.peer (seen_notes c.in_ok-notes.notes) c.args.conn.now c.read_pages.new.tx.conn.now c.commit.new.self.0 _
    (rw c.transaction-tx.ensures.begun at c.in_ok-notes.ensures.read) (rw c.transaction-tx.ensures.begun at c.in_ok-notes.ensures.nothing) c.in-Ok.ensures (search rules)
