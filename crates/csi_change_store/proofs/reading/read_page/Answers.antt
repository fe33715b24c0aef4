use Rattle.csi_change_store.specs.Items.{seen_notes}
use Rattle.csi_change_store.proofs.WalkingLemmas.{page_taken}
use Rattle.csi_change_store.proofs.reading.read_page.Goals as goal

pub returns-in-Ok-clause-page : goal.returns-in-Ok-clause-page
returns-in-Ok-clause-page g c =
    page_taken g.P.Peer.exchanged c.args.peer.now c.next_page.new.peer c.in_ok-body.body.items (seen_notes c.args.notes.now) (seen_notes c.put_page.new.notes) (rw c.as_slice.ensures.value at c.in_ok-body.ensures.page) (rw c.as_slice-2.ensures.value at c.in-Ok.ensures.takes)

pub returns-clause-fault : goal.returns-clause-fault
returns-clause-fault g c = (c.in_ok-body.body.items, rw c.as_slice.ensures.value at c.in_ok-body.ensures.page, (rw c.as_slice-2.ensures.value at c.in-Err.ensures.takes).fault)
