use Rattle.std.proofs.Common.{◌≡◌, ◌≢◌, ◌∙◌, ◌==◌, [], ap, sym}
use Rattle.csi_change_store.specs.Items.{seen_notes}
use Rattle.csi_change_store.proofs.WalkingLemmas.{no_items, reading_ends, reading_fails, reading_goes_on, some_items}
use Rattle.csi_change_store.proofs.reading.read_pages.Goals as goal

pub returns-in_err-read_page-clause-fault : goal.returns-in_err-read_page-clause-fault
returns-in_err-read_page-clause-fault g c =
    reading_fails g.P.Peer.exchanged g.S.Store c.args.peer.now c.loop-turn.peer c.read_page.new.peer (seen_notes c.loop-turn.notes) c.args.tx.now.conn.now c.loop-turn.tx.conn.now c.read_page.new.tx.conn.now c.loop-turn.invariant.reading
    c.in_err-read_page.field-0.0 c.from_residual.result c.from_residual.ensures.1 c.in_err-read_page.ensures.fault

pub returns-then-is_empty-clause-read : goal.returns-then-is_empty-clause-read
returns-then-is_empty-clause-read g c =
    let token = c.read_page.new.notes.token in
    let none : token.items ≡ [] = no_items token.items (ap (λ n. n == 0) (sym token.ok.0) ∙ sym c.is_empty.ensures ∙ c.if-is_empty.true) in
    reading_ends g.P.Peer.exchanged g.S.Store c.args.peer.now c.loop-turn.peer c.read_page.new.peer (seen_notes c.loop-turn.notes) c.args.tx.now.conn.now c.loop-turn.tx.conn.now c.read_page.new.tx.conn.now c.loop-turn.invariant.reading
    (seen_notes c.read_page.new.notes) c.in_ok-read_page.ensures.page c.in_ok-read_page.ensures.nothing none

pub loop-turn-preserved : goal.loop-turn-preserved
loop-turn-preserved g c =
    let token = c.read_page.new.notes.token in
    let more : token.items ≢ [] = some_items token.items (ap (λ n. n == 0) (sym token.ok.0) ∙ sym c.is_empty.ensures ∙ c.if-is_empty.false) in
    record {
      reading = reading_goes_on g.P.Peer.exchanged g.S.Store c.args.peer.now c.loop-turn.peer c.read_page.new.peer (seen_notes c.loop-turn.notes) c.args.tx.now.conn.now c.loop-turn.tx.conn.now c.read_page.new.tx.conn.now c.loop-turn.invariant.reading
          (seen_notes c.read_page.new.notes) c.in_ok-read_page.ensures.page c.in_ok-read_page.ensures.nothing more;
      same = c.read_page.ensures.same_reference ∙ c.loop-turn.invariant.same;
    }
