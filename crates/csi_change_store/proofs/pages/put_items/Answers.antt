use Rattle.std.proofs.Common.{◌≡◌, ap, ◌∙◌, arith, refl, sym, true, false, Some, length, ◌<◌}
use Rattle.pbwire.specs.Reading.{wire_field_of, seen_field}
use Rattle.csi_change_store.specs.Items.{seen_item, seen_notes}
use Rattle.csi_change_store.proofs.CursorLemmas.{is_end, is_fault, is_given, nothing_at_end}
use Rattle.csi_change_store.proofs.PagesLemmas.{ends, goes_on, refused, stops, unspelled}
use Rattle.csi_change_store.proofs.pages.put_items.Goals as goal

pub returns-in_default-next-clause-takes : goal.returns-in_default-next-clause-takes
returns-in_default-next-clause-takes g c =
    let fault = is_fault c.loop-next.fields c.in_default-next.field-0 c.loop-next.invariant.sound (ap (λ r. Some (seen_field r)) (sym c.in_default-next.is) ∙ c.in-Some.ensures.given) in
    stops g.S.Store c.spelled.ensures.shorter c.args.body.now c.loop-next.fields.rest (seen_notes c.args.notes.now) (seen_notes c.loop-next.notes) c.args.tx.now.conn.now c.loop-next.tx.conn.now c.loop-next.invariant.taking (seen_notes c.loop-next.notes) fault.0 fault.1

pub returns-in_err-item-clause-takes : goal.returns-in_err-item-clause-takes
returns-in_err-item-clause-takes g c =
    let e = wire_field_of c.in-Ok.field in
    let given = is_given c.loop-next.fields c.next_field.new.self e c.loop-next.invariant.sound (ap (λ r. Some (seen_field r)) (sym c.in-Ok.is) ∙ c.in-Some.ensures.given) c.in-Some.ensures.moved in
    unspelled g.S.Store c.spelled.ensures.shorter c.args.body.now c.loop-next.fields.rest (seen_notes c.args.notes.now) (seen_notes c.loop-next.notes) c.args.tx.now.conn.now c.loop-next.tx.conn.now c.loop-next.invariant.taking given.rest e (seen_notes c.loop-next.notes)
    c.in_err-item.field-0.0 c.from_residual.result c.from_residual.ensures.1 given.read (λ none. nothing_at_end c.spelled.ensures.shorter c.loop-next.fields.rest given.rest e none given.read) c.in_err-item.ensures.fault

pub returns-in_err-put_item-clause-takes : goal.returns-in_err-put_item-clause-takes
returns-in_err-put_item-clause-takes g c =
    let e = wire_field_of c.in-Ok.field in
    let given = is_given c.loop-next.fields c.next_field.new.self e c.loop-next.invariant.sound (ap (λ r. Some (seen_field r)) (sym c.in-Ok.is) ∙ c.in-Some.ensures.given) c.in-Some.ensures.moved in
    refused g.S.Store c.args.body.now c.loop-next.fields.rest (seen_notes c.args.notes.now) c.args.tx.now.conn.now c.loop-next.tx.conn.now c.put_item.new.tx.conn.now given.rest e (seen_item c.in_ok-item.item) (seen_notes c.loop-next.notes) (seen_notes c.loop-next.notes)
    c.in_err-put_item.field-0.0 c.from_residual-in_err-put_item.result c.from_residual-in_err-put_item.ensures.1 c.loop-next.invariant.taking given.read c.in_ok-item.ensures.item c.in_err-put_item.ensures.puts c.in_err-put_item.ensures.refusal

pub loop-next-smaller : goal.loop-next-smaller
loop-next-smaller g c =
    let e = wire_field_of c.in-Ok.field in
    let given = is_given c.loop-next.fields c.next_field.new.self e c.loop-next.invariant.sound (ap (λ r. Some (seen_field r)) (sym c.in-Ok.is) ∙ c.in-Some.ensures.given) c.in-Some.ensures.moved in
    let n : length given.rest < length c.loop-next.fields.rest = c.spelled.ensures.shorter c.loop-next.fields.rest given.rest e given.read in
    rw given.is (omega arith)

pub loop-next-preserved : goal.loop-next-preserved
loop-next-preserved g c =
    let e = wire_field_of c.in-Ok.field in
    let given = is_given c.loop-next.fields c.next_field.new.self e c.loop-next.invariant.sound (ap (λ r. Some (seen_field r)) (sym c.in-Ok.is) ∙ c.in-Some.ensures.given) c.in-Some.ensures.moved in
    rw given.is (record {
      taking = goes_on g.S.Store c.args.body.now c.loop-next.fields.rest (seen_notes c.args.notes.now) c.args.tx.now.conn.now c.loop-next.tx.conn.now c.put_item.new.tx.conn.now given.rest e (seen_item c.in_ok-item.item) (seen_notes c.loop-next.notes) (seen_notes c.note_item.new.notes)
          c.loop-next.invariant.taking given.read c.in_ok-item.ensures.item c.in_ok-item.ensures.typed c.in_ok-put_item.ensures.puts c.in_ok-note_item.ensures.noted;
      same = c.put_item.ensures.same_reference ∙ c.loop-next.invariant.same;
      sound = refl;
    })
