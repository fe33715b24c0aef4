use Rattle.std.proofs.Common.{◌≡◌, ap, ◌∙◌, arith, refl, sym, true, false, Some, length, ◌<◌}
use Rattle.pbwire.specs.Reading.{wire_field_of, seen_field}
use Rattle.csi_change_store.proofs.CursorLemmas.{is_end, is_fault, is_given, nothing_at_end}
use Rattle.csi_change_store.proofs.CellsLemmas.{ends, goes_on, starts, stops, unfit}
use Rattle.csi_change_store.proofs.cells.read_cells.Goals as goal

pub loop-next-init : goal.loop-next-init
loop-next-init c = rw c.new-fields.ensures (record { reading = starts c.args.kinds.now c.args.payload.now c.new-cells.result c.new-cells.ensures.numbers c.new-cells.ensures.bytes; sound = refl })

pub loop-next-smaller : goal.loop-next-smaller
loop-next-smaller c =
    let e = wire_field_of c.in-Ok.field in
    let given = is_given c.loop-next.fields c.next_field.new.self e c.loop-next.invariant.sound (ap (λ r. Some (seen_field r)) (sym c.in-Ok.is) ∙ c.in-Some.ensures.given) c.in-Some.ensures.moved in
    let n : length given.rest < length c.loop-next.fields.rest = c.spelled.ensures.shorter c.loop-next.fields.rest given.rest e given.read in
    rw given.is (omega arith)

pub loop-next-preserved : goal.loop-next-preserved
loop-next-preserved c =
    let e = wire_field_of c.in-Ok.field in
    let given = is_given c.loop-next.fields c.next_field.new.self e c.loop-next.invariant.sound (ap (λ r. Some (seen_field r)) (sym c.in-Ok.is) ∙ c.in-Some.ensures.given) c.in-Some.ensures.moved in
    rw given.is (record {
      reading = goes_on c.args.kinds.now c.args.payload.now (record { shorter = c.spelled.ensures.shorter; in_order = c.listed.ensures.in_order }) c.loop-next.fields.rest given.rest e c.loop-next.cells c.set_field.new.self c.loop-next.invariant.reading given.read (sym c.set_field.ensures.fits ∙ c.if-not-set_field.false) (c.set_field.ensures.taken c.if-not-set_field.false);
      sound = refl;
    })

pub returns-clause-read : goal.returns-clause-read
returns-clause-read c = ends c.args.kinds.now c.args.payload.now c.loop-next.fields.rest c.loop-next.cells c.loop-next.invariant.reading (is_end c.loop-next.fields c.loop-next.invariant.sound c.in_default.ensures.given)

pub returns-in_default-next-clause-unread : goal.returns-in_default-next-clause-unread
returns-in_default-next-clause-unread c =
    let fault = is_fault c.loop-next.fields c.in_default-next.field-0 c.loop-next.invariant.sound (ap (λ r. Some (seen_field r)) (sym c.in_default-next.is) ∙ c.in-Some.ensures.given) in
    stops c.args.kinds.now c.args.payload.now (record { shorter = c.spelled.ensures.shorter; in_order = c.listed.ensures.in_order }) c.loop-next.fields.rest c.loop-next.cells c.loop-next.invariant.reading fault.0 (λ e more is fits. fault.1 e more is)

pub returns-then-not-set_field-clause-unread : goal.returns-then-not-set_field-clause-unread
returns-then-not-set_field-clause-unread c =
    let e = wire_field_of c.in-Ok.field in
    let given = is_given c.loop-next.fields c.next_field.new.self e c.loop-next.invariant.sound (ap (λ r. Some (seen_field r)) (sym c.in-Ok.is) ∙ c.in-Some.ensures.given) c.in-Some.ensures.moved in
    stops c.args.kinds.now c.args.payload.now (record { shorter = c.spelled.ensures.shorter; in_order = c.listed.ensures.in_order }) c.loop-next.fields.rest c.loop-next.cells c.loop-next.invariant.reading
    (λ none. nothing_at_end c.spelled.ensures.shorter c.loop-next.fields.rest given.rest e none given.read) (unfit c.args.kinds.now c.loop-next.fields.rest given.rest e given.read (sym c.set_field.ensures.fits ∙ c.if-not-set_field.true))
