use Rattle.std.proofs.Common.{ap, ◌∙◌, arith, refl, sym, Some, length, ◌<◌}
use Rattle.pbwire.specs.Reading.{wire_field_of, seen_field}
use Rattle.pbmessage.specs.Schema.{GoodField, Good}
use Rattle.pbmessage.proofs.MessageLemmas.{merging_starts, merging_next, merging_ends, merging_no_fault, is_given, is_end, is_fault, nothing_at_end}
use Rattle.pbmessage.specs.Views.{value_of}
use Rattle.pbmessage.proofs.message.merge.Goals as goal

pub loop-next-init : goal.loop-next-init
loop-next-init g c = rw c.new-fields.ensures (record { merging = merging_starts (record { exactly = c.spelled.ensures.exactly; shorter = c.spelled.ensures.shorter }) (GoodField (Good g.M.Message.schema)) (value_of g.M.Message.of) c.args.bytes.now c.args.message.now c.requires; sound = refl })

pub merge_field-requires : goal.merge_field-requires
merge_field-requires g c =
    let e = wire_field_of c.in-Ok.field in
    let given = is_given c.loop-next.fields c.next_field.new.self e c.loop-next.invariant.sound (ap (λ r. Some (seen_field r)) (sym c.in-Ok.is) ∙ c.in-Some.ensures.given) c.in-Some.ensures.moved in
    (merging_next (GoodField (Good g.M.Message.schema)) (value_of g.M.Message.of) c.args.bytes.now c.loop-next.fields.rest given.rest c.args.message.now c.loop-next.message e c.loop-next.invariant.merging given.read).is_good

pub loop-next-smaller : goal.loop-next-smaller
loop-next-smaller g c =
    let e = wire_field_of c.in-Ok.field in
    let given = is_given c.loop-next.fields c.next_field.new.self e c.loop-next.invariant.sound (ap (λ r. Some (seen_field r)) (sym c.in-Ok.is) ∙ c.in-Some.ensures.given) c.in-Some.ensures.moved in
    let n : length given.rest < length c.loop-next.fields.rest = c.spelled.ensures.shorter c.loop-next.fields.rest given.rest e given.read in
    rw given.is (omega arith)

pub loop-next-preserved : goal.loop-next-preserved
loop-next-preserved g c =
    let e = wire_field_of c.in-Ok.field in
    let given = is_given c.loop-next.fields c.next_field.new.self e c.loop-next.invariant.sound (ap (λ r. Some (seen_field r)) (sym c.in-Ok.is) ∙ c.in-Some.ensures.given) c.in-Some.ensures.moved in
    rw given.is (record {
      merging = (merging_next (GoodField (Good g.M.Message.schema)) (value_of g.M.Message.of) c.args.bytes.now c.loop-next.fields.rest given.rest c.args.message.now c.loop-next.message e c.loop-next.invariant.merging given.read).goes_on c.merge_field.new.message c.in_ok-merge_field.ensures;
      sound = refl;
    })

pub unreachable-requires : goal.unreachable-requires
unreachable-requires g c =
    let fault = is_fault c.loop-next.fields c.in_default-next.field-0 c.loop-next.invariant.sound (ap (λ r. Some (seen_field r)) (sym c.in_default-next.is) ∙ c.in-Some.ensures.given) in
    merging_no_fault (GoodField (Good g.M.Message.schema)) (value_of g.M.Message.of) c.args.bytes.now c.loop-next.fields.rest c.args.message.now c.loop-next.message c.loop-next.invariant.merging fault.0 fault.1

pub returns : goal.returns
returns g c =
    merging_ends (GoodField (Good g.M.Message.schema)) (value_of g.M.Message.of) c.args.bytes.now c.loop-next.fields.rest c.args.message.now c.loop-next.message c.loop-next.invariant.merging
    (nothing_at_end c.loop-next.fields.rest (is_end c.loop-next.fields c.loop-next.invariant.sound c.in_default.ensures.given))
