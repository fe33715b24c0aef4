use Rattle.std.proofs.Common.{◌≡◌, ap, ◌∙◌, arith, refl, sym, true, false, Some, length, ◌<◌, ◌+◌, ◌-◌}
use Rattle.pbwire.specs.Reading.{wire_field_of, seen_field}
use Rattle.pbmessage.specs.Schema.{GoodField, Good}
use Rattle.pbmessage.proofs.MessageLemmas.{looking_next, looking_ends, looking_stops, not_good, is_given, is_end, is_fault}
use Rattle.pbmessage.specs.facts.Fields.{nothing_read}
use Rattle.pbmessage.proofs.message.first_fault.Goals as goal

pub loop-next-smaller : goal.loop-next-smaller
loop-next-smaller g c =
    let e = wire_field_of c.in-Ok.field in
    let given = is_given c.loop-next.fields c.next_field.new.self e c.loop-next.invariant.sound (ap (λ r. Some (seen_field r)) (sym c.in-Ok.is) ∙ c.in-Some.ensures.given) c.in-Some.ensures.moved in
    let n : length given.rest < length c.loop-next.fields.rest = c.spelled.ensures.shorter c.loop-next.fields.rest given.rest e given.read in
    rw given.is (omega arith)

pub loop-next-preserved : goal.loop-next-preserved
loop-next-preserved g c =
    let e = wire_field_of c.in-Ok.field in
    let given = is_given c.loop-next.fields c.next_field.new.self e c.loop-next.invariant.sound (ap (λ r. Some (seen_field r)) (sym c.in-Ok.is) ∙ c.in-Some.ensures.given) c.in-Some.ensures.moved in
    let is_good : GoodField (Good g.M.Message.schema) e = c.is_good_field.ensures.0 c.if-not-is_good_field.false in
    let next = looking_next (record { exactly = c.spelled.ensures.exactly; shorter = c.spelled.ensures.shorter }) (GoodField (Good g.M.Message.schema)) c.args.bytes.now c.loop-next.fields.rest given.rest c.loop-next.offset e c.loop-next.invariant.looking given.read is_good in
    let here : c.loop-next.fields.at + (length c.loop-next.fields.rest - length given.rest) ≡ c.loop-next.offset + (length c.loop-next.fields.rest - length given.rest) = ap (λ n. n + (length c.loop-next.fields.rest - length given.rest)) c.loop-next.invariant.here in
    rw (c.at-offset.ensures, given.is) (record { looking = rw here next; sound = refl; here = refl })

pub returns : goal.returns
returns g c = looking_ends (record { exactly = c.spelled.ensures.exactly; shorter = c.spelled.ensures.shorter }) (GoodField (Good g.M.Message.schema)) c.args.bytes.now c.loop-next.fields.rest c.loop-next.offset c.loop-next.invariant.looking (is_end c.loop-next.fields c.loop-next.invariant.sound c.in_default.ensures.given)

pub returns-in_default-next : goal.returns-in_default-next
returns-in_default-next g c =
    let fault = is_fault c.loop-next.fields c.in_default-next.field-0 c.loop-next.invariant.sound (ap (λ r. Some (seen_field r)) (sym c.in_default-next.is) ∙ c.in-Some.ensures.given) in
    looking_stops (record { exactly = c.spelled.ensures.exactly; shorter = c.spelled.ensures.shorter }) (GoodField (Good g.M.Message.schema)) c.args.bytes.now c.loop-next.fields.rest c.loop-next.offset c.loop-next.invariant.looking fault.0 (λ e mid is good. fault.1 (e, mid) is)

pub returns-then-not-is_good_field : goal.returns-then-not-is_good_field
returns-then-not-is_good_field g c =
    let e = wire_field_of c.in-Ok.field in
    let given = is_given c.loop-next.fields c.next_field.new.self e c.loop-next.invariant.sound (ap (λ r. Some (seen_field r)) (sym c.in-Ok.is) ∙ c.in-Some.ensures.given) c.in-Some.ensures.moved in
    let bad : GoodField (Good g.M.Message.schema) e → ⊥ = λ good. let is : c.is_good_field.result ≡ true = c.is_good_field.ensures.1 good in let not : c.is_good_field.result ≡ false = c.if-not-is_good_field.true in let w : false ≡ true = sym not ∙ is in absurd cc in
    looking_stops (record { exactly = c.spelled.ensures.exactly; shorter = c.spelled.ensures.shorter }) (GoodField (Good g.M.Message.schema)) c.args.bytes.now c.loop-next.fields.rest c.loop-next.offset c.loop-next.invariant.looking
    (λ none. nothing_read c.loop-next.fields.rest (e, given.rest) none given.read) (not_good (GoodField (Good g.M.Message.schema)) c.loop-next.fields.rest given.rest e given.read bad)
