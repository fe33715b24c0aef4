use Rattle.std.proofs.Common.{◌≡◌, ◌<◌, ◌≤◌, ◌-◌, ◌*◌, ◌^◌, drop, length, subst, sym, ◌∙◌, arith, Ok, Err, sym, rules}
use Rattle.std.proofs.lemmas.List.{take_rest}
use Rattle.pbwire.specs.Reading.{varint_at, groups_at}
use Rattle.pbwire.proofs.VarintLemmas.{with_low, here_is, reads_more, low_more, reads_last, reads_tenth, ends_short}
use Rattle.pbwire.proofs.reading.read_long_varint.Goals as goal

pub returns-in_default : goal.returns-in_default
unfolding varint_at
returns-in_default c =
    let past : length c.args.bytes.now ≤ c.loop-count.count = c.in_default.ensures.lookup.3 in
    ends_short c.loop-count.count c.loop-count.value c.args.bytes.now (groups_at 10 c.args.bytes.now) (omega arith) past c.loop-count.invariant.read

pub returns-then-byte-lt128 : goal.returns-then-byte-lt128
unfolding varint_at
returns-then-byte-lt128 c =
    let l = c.in-Some.ensures.lookup in
    let here = here_is c.loop-count.count c.in-Some.field-0.now c.args.bytes.now l.3.0 l.1 in
    rw (c.from.ensures, take_rest) (reads_last c.loop-count.count c.loop-count.value c.in-Some.field-0.now c.args.bytes.now (groups_at 10 c.args.bytes.now) c.loop-count-test.true here c.if-byte-lt128.true c.loop-count.invariant.read)

pub loop-count-preserved : goal.loop-count-preserved
loop-count-preserved c =
    let l = c.in-Some.ensures.lookup in
    let here = here_is c.loop-count.count c.in-Some.field-0.now c.args.bytes.now l.3.0 l.1 in
    let byte : c.in-Some.field-0.now < 256 = rw l.1 (omega (arith, c.type_inv.bytes c.loop-count.count, l.4 (omega arith) 0)) in
    rw c.from-in-loop-count.ensures (record {
      low = low_more c.loop-count.count c.loop-count.value c.in-Some.field-0.now c.loop-count-test.true byte c.loop-count.invariant.low;
      read = reads_more c.loop-count.count c.loop-count.value c.in-Some.field-0.now c.args.bytes.now (groups_at 10 c.args.bytes.now) c.loop-count-test.true here c.if-byte-lt128.false byte c.loop-count.invariant.read;
    })

pub returns-in_default-get : goal.returns-in_default-get
unfolding varint_at
returns-in_default-get c =
    let n : c.loop-count.count ≡ 9 = omega arith in
    let past : length c.args.bytes.now ≤ 9 = c.in_default-get.ensures.lookup.3 in
    ends_short c.loop-count.count c.loop-count.value c.args.bytes.now (groups_at 10 c.args.bytes.now) (omega arith) (omega arith) c.loop-count.invariant.read

pub returns-in_err-high : goal.returns-in_err-high
unfolding varint_at
returns-in_err-high c =
    let n : c.loop-count.count ≡ 9 = omega arith in
    let l = c.in-Some-get.ensures.lookup in
    let here = here_is 9 c.in-Some-get.field-0.now c.args.bytes.now l.3.0 l.1 in
    let read = reads_tenth c.loop-count.value c.in-Some-get.field-0.now c.args.bytes.now (Err c.in_err-high.field-0.0) (groups_at 10 c.args.bytes.now) here (sym c.in_err-high.was ∙ c.tenth_group.ensures)
    (subst (λ k. with_low c.loop-count.value (2 ^ (7 * k)) (groups_at (10 - k) (drop k c.args.bytes.now)) ≡ groups_at 10 c.args.bytes.now) n c.loop-count.invariant.read) in
    rw (sym read) (search rules)

pub returns : goal.returns
unfolding varint_at
returns c =
    let n : c.loop-count.count ≡ 9 = omega arith in
    let l = c.in-Some-get.ensures.lookup in
    let here = here_is 9 c.in-Some-get.field-0.now c.args.bytes.now l.3.0 l.1 in
    rw take_rest (reads_tenth c.loop-count.value c.in-Some-get.field-0.now c.args.bytes.now (Ok c.in_ok-high.high) (groups_at 10 c.args.bytes.now) here (sym c.in_ok-high.was ∙ c.tenth_group.ensures)
    (subst (λ k. with_low c.loop-count.value (2 ^ (7 * k)) (groups_at (10 - k) (drop k c.args.bytes.now)) ≡ groups_at 10 c.args.bytes.now) n c.loop-count.invariant.read))
