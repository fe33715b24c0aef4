use Rattle.std.proofs.Common.{◌++◌, ◌∷◌, ◌≤◌, ◌∙◌, ap, arith, drop, length, sym, List, ℕ}
use Rattle.csi_codec.proofs.ShortLemmas.{a_size, length-varint, no_size}
use Rattle.csi_codec.proofs.short.put_size.Goals as goal

pub returns-then-bytes-eq0-clause-start : goal.returns-then-bytes-eq0-clause-start
returns-then-bytes-eq0-clause-start c = omega (arith, ap (λ (bs : List ℕ). length bs) (no_size c.args.bytes c.if-bytes-eq0.true))

pub returns-then-bytes-eq0-clause-short : goal.returns-then-bytes-eq0-clause-short
returns-then-bytes-eq0-clause-short c = omega (arith, ap (λ (bs : List ℕ). length bs) (no_size c.args.bytes c.if-bytes-eq0.true))

pub returns-then-bytes-eq0-clause-written : goal.returns-then-bytes-eq0-clause-written
returns-then-bytes-eq0-clause-written c = sym (ap (λ (bs : List ℕ). bs ++ drop c.args.end c.args.buffer.now) (no_size c.args.bytes c.if-bytes-eq0.true))

pub put_varint-start-requires : goal.put_varint-start-requires
put_varint-start-requires c = (omega (arith, length-varint c.args.bytes), omega arith)

pub put_before-requires : goal.put_before-requires
put_before-requires c = (omega (arith, length-varint c.args.bytes), omega arith)

pub returns-clause-start : goal.returns-clause-start
returns-clause-start c =
    let some : 1 ≤ c.args.bytes = omega (arith, c.if-bytes-eq0.false) in
    omega (arith, ap (λ (bs : List ℕ). length bs) (a_size c.args.bytes some))

pub returns-clause-short : goal.returns-clause-short
returns-clause-short c =
    let some : 1 ≤ c.args.bytes = omega (arith, c.if-bytes-eq0.false) in
    omega (arith, length-varint c.args.bytes, ap (λ (bs : List ℕ). length bs) (a_size c.args.bytes some))

pub returns-clause-written : goal.returns-clause-written
returns-clause-written c =
    let some : 1 ≤ c.args.bytes = omega (arith, c.if-bytes-eq0.false) in
    c.put_before.ensures.written
    ∙ ap (λ (bs : List ℕ). 8 ∷ bs) c.put_varint-start.ensures.written
    ∙ ap (λ (bs : List ℕ). bs ++ drop c.args.end c.args.buffer.now) (sym (a_size c.args.bytes some))
