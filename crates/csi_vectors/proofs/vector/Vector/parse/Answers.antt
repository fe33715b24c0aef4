use Rattle.std.proofs.Common.{arith, refl}
use Rattle.csi_vectors.proofs.Reading.{line_read}
use Rattle.csi_vectors.proofs.vector.Vector.parse.Goals as goal

pub returns-in_err-bytes_of-clause-memory : goal.returns-in_err-bytes_of-clause-memory
returns-in_err-bytes_of-clause-memory c h =
    let first = c.in-Some.ensures.byte (omega arith) (λ w o f. f) in
    let second = c.in-Some-split_once.ensures.byte (omega arith) (λ w o f. f) in
    let i = c.if-not-is_spelling.ensures.true_only_if refl in
    let o = c.if-not-is_spelling-2.ensures.true_only_if refl in (
      c.in-Some.name.now,
      i.0,
      o.0,
      line_read c.args.line.now c.in-Some.name.now c.in-Some.rest.now c.in-Some-split_once.input.now c.in-Some-split_once.output.now i.0 o.0 first.0 first.1 first.2 second.0 second.1 second.2 c.if-is_empty.ensures i.1 o.1,
    )

pub returns-in_err-bytes_of-2-clause-memory : goal.returns-in_err-bytes_of-2-clause-memory
returns-in_err-bytes_of-2-clause-memory c h =
    let first = c.in-Some.ensures.byte (omega arith) (λ w o f. f) in
    let second = c.in-Some-split_once.ensures.byte (omega arith) (λ w o f. f) in
    let i = c.if-not-is_spelling.ensures.true_only_if refl in
    let o = c.if-not-is_spelling-2.ensures.true_only_if refl in (
      c.in-Some.name.now,
      i.0,
      o.0,
      line_read c.args.line.now c.in-Some.name.now c.in-Some.rest.now c.in-Some-split_once.input.now c.in-Some-split_once.output.now i.0 o.0 first.0 first.1 first.2 second.0 second.1 second.2 c.if-is_empty.ensures i.1 o.1,
    )

pub returns-clause-ok : goal.returns-clause-ok
returns-clause-ok c =
    let first = c.in-Some.ensures.byte (omega arith) (λ w o f. f) in
    let second = c.in-Some-split_once.ensures.byte (omega arith) (λ w o f. f) in
    line_read c.args.line.now c.in-Some.name.now c.in-Some.rest.now c.in-Some-split_once.input.now c.in-Some-split_once.output.now c.in_ok-bytes_of.field-0.items c.in_ok-bytes_of-2.field-0.items
    first.0 first.1 first.2 second.0 second.1 second.2 c.if-is_empty.ensures (c.in_ok-bytes_of.ensures (c.if-not-is_spelling.ensures.true_only_if refl)) (c.in_ok-bytes_of-2.ensures (c.if-not-is_spelling-2.ensures.true_only_if refl))
