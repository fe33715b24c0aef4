use Rattle.std.proofs.Common.{ℕ, List, ◌≡◌, ◌++◌, ◌-◌, length, take, drop, ap, ◌∙◌, arith}
use Rattle.std.specs.Prelude.{slice_set, slice_index_or}
use Rattle.pbwire.specs.Writing.{varint}
use Rattle.pbwire.proofs.CloseLemmas.{long_length, others_are, some_bytes}
use Rattle.pbwire.proofs.writing.close_long_bytes.Goals as goal

pub unreachable-requires : goal.unreachable-requires
unreachable-requires c =
    let head : c.as_slice.result.now ≡ varint c.args.len = c.as_slice.ensures.value ∙ c.push_varint.ensures ∙ ap (λ (bs : List ℕ). bs ++ varint c.args.len) c.new-head.ensures in
    omega (arith, ap length head, some_bytes 9 c.args.len, c.in_default.len_below)

pub returns-clause-ok : goal.returns-clause-ok
returns-clause-ok c =
    let head : c.as_slice.result.now ≡ varint c.args.len = c.as_slice.ensures.value ∙ c.push_varint.ensures ∙ ap (λ (bs : List ℕ). bs ++ varint c.args.len) c.new-head.ensures in
    ap (λ (bs : List ℕ). slice_set bs (c.args.from - 1) (slice_index_or c.as_slice.result.now 0 0)) c.in_ok-insert_before.ensures.ok
    ∙ ap (λ (bs : List ℕ). slice_set (take c.args.from c.args.out.now.items ++ (bs ++ drop c.args.from c.args.out.now.items)) (c.args.from - 1) (slice_index_or c.as_slice.result.now 0 0)) (others_are c.as_slice.result.now)
    ∙ long_length c.args.out.now.items c.as_slice.result.now c.args.from c.requires.within.0 (omega (arith, c.requires.within.1)) (omega (arith, ap length head, some_bytes 9 c.args.len))
    ∙ ap (λ (bs : List ℕ). take (c.args.from - 1) c.args.out.now.items ++ (bs ++ drop c.args.from c.args.out.now.items)) head
