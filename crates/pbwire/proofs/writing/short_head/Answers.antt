use Rattle.std.proofs.Common.{arith, refl, ◌*◌, ◌+◌}
use Rattle.pbwire.proofs.VarintLemmas.{minimal_last}
use Rattle.pbwire.proofs.writing.short_head.Goals as goal

pub returns : goal.returns
returns c =
    let tag = minimal_last 9 (c.args.number * 8 + 2) (omega arith) in
    let len = minimal_last 9 c.args.len (omega arith) in
    rw (tag, len) refl
