use Rattle.std.proofs.Common.{◌≡◌, ◌<◌, ◌-◌, length, rules, arith}
use Rattle.pbwire.proofs.CloseLemmas.{short_length}
use Rattle.pbwire.proofs.writing.close_bytes.Goals as goal

pub returns-clause-ok : goal.returns-clause-ok
returns-clause-ok c =
    let size : c.len.result ≡ length c.args.out.now.items = search rules in
    let short : c.len.result - c.args.from < 128 = omega arith in
    short_length c.args.out.now.items c.args.from c.len.result size c.requires.0 c.requires.1 short
