use Rattle.std.proofs.Common.{◌≡◌, ℕ, List, OnOk, ◌++◌, subst, arith}
use Rattle.pbwire.proofs.MapEntryLemmas.{short_entry}
use Rattle.pbwire.proofs.writing.put_entry.Goals as goal

pub returns-in-Some-clause-ok : goal.returns-in-Some-clause-ok
returns-in-Some-clause-ok c =
    let is = short_entry c.args.number c.args.key.now c.args.value.now c.in-Some.head (omega arith) c.in-Some.ensures in
    subst (λ (bs : List ℕ). OnOk c.append_short_entry.result (c.append_short_entry.new.out.items ≡ c.args.out.now.items ++ bs)) is c.append_short_entry.ensures.ok
