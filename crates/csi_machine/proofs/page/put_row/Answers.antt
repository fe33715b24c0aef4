use Rattle.std.proofs.Common.{rules, ◌≡◌, subst, sym}
use Rattle.csi_machine.specs.Places.{ArePlaced}
use Rattle.csi_machine.proofs.PageLemmas.{then_ok}
use Rattle.csi_machine.proofs.page.put_row.Goals as goal

pub returns-in-Some-clause-ok : goal.returns-in-Some-clause-ok
returns-in-Some-clause-ok c placed =
    let config = c.args.config.now in
    let same : c.deref.result.now ≡ c.args.places.now.items = search rules in
    then_ok c.put_placed.result (λ is. is config (c.in-Some.ensures.placed config (subst (λ places. ArePlaced config places) (sym same) placed)) c.in-Some.ensures.pool) c.put_placed.ensures.ok
