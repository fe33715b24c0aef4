use Rattle.std.proofs.Common.{rules, ◌≡◌, ◌∙◌, ap, subst, sym, map, Some, IfSome}
use Rattle.csi_machine.specs.declared.plan.Plan.{Plan}
use Rattle.csi_machine.specs.calls.Create.{place}
use Rattle.csi_rules.specs.Choice.{room_value}
use Rattle.csi_rules.specs.Size.{size}
use Rattle.csi_keeper.specs.State.{IsBounded}
use Rattle.csi_machine.proofs.CreateLemmas.{fresh_bounded}
use Rattle.csi_keeper.specs.facts.Reads.{if_ok}
use Rattle.csi_machine.proofs.calls.create.fresh.Goals as goal

pub returns-in-Some-clause-bounded : goal.returns-in-Some-clause-bounded
returns-in-Some-clause-bounded c =
    let rooms = map room_value c.args.rooms.now in
    let r = c.args.request.now in
    let sized : Some c.in-Some.bytes ≡ size c.args.config.now.sizes r.range = search rules in
    let good = c.sizes_whole.ensures in
    if_ok (λ creation e. subst (λ (x : Plan). IfSome x.change IsBounded) (sym (e ∙ ap (place rooms c.args.next r) sized)) (fresh_bounded c.args.config.now rooms c.args.next r good.default good.limit)) c.place.result c.place.ensures
