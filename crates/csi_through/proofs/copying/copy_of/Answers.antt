use Rattle.std.proofs.Common.{rules, ◌≡◌, ◌+◌, arith, subst, Ok}
use Rattle.csi_memory.specs.Holding.{Holds}
use Rattle.csi_memory.specs.Restoring.{from_number}
use Rattle.csi_keeper.specs.declared.change.StoreFault.TheVariants.{NoMemory, Refused}
use Rattle.csi_through.specs.Copying.{IsNumbered}
use Rattle.csi_through.proofs.CopyLemmas.{begins, whole}
use Rattle.csi_through.proofs.FaultLemmas.{ok_count, on_err, why_here, why_read, why_then}
use Rattle.csi_through.proofs.copying.copy_of.Goals as goal

pub returns-clause-copy : goal.returns-clause-copy
returns-clause-copy g c clean config s held inv =
    let model = g.K.Keeper.model in
    let before : (model c.next_number.new.self).doubt ≡ 0 = omega (arith, clean, c.restore_all.ensures.keeper_unchanged.clean) in
    let read = c.next_number.ensures.quiet.state before s held in
    let number = c.in_ok-next.ensures.value before s held in
    let all = c.in_ok-restore_all.ensures.copied clean config s read inv (subst (Holds c.in_ok-memory.memory) (begins config s inv) c.in_ok-memory.ensures) in
    subst (Holds c.skip_to.new.self) (whole config s inv all.0 all.1)
    (subst (λ n. Holds c.skip_to.new.self (from_number (record s { next = all.0 + 1 }) n)) number (c.skip_to.ensures _ all.2))

pub returns-clause-complete : goal.returns-clause-complete
returns-clause-complete g c clean s held =
    let model = g.K.Keeper.model in
    let before : (model c.next_number.new.self).doubt ≡ 0 = omega (arith, clean, c.restore_all.ensures.keeper_unchanged.clean) in
    subst IsNumbered (c.in_ok-next.ensures.value before s held) (c.is_numbered.ensures.0 c.if-not-is_numbered.false)

pub returns-in_err-next-clause-why : goal.returns-in_err-next-clause-why
returns-in_err-next-clause-why g c =
    let model = g.K.Keeper.model in
    let fault = c.in_err-next.field-0.0 in
    on_err _ c.from_residual.result fault (search rules)
    (why_read (model c.args.keeper.now) (model c.next_number.new.self) c.next_number.result fault (search rules) c.next_number.ensures.count c.next_number.ensures.down)

pub returns-in_err-memory-clause-why : goal.returns-in_err-memory-clause-why
returns-in_err-memory-clause-why g c =
    let model = g.K.Keeper.model in
    let is : c.next_number.result ≡ Ok c.in_ok-next.next = search rules in
    on_err _ c.from_residual-in_err-memory.result NoMemory (search rules)
    (why_here (model c.args.keeper.now) (model c.next_number.new.self) c.next_number.result c.in_ok-next.next is c.next_number.ensures.down NoMemory (λ e. cc (e)) (λ d config s held inv.
    ok_count (model c.args.keeper.now).refusals (model c.next_number.new.self).refusals c.next_number.result c.in_ok-next.next is c.next_number.ensures.count))

pub returns-in_err-restore_all-clause-why : goal.returns-in_err-restore_all-clause-why
returns-in_err-restore_all-clause-why g c =
    let model = g.K.Keeper.model in
    let fault = c.in_err-restore_all.field-0.0 in
    let is : c.next_number.result ≡ Ok c.in_ok-next.next = search rules in
    let same = ok_count (model c.args.keeper.now).refusals (model c.next_number.new.self).refusals c.next_number.result c.in_ok-next.next is c.next_number.ensures.count in
    on_err _ c.from_residual-in_err-restore_all.result fault (search rules)
    (why_then (model c.args.keeper.now) (model c.next_number.new.self) c.next_number.result c.in_ok-next.next is c.next_number.ensures.down (model c.restore_all.new.keeper) fault
    c.next_number.ensures.quiet c.restore_all.ensures.keeper_unchanged.clean same c.in_err-restore_all.ensures.why)
