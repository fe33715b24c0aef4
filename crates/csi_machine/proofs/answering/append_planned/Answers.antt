use Rattle.std.proofs.Common.{◌≡◌, Err, IfErr, Result, ap, rules, subst, sym}
use Rattle.csi_keeper.specs.declared.change.StoreFault.{StoreFault}
use Rattle.csi_keeper.specs.declared.change.StoreFault.TheVariants.{NoMemory}
use Rattle.csi_keeper.specs.facts.Reads.{quiet_then}
use Rattle.csi_machine.specs.declared.body.Verdict.{Verdict}
use Rattle.csi_machine.specs.Step.{limited, settled_plan}
use Rattle.csi_machine.proofs.AnsweringLemmas.{carried, limited_none, performed, settled_sound}
use Rattle.csi_machine.proofs.answering.append_planned.Goals as goal

pub returns-in_err-plan : goal.returns-in_err-plan
returns-in_err-plan g c =
    let failed = c.in_err-plan.ensures in
    let is : c.from_residual.result ≡ Err c.in_err-plan.field-0.0 = search rules in
    performed c.args.config.now c.args.request.now _ _ _ _ _
    (λ of_plugin. (failed.finds.quiet, subst (λ (r : Result Verdict StoreFault). IfErr r (λ e. e ≡ NoMemory)) (sym is) (failed.asks_nothing of_plugin)))
    (λ none. (failed.finds.quiet, subst (λ (r : Result Verdict StoreFault). IfErr r (λ e. e ≡ NoMemory)) (sym is) (failed.unnamed none)))
    (search rules)

pub returns : goal.returns
returns g c =
    let found = c.in_ok-plan.ensures.finds in
    let did = c.finish.ensures in
    performed c.args.config.now c.args.request.now _ _ _ _ _
    (λ of_plugin.
    let none = limited_none _ (c.in_ok-plan.ensures.changes_nothing of_plugin) in
    (quiet_then found.quiet (did.carries.quiet none), did.carries.alone none))
    (λ names.
    let none = limited_none _ (c.in_ok-plan.ensures.done names) in
    (quiet_then found.quiet (did.carries.quiet none), did.carries.alone none))
    (carried c.args.config.now (λ s. settled_plan c.args.config.now s c.args.request.now) _ _ _ _ _ _ _ (settled_sound c.args.config.now c.requires.configured c.args.request.now c.requires.checked)
    found.quiet (λ d s h. ap limited (found.value d s h)) (λ is s. ap limited (found.down.unasked is s)) did.carries found.count did.body did.err did.small)
