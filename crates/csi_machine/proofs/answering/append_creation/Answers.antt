use Rattle.std.proofs.Common.{rules, ◌≡◌, Err, Result, ap, refl, subst, sym}
use Rattle.csi_types.specs.declared.requests.Request.TheVariants.{Create}
use Rattle.csi_keeper.specs.declared.change.StoreFault.{StoreFault}
use Rattle.csi_machine.specs.Answering.{Performs}
use Rattle.csi_machine.specs.Step.{limited, settled_plan}
use Rattle.csi_machine.specs.declared.body.Verdict.{Verdict}
use Rattle.csi_machine.proofs.AnsweringLemmas.{carried, fault_performed, performed, settled_sound}
use Rattle.csi_machine.proofs.answering.append_creation.Goals as goal

pub returns-in_err-creation : goal.returns-in_err-creation
returns-in_err-creation g c =
    let m = g.K.Keeper.model in
    let is : c.from_residual.result ≡ Err c.in_err-creation.field-0.0 = search rules in
    subst (λ (r : Result Verdict StoreFault). Performs c.args.config.now (Create c.args.request.now) (m c.args.keeper.now) (m c.create.new.keeper) c.args.out.now.items c.args.out.now.items r) (sym is)
    (fault_performed c.args.config.now (Create c.args.request.now) _ _ _ _ c.in_err-creation.field-0.0 (λ is. absurd (cc (is))) (λ no. no) c.in_err-creation.ensures.finds refl)

pub returns : goal.returns
returns g c =
    let found = c.in_ok-creation.ensures.finds in
    let did = c.finish.ensures in
    performed c.args.config.now (Create c.args.request.now) _ _ _ _ _ (λ is. absurd (cc (is))) (λ no. absurd no)
    (carried c.args.config.now (λ s. settled_plan c.args.config.now s (Create c.args.request.now)) _ _ _ _ _ _ _ (settled_sound c.args.config.now c.requires.configured (Create c.args.request.now) c.requires.checked)
    found.quiet (λ d s h. ap limited (found.value d s h)) (λ is s. ap limited (found.down.unasked is s)) did.carries found.count did.body did.err did.small)
