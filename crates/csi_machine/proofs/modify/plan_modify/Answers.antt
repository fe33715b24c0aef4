use Rattle.std.proofs.Common.{◌∙◌, ap, sym}
use Rattle.csi_machine.specs.Modify.{modify_found}
use Rattle.csi_rules.specs.facts.Finding.{found_so}
use Rattle.csi_machine.proofs.modify.plan_modify.Goals as goal

pub returns-in_default-clause-finds : goal.returns-in_default-clause-finds
returns-in_default-clause-finds g c = found_so c.in_ok-number.ensures.finds (λ s named. c.refuse.ensures ∙ ap (modify_found c.args.request.now) (sym c.in_default.is ∙ named))

pub returns-clause-finds : goal.returns-clause-finds
returns-clause-finds g c = found_so c.in_ok-number.ensures.finds (λ s named. c.in_ok-modify_own.ensures.value ∙ ap (modify_found c.args.request.now) (sym c.in-Some.is ∙ named))
