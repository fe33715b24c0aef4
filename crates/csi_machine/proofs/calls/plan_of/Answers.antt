use Rattle.std.proofs.Common.{◌≡◌, ◌∙◌, None, Result, IfErr, IfOk, ap, refl, subst, sym}
use Rattle.csi_types.specs.declared.requests.Modify.{Modify}
use Rattle.csi_types.specs.declared.requests.Validate.{Validate}
use Rattle.csi_keeper.specs.declared.change.StoreFault.{StoreFault}
use Rattle.csi_keeper.specs.declared.change.StoreFault.TheVariants.{NoMemory}
use Rattle.csi_machine.specs.Step.{NamesNone, plan}
use Rattle.csi_machine.specs.declared.plan.Plan.{Plan}
use Rattle.csi_rules.specs.Ids.{number_of_id}
use Rattle.csi_machine.specs.Modify.{modify}
use Rattle.csi_machine.specs.Validate.{validate}
use Rattle.csi_rules.specs.facts.Finding.{found_as}
use Rattle.csi_machine.proofs.calls.plan_of.Goals as goal

pub returns-in-Delete-clause-finds : goal.returns-in-Delete-clause-finds
returns-in-Delete-clause-finds g c = found_as (λ s p so. so ∙ ap (plan c.args.config.now s) (sym c.in-Delete.is)) c.plan.ensures.finds

pub returns-in-Modify-clause-finds : goal.returns-in-Modify-clause-finds
returns-in-Modify-clause-finds g c = found_as (λ s p so. so ∙ ap (modify s) c.get-in-Modify.ensures ∙ ap (plan c.args.config.now s) (sym c.in-Modify.is)) c.plan_modify.ensures.finds

pub returns-in-Publish-clause-finds : goal.returns-in-Publish-clause-finds
returns-in-Publish-clause-finds g c = found_as (λ s p so. so ∙ ap (plan c.args.config.now s) (sym c.in-Publish.is)) c.plan-in-Publish.ensures.finds

pub returns-in-Unpublish-clause-finds : goal.returns-in-Unpublish-clause-finds
returns-in-Unpublish-clause-finds g c = found_as (λ s p so. so ∙ ap (plan c.args.config.now s) (sym c.in-Unpublish.is)) c.plan-in-Unpublish.ensures.finds

pub returns-in-Validate-clause-finds : goal.returns-in-Validate-clause-finds
returns-in-Validate-clause-finds g c = found_as (λ s p so. so ∙ ap (validate s) c.get.ensures ∙ ap (plan c.args.config.now s) (sym c.in-Validate.is)) c.plan_validate.ensures.finds

pub returns-in-Delete-clause-unnamed : goal.returns-in-Delete-clause-unnamed
returns-in-Delete-clause-unnamed g c = λ none. (c.plan.ensures.asks_nothing (subst NamesNone c.in-Delete.is none)).1

pub returns-in-Delete-clause-done : goal.returns-in-Delete-clause-done
returns-in-Delete-clause-done g c = λ none. c.plan.ensures.changes_nothing (subst NamesNone c.in-Delete.is none)

pub returns-in-Publish-clause-unnamed : goal.returns-in-Publish-clause-unnamed
returns-in-Publish-clause-unnamed g c = λ none. (c.plan-in-Publish.ensures.asks_nothing (subst NamesNone c.in-Publish.is none)).1

pub returns-in-Publish-clause-done : goal.returns-in-Publish-clause-done
returns-in-Publish-clause-done g c = λ none. c.plan-in-Publish.ensures.changes_nothing (subst NamesNone c.in-Publish.is none)

pub returns-in-Unpublish-clause-unnamed : goal.returns-in-Unpublish-clause-unnamed
returns-in-Unpublish-clause-unnamed g c = λ none. (c.plan-in-Unpublish.ensures.asks_nothing (subst NamesNone c.in-Unpublish.is none)).1

pub returns-in-Unpublish-clause-done : goal.returns-in-Unpublish-clause-done
returns-in-Unpublish-clause-done g c = λ none. c.plan-in-Unpublish.ensures.changes_nothing (subst NamesNone c.in-Unpublish.is none)

pub returns-in-Capacity-clause-unnamed : goal.returns-in-Capacity-clause-unnamed
returns-in-Capacity-clause-unnamed g c = λ none. absurd (subst NamesNone c.in-Capacity.is none)

pub returns-in-Capacity-clause-done : goal.returns-in-Capacity-clause-done
returns-in-Capacity-clause-done g c = λ none. absurd (subst NamesNone c.in-Capacity.is none)

pub returns-in-Modify-clause-unnamed : goal.returns-in-Modify-clause-unnamed
returns-in-Modify-clause-unnamed g c = λ none.
    let so = c.plan_modify.ensures.asks_nothing (ap (λ (r : Modify). number_of_id r.volume_id) c.get-in-Modify.ensures ∙ subst NamesNone c.in-Modify.is none) in
    subst (λ (r : Result Plan StoreFault). IfErr r (λ e. e ≡ NoMemory)) (sym so.1) tt

pub returns-in-Modify-clause-done : goal.returns-in-Modify-clause-done
returns-in-Modify-clause-done g c = λ none.
    let so = c.plan_modify.ensures.asks_nothing (ap (λ (r : Modify). number_of_id r.volume_id) c.get-in-Modify.ensures ∙ subst NamesNone c.in-Modify.is none) in
    subst (λ (r : Result Plan StoreFault). IfOk r (λ p. p.change ≡ None)) (sym so.1) refl

pub returns-in-Validate-clause-unnamed : goal.returns-in-Validate-clause-unnamed
returns-in-Validate-clause-unnamed g c = λ none.
    let so = c.plan_validate.ensures.asks_nothing (ap (λ (r : Validate). number_of_id r.volume_id) c.get.ensures ∙ subst NamesNone c.in-Validate.is none) in
    subst (λ (r : Result Plan StoreFault). IfErr r (λ e. e ≡ NoMemory)) (sym so.1) tt

pub returns-in-Validate-clause-done : goal.returns-in-Validate-clause-done
returns-in-Validate-clause-done g c = λ none.
    let so = c.plan_validate.ensures.asks_nothing (ap (λ (r : Validate). number_of_id r.volume_id) c.get.ensures ∙ subst NamesNone c.in-Validate.is none) in
    subst (λ (r : Result Plan StoreFault). IfOk r (λ p. p.change ≡ None)) (sym so.1) refl
