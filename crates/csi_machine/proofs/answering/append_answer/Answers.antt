use Rattle.std.proofs.Common.{◌≡◌, ◌∙◌, ap, sym, subst, refl}
use Rattle.csi_types.specs.declared.requests.CreateVolume.{CreateVolume}
use Rattle.csi_types.specs.declared.requests.ListVolumes.{ListVolumes}
use Rattle.csi_types.specs.declared.requests.Request.{Request}
use Rattle.csi_types.specs.declared.requests.Request.TheVariants as request
use Rattle.csi_machine.specs.Answering.{Performs}
use Rattle.csi_machine.proofs.AnsweringLemmas.{keeps, plan_still, settled_sound, still_performed}
use Rattle.csi_machine.proofs.answering.append_answer.Goals as goal

pub returns-in-List-clause-performs : goal.returns-in-List-clause-performs
returns-in-List-clause-performs g c =
    let m = g.K.Keeper.model in
    let asked : ListVolumes = c.get-in-List.result.now in
    let is : c.args.request.now ≡ request.List asked = c.in-List.is ∙ ap (λ (l : ListVolumes). request.List l) (sym c.get-in-List.ensures) in
    subst (λ (r : Request). Performs c.args.config.now r (m c.args.keeper.now) (m c.append_page.new.keeper) c.args.out.now.items c.append_page.new.out.items c.append_page.result) (sym is)
    (still_performed c.args.config.now (request.List asked) _ _ _ _ _ (λ is. absurd (cc (is))) (λ no. no) (λ s. plan_still c.args.config.now s (request.List asked) refl) c.append_page.ensures.finds c.append_page.ensures.appended)

pub returns-in-List-clause-invariant : goal.returns-in-List-clause-invariant
returns-in-List-clause-invariant g c = keeps c.args.config.now c.args.request.now (settled_sound c.args.config.now c.configured.ensures c.args.request.now c.requires)

pub returns-in-Create-clause-performs : goal.returns-in-Create-clause-performs
returns-in-Create-clause-performs g c =
    let m = g.K.Keeper.model in
    let is : c.args.request.now ≡ request.Create c.get.result.now = c.in-Create.is ∙ ap (λ (r : CreateVolume). request.Create r) (sym c.get.ensures) in
    subst (λ (r : Request). Performs c.args.config.now r (m c.args.keeper.now) (m c.append_creation.new.keeper) c.args.out.now.items c.append_creation.new.out.items c.append_creation.result) (sym is) c.append_creation.ensures

pub returns-in-Create-clause-invariant : goal.returns-in-Create-clause-invariant
returns-in-Create-clause-invariant g c = keeps c.args.config.now c.args.request.now (settled_sound c.args.config.now c.configured.ensures c.args.request.now c.requires)

pub returns-in_default : goal.returns-in_default
returns-in_default g c = record {
  performs = c.append_planned.ensures;
  invariant = keeps c.args.config.now c.args.request.now (settled_sound c.args.config.now c.configured.ensures c.args.request.now c.requires);
}
