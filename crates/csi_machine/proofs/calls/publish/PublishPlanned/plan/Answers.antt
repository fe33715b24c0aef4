use Rattle.std.proofs.Common.{◌∙◌, List, ap, refl, sym}
use Rattle.csi_keeper.specs.Lookup.{node_of}
use Rattle.csi_keeper.specs.declared.capability.CapKey.{CapKey}
use Rattle.csi_machine.specs.calls.Publish.{publish_found, publish_node}
use Rattle.csi_rules.specs.Finding.{volume_at}
use Rattle.csi_rules.specs.Ids.{number_of_id}
use Rattle.csi_rules.specs.facts.Finding.{found_so, found_then, keys_so, none_found}
use Rattle.csi_machine.proofs.calls.publish.PublishPlanned.plan.Goals as goal

pub returns-in_default-clause-finds : goal.returns-in_default-clause-finds
returns-in_default-clause-finds g c =
    found_so c.in_ok-number.ensures.finds (λ s named. c.refuse.ensures ∙ ap (publish_found c.args.config.now s c.args.self.now) (sym (none_found (volume_at s (number_of_id c.args.self.now.volume_id)) (sym named ∙ c.in_default.is))))

pub returns-clause-finds : goal.returns-clause-finds
returns-clause-finds g c =
    let node = node_of c.args.config.now c.args.self.now.node_id in
    found_then c.in_ok-number.ensures.finds c.publish_node.ensures.finds (λ s named p reported.
    reported ∙ ap (λ (keys : List CapKey). publish_node s c.in-Some.number keys c.args.self.now node) c.as_slice.ensures
    ∙ keys_so (publish_found c.args.config.now s c.args.self.now) (λ n keys. publish_node s n keys c.args.self.now node) (volume_at s (number_of_id c.args.self.now.volume_id))
    c.in-Some.number c.in-Some.caps (λ m v. refl) (sym c.in-Some.is ∙ named))
