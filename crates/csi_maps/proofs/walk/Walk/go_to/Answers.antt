use Rattle.std.proofs.Common.{◌≡◌, ◌∙◌, ◌==◌, ◌++◌, ◌∷◌, [], if◌then◌else◌, ap, List, rules}
use Rattle.std.specs.Map.Iter.{deref_pair}
use Rattle.csi_keeper.specs.Texts.{Text}
use Rattle.csi_maps.proofs.WalkLemmas.{gone_past, reported_more, reported_all}
use Rattle.csi_maps.proofs.walk.Walk.go_to.Goals as goal

pub loop-place-preserved : goal.loop-place-preserved
loop-place-preserved c = record {
  reported = reported_more c.args.number (deref_pair (c.in-Some.place, c.in-Some.attachment)) _ _ c.loop-place.self.nodes _ _ c.in-Some.ensures.takes.0 (c.in_ok-push_node.ensures ∙ ap (λ (nodes : List Text). nodes ++ (if c.in-Some.place.now.0 == c.args.number then c.in-Some.attachment.now.node ∷ [] else [])) c.in-Some.ensures.nodes) c.loop-place.invariant.reported;
  over = gone_past c.args.attachments.now.entries _ _ c.args.number (deref_pair (c.in-Some.place, c.in-Some.attachment)) c.in-Some.ensures.takes.0 c.in-Some.ensures.takes.1 c.loop-place.invariant.over;
  passed = search rules;
}

pub returns-in_err-push_node-clause-over : goal.returns-in_err-push_node-clause-over
returns-in_err-push_node-clause-over c =
    let same : c.next_up_to.new.self.passed ≡ c.args.number = search rules in
    rw same (gone_past c.args.attachments.now.entries _ _ c.args.number (deref_pair (c.in-Some.place, c.in-Some.attachment)) c.in-Some.ensures.takes.0 c.in-Some.ensures.takes.1 c.loop-place.invariant.over)

pub returns-clause-nodes : goal.returns-clause-nodes
returns-clause-nodes c = c.in_default.ensures.nodes ∙ reported_all c.args.attachments.now.entries _ c.args.number c.loop-place.self.nodes _ c.in_default.ensures.takes.1 c.loop-place.invariant.over c.loop-place.invariant.reported
