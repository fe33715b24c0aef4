use Rattle.std.proofs.Common.{ap, sym, subst, ◌∙◌, ℕ, false, Some, rules}
use Rattle.std.specs.BTreeMap.{BTreeMap}
use Rattle.std.specs.BTreeSet.{BTreeSet}
use Rattle.csi_keeper.specs.Texts.{Text}
use Rattle.csi_maps.specs.Rows.{numbers_in, IsSpotSet}
use Rattle.csi_maps.proofs.NodesLemmas.{no_keys, none_there, spot_set, spot_last}
use Rattle.csi_maps.proofs.nodes.drop_spot.Goals as goal

pub returns-in_default-clause-gone : goal.returns-in_default-clause-gone
returns-in_default-clause-gone c =
    subst (λ (m : BTreeMap Text (BTreeSet ℕ)). IsSpotSet c.args.spot.now false c.args.nodes.now.entries m.entries) (sym c.get_mut.follows.holds-at-none)
    (none_there c.args.nodes.now.entries c.args.spot.now c.in_default.ensures.value)

pub returns-else-is_empty-clause-gone : goal.returns-else-is_empty-clause-gone
returns-else-is_empty-clause-gone c =
    let found = c.in-Some.ensures.value in
    let t = c.remove.new.self in
    spot_set _ _ c.args.spot.now.0 c.args.spot.now.1 (Some t) _ _ ((c.get_mut.follows.holds t).3 (search rules)).0
    (ap numbers_in (sym found)) c.remove.ensures.updates.0

pub returns-then-is_empty-clause-gone : goal.returns-then-is_empty-clause-gone
returns-then-is_empty-clause-gone c =
    let found = c.in-Some.ensures.value in
    let t = c.remove.new.self in
    let all = (c.get_mut.follows.holds t).3 (search rules) in
    spot_last _ _ _ c.args.spot.now
    (spot_set _ _ c.args.spot.now.0 c.args.spot.now.1 (Some t) _ _ all.0 (ap numbers_in (sym found)) c.remove.ensures.updates.0)
    (ap numbers_in all.1 ∙ no_keys _ (search rules)) c.remove-then-is_empty.ensures.updates.0
