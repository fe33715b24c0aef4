use Rattle.std.proofs.Common.{◌≡◌, ◌&&◌, true, false, ap, sym, ◌∙◌}
use Rattle.csi_types.specs.Topology.{is_within}
use Rattle.csi_types.proofs.FoldingLemmas.{within_both}
use Rattle.csi_types.proofs.topology.same_topology.Goals as goal

pub returns-then-is_within : goal.returns-then-is_within
returns-then-is_within c =
    let within : is_within c.args.one.now c.args.other.now ≡ true = sym c.is_within.ensures ∙ c.if-is_within.true in
    c.is_within-then-is_within.ensures
    ∙ sym (ap (λ b. b && is_within c.args.other.now c.args.one.now) within)
    ∙ within_both c.args.one.now c.args.other.now c.requires.keys_differ c.requires.other

pub returns-else-is_within : goal.returns-else-is_within
returns-else-is_within c =
    let without : is_within c.args.one.now c.args.other.now ≡ false = sym c.is_within.ensures ∙ c.if-is_within.false in
    c.if-is_within.false
    ∙ sym (ap (λ b. b && is_within c.args.other.now c.args.one.now) without)
    ∙ within_both c.args.one.now c.args.other.now c.requires.keys_differ c.requires.other
