use Rattle.std.proofs.Common.{◌≡◌, ap, ◌∙◌, rules, tests, refl}
use Rattle.std.specs.Char.{to_ascii_lowercase}
use Rattle.std.specs.Iterator.Adapters.{map_source, map_callee}
use Rattle.std.specs.Ordering.{nat_cmp}
use Rattle.std.proofs.lemmas.Iterator.{YieldsList-from_slice, YieldsList-from_map}
use Rattle.std.proofs.lemmas.Iterator.Consumers.{YieldsList-at}
use Rattle.std.proofs.lemmas.Iterator.Search.{cmp_from_yields_List}
use Rattle.csi_types.proofs.topology.segments.compare_folded.Goals as goal

pub returns : goal.returns
returns c =
    cmp_from_yields_List (λ x y. y ≡ x) _ nat_cmp _ c.cmp.ensures.ran
    (YieldsList-from_map _ to_ascii_lowercase (YieldsList-at c.map-folded.ensures.source (YieldsList-from_slice c.args.one.now cc)) c.map-folded.ensures.closure (λ x r q k. search (rules, tests)))
    (λ it e. YieldsList-from_map _ to_ascii_lowercase (YieldsList-at (ap map_source e ∙ c.map.ensures.source) (YieldsList-from_slice c.args.other.now cc)) (ap map_callee e ∙ c.map.ensures.closure) (λ x r q k. search (rules, tests)))
    (λ x y. refl)
