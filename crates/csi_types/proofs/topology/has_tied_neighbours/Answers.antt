use Rattle.std.proofs.Common.{◌≡◌, rules, tests}
use Rattle.std.specs.Ordering.{is_lt}
use Rattle.std.proofs.lemmas.List.Sorted.{answers_always}
use Rattle.csi_types.proofs.SegmentLemmas.{by_key, tied_neighbours}
use Rattle.csi_types.proofs.topology.has_tied_neighbours.Goals as goal

pub returns : goal.returns
returns c =
    tied_neighbours _ _ c.requires
    (c.is_sorted_by.ensures.cases (λ x y. is_lt (by_key x y)) (answers_always _ (λ a r. r ≡ is_lt (by_key a.0.now a.1.0.now)) _ (λ f a r g k. search (rules, tests))))
