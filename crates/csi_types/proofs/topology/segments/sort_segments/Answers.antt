use Rattle.std.proofs.Common.{List, ℕ, subst, map}
use Rattle.std.specs.List.Sorted.{IsPermutation}
use Rattle.std.proofs.lemmas.List.Sorted.{IsPermutation-map}
use Rattle.csi_types.specs.Segments.{entry_of}
use Rattle.csi_types.proofs.topology.segments.sort_segments.Goals as goal

pub returns-clause-all : goal.returns-clause-all
returns-clause-all c =
    subst (λ (es : List (List ℕ × List ℕ)). IsPermutation es (map entry_of c.sort_unstable.new.self)) c.put_segments.ensures (IsPermutation-map entry_of _ _ c.sort_unstable.ensures.permutation)
