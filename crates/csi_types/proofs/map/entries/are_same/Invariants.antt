use Rattle.std.proofs.Common.{◌≡◌, ◌&&◌, length}
use Rattle.std.specs.Cmp.Lexicographic.{pointwise}
use Rattle.csi_types.specs.Maps.{same_text}
use Rattle.csi_types.proofs.map.entries.are_same.Given as goal

abbrev pub invariant-loop-key : goal.invariant-loop-key
invariant-loop-key l =
    pointwise (λ p q. same_text p.0 q.0 && same_text p.1 q.1) l.ours l.theirs ≡ pointwise (λ p q. same_text p.0 q.0 && same_text p.1 q.1) l.fn.one l.fn.other

abbrev pub decreases-loop-key : goal.decreases-loop-key
decreases-loop-key l = length l.ours
