use Rattle.std.proofs.Common.{◌≡◌, true}
use Rattle.std.specs.List.{AllAdjacentBelow}
use Rattle.csi_constraints.specs.Coding.{is_before}
use Rattle.csi_constraints.proofs.coding.rise.Given as goal

abbrev pub invariant-loop-at : goal.invariant-loop-at
invariant-loop-at l = AllAdjacentBelow (λ a b. is_before a b ≡ true) l.«keys» l.at
