-- If the list of pools or the list of sums ends, no further pool is full.
use Rattle.std.proofs.Common.{◌≡◌, ◌⊎◌, inl, inr, refl, ap, ℕ, List, [], ◌∷◌, None}
use Rattle.csi_constraints.specs.declared.sums.TextSum.{TextSum}
use Rattle.csi_adoption.specs.Faults.{first_full}
use Rattle.csi_adoption.specs.Seen.{sums_of}

pub none_left : {X : Type 0} (room : X → ℕ) (xs : List X) (sums : List TextSum) → (xs ≡ []) ⊎ (sums ≡ []) → first_full room xs (sums_of sums) ≡ None
none_left room xs sums (inl e) = ap (λ all. first_full room all (sums_of sums)) e
none_left room [] sums (inr e) = refl
none_left room (x ∷ xs) sums (inr e) = ap (λ all. first_full room (x ∷ xs) (sums_of all)) e
