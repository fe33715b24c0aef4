-- The entries of maps with one more entry, and the number of entries that pass.
use Rattle.std.proofs.Common.{◌≡◌, sym, cond, arith, ◌+◌, ◌≤◌, List, [], ◌∷◌, length, filter, Bool, true, false, Some, None, Ordering, Less, Equal, Greater}
use Rattle.std.specs.Ordering.{is_eq}
use Rattle.std.specs.FinMap as fin
use Rattle.std.specs.FinMap.Entries.{by_order}
use Rattle.csi_keeper.specs.facts.Finite.{none_some}

module _ {K X : Type 0} where
  length_one : (p : K × X → Bool) (f : K × X) (fs : List (K × X)) → length (filter p (f ∷ fs)) ≡ cond (p f) 1 0 + length (filter p fs)
  length_one p f fs = elim (p f) as (λ b. length (cond b (f ∷ filter p fs) (filter p fs)) ≡ cond b 1 0 + length (filter p fs)) [ true ↦ omega arith | false ↦ omega arith ]

module _ {K X : Type 0} (R : K → K → Ordering) where
  -- one more entry, with a key that had no entry
  pub length_put : (p : K × X → Bool) (k : K) (v : X) (es : List (K × X)) → fin.find R k es ≡ None → length (filter p (fin.put R k v es)) ≡ cond (p (k, v)) 1 0 + length (filter p es)
  length_put p k v [] none = length_one p (k, v) []
  length_put p k v (e ∷ es) none = go (R k e.0) none (length_put p k v es)
    where
      go : (r : Ordering) → cond (is_eq r) (Some e.1) (fin.find R k es) ≡ None
          → (fin.find R k es ≡ None → length (filter p (fin.put R k v es)) ≡ cond (p (k, v)) 1 0 + length (filter p es))
          → length (filter p (by_order r ((k, v) ∷ e ∷ es) ((e.0, v) ∷ es) (e ∷ fin.put R k v es))) ≡ cond (p (k, v)) 1 0 + length (filter p (e ∷ es))
      go Less h more = length_one p (k, v) (e ∷ es)
      go Equal h more = absurd (none_some e.1 (sym h))
      go Greater h more = let a = length_one p e (fin.put R k v es) in let b = more h in let d = length_one p e es in omega (arith, a, b, d)

pub length_both : {A : Type 0} (p q : A → Bool) (xs : List A) → length (filter p (filter q xs)) ≤ length (filter p xs)
length_both p q [] = omega arith
length_both p q (x ∷ xs) =
    let more = length_both p q xs in
    elim (q x) as (λ b. length (filter p (cond b (x ∷ filter q xs) (filter q xs))) ≤ length (cond (p x) (x ∷ filter p xs) (filter p xs))) [
      | true ↦ elim (p x) as (λ b. length (cond b (x ∷ filter p (filter q xs)) (filter p (filter q xs))) ≤ length (cond b (x ∷ filter p xs) (filter p xs))) [ true ↦ omega (arith, more) | false ↦ more ]
      | false ↦ elim (p x) as (λ b. length (filter p (filter q xs)) ≤ length (cond b (x ∷ filter p xs) (filter p xs))) [ true ↦ omega (arith, more) | false ↦ more ]
    ]
