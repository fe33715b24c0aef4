-- Entries with rising numbers are the entries of a map.
use Rattle.std.proofs.Common.{◌≡◌, refl, sym, inl, inr, ℕ, T, Bool, true, false, cond, ◌&&◌, List, [], ◌∷◌, Some, Ordering, Less, Equal, Greater, is_eq, is_lt}
use Rattle.std.specs.Ordering.{eq_by_cmp, nat_cmp}
use Rattle.std.specs.List.{AllByRecursion}
use Rattle.std.specs.FinMap.{find, is_sorted, nat_cmp-IsAntisymmetric}
use Rattle.std.specs.FinMap.Entries.{below_all}
use Rattle.sqlite.specs.Tree.{IsAscending}
use Rattle.sqlite_rules.specs.Lists.{Has}

both : (a b : Bool) → T a → T b → T (a && b)
both true b p q = q
both false b p q = absurd p

less : (o : Ordering) → o ≡ Less → T (is_lt o)
less Less e = tt
less Equal e = absurd (cc)
less Greater e = absurd (cc)

tied : (o : Ordering) → is_eq o ≡ true → o ≡ Equal
tied Less e = absurd (cc)
tied Equal e = cc
tied Greater e = absurd (cc)

module _ {X : Type 0} where
  below : (n : ℕ) (es : List (ℕ × X)) → AllByRecursion (λ e. nat_cmp n e.0 ≡ Less) es → T (below_all nat_cmp n es)
  below n [] all = tt
  below n (e ∷ es) all = both _ _ (less _ all.0) (below n es all.1)

  pub sorted : (es : List (ℕ × X)) → IsAscending (λ a b. nat_cmp a.0 b.0 ≡ Less) es → T (is_sorted nat_cmp es)
  sorted [] up = tt
  sorted (e ∷ es) up = both _ _ (below e.0 es up.0) (sorted es up.1)

  -- a value found under a number is stored there
  pub found_has : (n : ℕ) (v : X) (es : List (ℕ × X)) → find nat_cmp n es ≡ Some v → Has es (n, v)
  found_has n v [] e = absurd (cc)
  found_has n v (x ∷ es) e = go (eq_by_cmp nat_cmp n x.0) refl e (found_has n v es)
    where
      go : (b : Bool) → eq_by_cmp nat_cmp n x.0 ≡ b → cond b (Some x.1) (find nat_cmp n es) ≡ Some v → (find nat_cmp n es ≡ Some v → Has es (n, v)) → Has (x ∷ es) (n, v)
      go true t h more = let k : n ≡ x.0 = nat_cmp-IsAntisymmetric n x.0 (tied _ t) in let w : x.1 ≡ v = cc in inl (λ i. (k i, sym w i))
      go false t h more = inr (more h)
