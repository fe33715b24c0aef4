-- Entries that are put into a list, and lists in another order.
use Rattle.std.proofs.Common.{◌≡◌, sym, cond, List, [], ◌∷◌, Some, None, Ordering, Less, Equal, Greater, is_eq, IsPermutation}
use Rattle.std.specs.FinMap.{find, put}
use Rattle.std.specs.FinMap.Entries.{by_order}
use Rattle.std.proofs.lemmas.List.Sorted.{IsPermutation-cons, IsPermutation-middle, IsPermutation-refl, IsPermutation-sym, IsPermutation-trans}
use Rattle.sqlite_rules.specs.Lists.{Has}
use Rattle.sqlite_rules.proofs.ListLemmas.{all_from, all_has}
use Rattle.sqlite_trees.proofs.ListLemmas.{all-permutation}
use Rattle.csi_keeper.specs.facts.Finite.{none_some}

pub has_permuted : {X : Type 0} (xs ys : List X) (x : X) → IsPermutation xs ys → Has ys x → Has xs x
has_permuted xs ys x same = all_has (Has xs) ys x (all-permutation (Has xs) xs ys same (all_from (Has xs) xs (λ e h. h)))

module _ {K X : Type 0} (R : K → K → Ordering) where
  pub put_fresh : (k : K) (v : X) (es : List (K × X)) → find R k es ≡ None → IsPermutation ((k, v) ∷ es) (put R k v es)
  put_fresh k v [] none = IsPermutation-refl _
  put_fresh k v (e ∷ es) none = go (R k e.0) none (put_fresh k v es)
    where
      go : (o : Ordering) → cond (is_eq o) (Some e.1) (find R k es) ≡ None → (find R k es ≡ None → IsPermutation ((k, v) ∷ es) (put R k v es))
          → IsPermutation ((k, v) ∷ e ∷ es) (by_order o ((k, v) ∷ e ∷ es) ((e.0, v) ∷ es) (e ∷ put R k v es))
      go Less h more = IsPermutation-refl _
      go Equal h more = absurd (none_some e.1 (sym h))
      go Greater h more = IsPermutation-trans _ _ _ (IsPermutation-sym _ _ (IsPermutation-middle (e ∷ []) (k, v) es)) (IsPermutation-cons e _ _ (more h))
