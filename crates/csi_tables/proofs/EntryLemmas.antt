-- Entries of a finite map, under a permutation.
use Rattle.std.proofs.Common.{◌≡◌, ◌∙◌, inl, inr, refl, sym, ap, subst, not, filter, ℕ, zero, suc, ◌+◌, ◌<◌, T, Bool, true, false, cond, ◌&&◌, List, [], ◌∷◌, map, length, slice_index_or, Option, Some, None, Ordering, Less, Equal, Greater, is_eq, is_lt, IsPermutation, arith}
use Rattle.std.specs.List.{AllByRecursion}
use Rattle.std.specs.Ordering.{eq_by_cmp, ordering_reverse}
use Rattle.std.specs.Cmp.{IsTotalOrder, eq_by_cmp_equiv}
use Rattle.std.specs.FinMap.{FinMap, entries, find, put, get, insert, remove, is_sorted, entries_sorted, entries-insert, get-entries, get-remove, same_entries_map, IsAntisymmetric}
use Rattle.std.specs.FinMap.Entries.{by_order, below_all}
use Rattle.std.proofs.lemmas.Cmp.{on_total}
use Rattle.csi_keeper.specs.facts.Finite.{entries_kept, gone, none_some, same_some, set_anew, tied}
use Rattle.sqlite_rules.specs.Lists.{Has}
use Rattle.sqlite_trees.proofs.ListLemmas.{all-permutation, all-filter}
use Rattle.sqlite_trees.specs.Tree.{IsAscending}
use Rattle.sqlite_keyed.proofs.SortLemmas.{sorted_unique}
use Rattle.csi_tables.specs.facts.Entries.{put_fresh}

both : (a b : Bool) → T (a && b) → T a × T b
both true b h = (tt, h)
both false b h = absurd h

is_less : (o : Ordering) → T (is_lt o) → o ≡ Less
is_less Less h = refl
is_less Equal h = absurd h
is_less Greater h = absurd h

not_less : {K : Type 0} (R : K → K → Ordering) (o : IsTotalOrder R) (x y : K) → R x y ≡ Less → is_lt (R y x) ≡ false
not_less R o x y e = ap is_lt (o.antisymm y x ∙ ap ordering_reverse e)

module _ {K X : Type 0} (R : K → K → Ordering) where
  pub all_put : (P : K × X → Type 0) (k : K) (v : X) (es : List (K × X)) → find R k es ≡ None → P (k, v) → AllByRecursion P es → AllByRecursion P (put R k v es)
  all_put P k v [] none p all = (p, tt)
  all_put P k v (e ∷ es) none p all = go (R k e.0) none (λ h. all_put P k v es h p all.1)
    where
      go : (o : Ordering) → cond (is_eq o) (Some e.1) (find R k es) ≡ None → (find R k es ≡ None → AllByRecursion P (put R k v es))
          → AllByRecursion P (by_order o ((k, v) ∷ e ∷ es) ((e.0, v) ∷ es) (e ∷ put R k v es))
      go Less h more = (p, all)
      go Equal h more = absurd (none_some e.1 (sym h))
      go Greater h more = (all.0, more h)

  pub all_above : (x : K) (es : List (K × X)) → T (below_all R x es) → AllByRecursion (λ e. R x e.0 ≡ Less) es
  all_above x [] h = tt
  all_above x (e ∷ es) h = let two = both _ _ h in (is_less _ two.0, all_above x es two.1)

  pub rises : (es : List (K × X)) → T (is_sorted R es) → IsAscending (λ a b. R a.0 b.0 ≡ Less) es
  rises [] h = tt
  rises (e ∷ es) h = let two = both _ _ h in (all_above e.0 es two.0, rises es two.1)

  module _ (o : IsTotalOrder R) where
    sorted_at : (es : List (K × X)) → IsAscending (λ a b. R a.0 b.0 ≡ Less) es → (k : ℕ) (d : K × X) → k + 1 < length es
        → is_lt (R (slice_index_or es (k + 1) d).0 (slice_index_or es k d).0) ≡ false
    sorted_at [] up k d h = absurd (omega arith)
    sorted_at (x ∷ []) up k d h = absurd (omega arith)
    sorted_at (x ∷ y ∷ es) up zero d h = not_less R o x.0 y.0 up.0.0
    sorted_at (x ∷ y ∷ es) up (suc k) d h = rw Rattle.std.proofs.Common.add-one (rw Rattle.std.proofs.Common.add-one at (sorted_at (y ∷ es) up.1 k d (omega arith)))

    pub same_if_permuted : (m n : FinMap R X) → IsPermutation (entries m) (entries n) → m ≡ n
    same_if_permuted m n same =
        same_entries_map m n (sym (sorted_unique (λ a b. R a.0 b.0) (on_total (λ (e : K × X). e.0) o) (entries m) (entries n) (rises (entries m) (entries_sorted m)) same
        (λ k d low high. sorted_at (entries n) (rises (entries n) (entries_sorted n)) k d high)))

    pub inserted : (m : FinMap R X) (k : K) (v : X) → get m k ≡ None → IsPermutation ((k, v) ∷ entries m) (entries (insert m k v))
    inserted m k v none = subst (IsPermutation ((k, v) ∷ entries m)) (sym (entries-insert o m k v)) (put_fresh R k v (entries m) (sym (get-entries m k) ∙ none))

    pub all_inserted : (P : K × X → Type 0) (m : FinMap R X) (k : K) (v : X) → get m k ≡ None → P (k, v) → AllByRecursion P (entries m) → AllByRecursion P (entries (insert m k v))
    all_inserted P m k v none p all = subst (AllByRecursion P) (sym (entries-insert o m k v)) (all_put P k v (entries m) (sym (get-entries m k) ∙ none) p all)

-- ---- an entry of a map

module _ {K X : Type 0} {R : K → K → Ordering} (exact : IsAntisymmetric R) where
  find_has : (k : K) (v : X) (es : List (K × X)) → find R k es ≡ Some v → Has es (k, v)
  find_has k v [] f = absurd (none_some v f)
  find_has k v (e ∷ es) f = go (eq_by_cmp R k e.0) refl f (find_has k v es)
    where
      go : (b : Bool) → eq_by_cmp R k e.0 ≡ b → cond b (Some e.1) (find R k es) ≡ Some v → (find R k es ≡ Some v → Has es (k, v)) → Has (e ∷ es) (k, v)
      go true t h more = inl (λ i. (exact k e.0 (tied _ t) i, sym (same_some e.1 v h) i))
      go false t h more = inr (more h)

  pub found_has : (m : FinMap R X) (k : K) (v : X) → get m k ≡ Some v → Has (entries m) (k, v)
  found_has m k v f = find_has k v (entries m) (sym (get-entries m k) ∙ f)

pub map_back_on : {A B : Type 0} (P : A → Type 0) (encode : A → B) (decode : B → A) → ((x : A) → P x → decode (encode x) ≡ x) → (xs : List A) → AllByRecursion P xs → map decode (map encode xs) ≡ xs
map_back_on P encode decode back [] all = refl
map_back_on P encode decode back (x ∷ xs) all = ap (λ y. y ∷ map decode (map encode xs)) (back x all.0) ∙ ap (λ ys. x ∷ ys) (map_back_on P encode decode back xs all.1)

-- ---- entries of a map that lost some

module _ {K X : Type 0} {R : K → K → Ordering} (o : IsTotalOrder R) (exact : IsAntisymmetric R) where
  pub entries-remove : (m : FinMap R X) (k : K) → entries (remove m k) ≡ filter (λ e. not (eq_by_cmp R k e.0)) (entries m)
  entries-remove m k = entries_kept o exact m (remove m k) (λ x. not (eq_by_cmp R k x)) (λ q. get-remove o m k q ∙ turned (eq_by_cmp R q k) (eq_by_cmp R k q) ((eq_by_cmp_equiv o).symm q k) (get m q))
    where
      turned : (a b : Bool) → a ≡ b → (v : Option X) → cond a None v ≡ cond (not b) v None
      turned a b e v = ap (λ c. cond c None v) e ∙ elim b as (λ c. cond c None v ≡ cond (not c) v None) [ true ↦ refl | false ↦ refl ]

-- ---- entries of a map after a key got a new value

module _ {K X : Type 0} {R : K → K → Ordering} (o : IsTotalOrder R) (exact : IsAntisymmetric R) where
  pub overwritten : (m : FinMap R X) (k : K) (v : X) → IsPermutation ((k, v) ∷ filter (λ e. not (eq_by_cmp R k e.0)) (entries m)) (entries (insert m k v))
  overwritten m k v =
      subst (λ (n : FinMap R X). IsPermutation ((k, v) ∷ filter (λ e. not (eq_by_cmp R k e.0)) (entries m)) (entries n)) (sym (set_anew o exact m k v))
      (subst (λ es. IsPermutation ((k, v) ∷ es) (entries (insert (remove m k) k v))) (entries-remove o exact m k) (inserted R o (remove m k) k v (gone o exact m k)))

  pub all_overwritten : (P : K × X → Type 0) (m : FinMap R X) (k : K) (v : X) → P (k, v) → AllByRecursion P (entries m) → AllByRecursion P (entries (insert m k v))
  all_overwritten P m k v p all =
      all-permutation P _ _ (overwritten m k v) (p, all-filter P (λ e. not (eq_by_cmp R k e.0)) (entries m) all)

pub all_left : {E : Type 0} (P : E → Type 0) (p : E → Bool) (es kept : List E) → kept ≡ filter p es → AllByRecursion P es → AllByRecursion P kept
all_left P p es kept is all = subst (AllByRecursion P) (sym is) (all-filter P p es all)
