-- Finite maps that are made of entries with different keys.
use Rattle.std.proofs.Common.{◌≡◌, ◌∙◌, refl, sym, subst, inl, inr, cond, true, false, List, [], ◌∷◌, map, Some, None, Ordering, IsPermutation}
use Rattle.std.specs.Cmp.{IsTotalOrder}
use Rattle.std.specs.FinMap.{FinMap, entries, find, get, insert, from_entries, entries-insert, get-entries, get-from_entries, IsAntisymmetric}
use Rattle.std.specs.List.{AllByRecursion}
use Rattle.std.specs.Ordering.{eq_by_cmp}
use Rattle.std.proofs.lemmas.List.Sorted.{IsPermutation-cons, IsPermutation-trans}
use Rattle.sqlite.specs.Tree.{IsAscending}
use Rattle.sqlite_rules.specs.Lists.{Has}
use Rattle.sqlite_rules.proofs.ListLemmas.{all_has}
use Rattle.sqlite_rules.proofs.ProbeLemmas.{has_mapped, mapped_has}
use Rattle.sqlite_trees.proofs.ListLemmas.{IsPermutation-same}
use Rattle.csi_tables.specs.facts.Entries.{has_permuted, put_fresh}
use Rattle.csi_keeper.specs.facts.Finite.{all_entries, none_listed, none_some, same_some, tied}

-- ---- an item of a permuted list

-- an item of one list has an item with the same value in the other
pub shown_by : {A B C : Type 0} (f : A → C) (g : B → C) (xs : List A) (ys : List B) → IsPermutation (map f xs) (map g ys) → (y : B) → Has ys y → (x : A) × Has xs x × (g y ≡ f x)
shown_by f g xs ys same y has = has_mapped f xs (g y) (has_permuted (map f xs) (map g ys) (g y) same (mapped_has g ys y has))

-- ---- entries

-- no two entries have the same key
abbrev pub AreApart : {K X : Type 0} → List (K × X) → Type 0
AreApart es = IsAscending (λ e f. e.0 ≡ f.0 → ⊥) es

module _ {K X : Type 0} {R : K → K → Ordering} (o : IsTotalOrder R) (exact : IsAntisymmetric R) where
  inserted : (m : FinMap R X) (k : K) (v : X) → get m k ≡ None → IsPermutation ((k, v) ∷ entries m) (entries (insert m k v))
  inserted m k v none = subst (IsPermutation ((k, v) ∷ entries m)) (sym (entries-insert o m k v)) (put_fresh R k v (entries m) (sym (get-entries m k) ∙ none))

  find_none : (q : K) (es : List (K × X)) → AllByRecursion (λ e. q ≡ e.0 → ⊥) es → find R q es ≡ None
  find_none q [] far = refl
  find_none q (e ∷ es) far = elim (eq_by_cmp R q e.0) as (λ b. eq_by_cmp R q e.0 ≡ b → cond b (Some e.1) (find R q es) ≡ None) [
    | true ↦ λ t. absurd (far.0 (exact q e.0 (tied _ t)))
    | false ↦ λ t. find_none q es far.1
  ] refl

  -- the map has these entries, and no other
  pub made_of : (es : List (K × X)) → AreApart es → IsPermutation es (entries (from_entries {R = R} es))
  made_of [] apart = IsPermutation-same _ _ (sym (none_listed {X = X} R))
  made_of (e ∷ es) apart =
      IsPermutation-trans _ _ _ (IsPermutation-cons e _ _ (made_of es apart.1))
      (inserted (from_entries es) e.0 e.1 (get-from_entries o es e.0 ∙ find_none e.0 es apart.0))

  find_has : (k : K) (v : X) (es : List (K × X)) → find R k es ≡ Some v → Has es (k, v)
  find_has k v [] some = absurd (none_some v some)
  find_has k v (e ∷ es) some = elim (eq_by_cmp R k e.0) as (λ b. eq_by_cmp R k e.0 ≡ b → cond b (Some e.1) (find R k es) ≡ Some v → Has (e ∷ es) (k, v)) [
    | true ↦ λ t h. let value = sym (same_some e.1 v h) in inl (λ i. (exact k e.0 (tied _ t) i, value i))
    | false ↦ λ t h. inr (find_has k v es h)
  ] refl some

  pub got_has : (m : FinMap R X) (k : K) (v : X) → get m k ≡ Some v → Has (entries m) (k, v)
  got_has m k v some = find_has k v (entries m) (sym (get-entries m k) ∙ some)

  pub has_got : (m : FinMap R X) (e : K × X) → Has (entries m) e → get m e.0 ≡ Some e.1
  has_got m e has = all_has (λ e. get m e.0 ≡ Some e.1) (entries m) e (all_entries o exact (λ k v. get m k ≡ Some v) m (λ k v some. some)) has
