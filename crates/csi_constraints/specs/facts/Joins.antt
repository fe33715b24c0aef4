-- A test of each row that a scan over two tables shows is a test of each attachment with its volume.
use Rattle.std.proofs.Common.{◌≡◌, inl, inr, ◌∙◌, refl, sym, ap, subst, List, [], ◌∷◌, map, filter, flat_map, Bool, true, false, true≢false, IsPermutation}
use Rattle.std.specs.List.{list_all}
use Rattle.std.proofs.lemmas.List.Sorted.{IsPermutation-sym}
use Rattle.sqlite.specs.Order.{Row}
use Rattle.sqlite.specs.Query.{or_nulls}
use Rattle.sqlite_rules.specs.Lists.{Has}
use Rattle.sqlite_rules.proofs.ListLemmas.{all_from, all_has, test_has, fails_has, has_filtered, has_either, has_left, has_right}
use Rattle.sqlite_rules.proofs.ProbeLemmas.{has_mapped, mapped_has}
use Rattle.sqlite_trees.proofs.ListLemmas.{all-permutation}
use Rattle.csi_constraints.specs.Scans.{owns, with_owner, owners}

has_permuted : {X : Type 0} (xs ys : List X) (x : X) → IsPermutation xs ys → Has ys x → Has xs x
has_permuted xs ys x same = all_has (Has xs) ys x (all-permutation (Has xs) xs ys same (all_from (Has xs) xs (λ e h. h)))

flat_has : {A B : Type 0} (f : A → List B) (xs : List A) (y : B) → Has (flat_map f xs) y → (x : A) × Has xs x × Has (f x) y
flat_has f [] y h = absurd h
flat_has f (x ∷ xs) y h = elim (has_either (f x) (flat_map f xs) y h) [
  | inl here ↦ (x, inl refl, here)
  | inr later ↦ let r = flat_has f xs y later in (r.0, inr r.1, r.2)
]

has_flat : {A B : Type 0} (f : A → List B) (xs : List A) (x : A) (y : B) → Has xs x → Has (f x) y → Has (flat_map f xs) y
has_flat f [] x y h k = absurd h
has_flat f (z ∷ xs) x y (inl e) k = has_left (f z) (flat_map f xs) y (subst (λ u. Has (f u) y) e k)
has_flat f (z ∷ xs) x y (inr h) k = has_right (f z) (flat_map f xs) y (has_flat f xs x y h k)

-- if all rows pass, and a row without a volume does not, each attachment has a volume with which it passes
pub each_owned : (test : Row → Bool) → ((r : Row) → test (with_owner r []) ≡ false) → (attachments volumes rows : List Row)
    → IsPermutation (owners attachments volumes) rows → list_all test rows ≡ true
    → (r : Row) → Has attachments r → (v : Row) × Has volumes v × (owns r v ≡ true) × (test (with_owner r v) ≡ true)
each_owned test none attachments volumes rows same all r has = go (filter (owns r) volumes) refl
  where
    passes : (y : Row) → Has (owners attachments volumes) y → test y ≡ true
    passes y h = test_has test rows y all (has_permuted rows _ y (IsPermutation-sym _ _ same) h)

    at : (vs : List Row) → or_nulls (filter (owns r) volumes) ≡ vs → (v : Row) → Has vs v → test (with_owner r v) ≡ true
    at vs e v h = passes (with_owner r v)
        (has_flat (λ r. map (with_owner r) (or_nulls (filter (owns r) volumes))) attachments r (with_owner r v) has
        (mapped_has (with_owner r) (or_nulls (filter (owns r) volumes)) v (subst (λ xs. Has xs v) (sym e) h)))

    go : (vs : List Row) → filter (owns r) volumes ≡ vs → (v : Row) × Has volumes v × (owns r v ≡ true) × (test (with_owner r v) ≡ true)
    go [] e = absurd (true≢false (sym (at ([] ∷ []) (ap or_nulls e) [] (inl refl)) ∙ none r))
    go (v ∷ vs) e =
        let f = has_filtered (owns r) volumes v (subst (λ xs. Has xs v) (sym e) (inl refl)) in
        (v, f.0, f.1, at (v ∷ vs) (ap or_nulls e) v (inl refl))

-- if a row does not pass, some attachment does not pass with its volume, or has no volume
pub some_unowned : (test : Row → Bool) (attachments volumes rows : List Row) → IsPermutation (owners attachments volumes) rows → list_all test rows ≡ false
    → (r : Row) × Has attachments r × ((v : Row) × Has (or_nulls (filter (owns r) volumes)) v × (test (with_owner r v) ≡ false))
some_unowned test attachments volumes rows same fails =
    let y = fails_has test rows fails in
    let r = flat_has (λ r. map (with_owner r) (or_nulls (filter (owns r) volumes))) attachments y.0 (has_permuted _ rows y.0 same y.1) in
    let v = has_mapped (with_owner r.0) (or_nulls (filter (owns r.0) volumes)) y.0 r.2 in
    (r.0, r.1, (v.0, v.1, ap test (sym v.2) ∙ y.2))
