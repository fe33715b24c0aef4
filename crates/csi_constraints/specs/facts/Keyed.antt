-- If the rowids of a scan rise, no two rows share a rowid.
use Rattle.std.proofs.Common.{◌≡◌, inl, inr, ◌∙◌, sym, ap, subst, ℕ, true, true≢false, List, [], ◌∷◌, map, drop, None, IsPermutation}
use Rattle.std.specs.List.{AllByRecursion}
use Rattle.std.specs.declared.cmp.Ordering.TheVariants.{Less}
use Rattle.std.specs.Ordering.{is_eq, ordering_reverse}
use Rattle.std.proofs.lemmas.List.Sorted.{IsPermutation-sym}
use Rattle.sqlite.specs.Order.{Row, column, value_cmp}
use Rattle.sqlite.specs.Tree.{IsAscending}
use Rattle.sqlite.specs.View.{is_int}
use Rattle.sqlite.specs.declared.types.Value.{Value}
use Rattle.sqlite_rules.specs.Lists.{Has}
use Rattle.sqlite_rules.proofs.ListLemmas.{all_from, all_has}
use Rattle.sqlite_rules.proofs.ProbeLemmas.{mapped_has}
use Rattle.sqlite_trees.proofs.ListLemmas.{all-permutation}
use Rattle.sqlite_value.proofs.OrderLemmas.{value_cmp_total}
use Rattle.csi_sql.specs.Rows.{seen_attachment}
use Rattle.csi_sql.specs.Effects.{AreKeyed}
use Rattle.csi_constraints.specs.Folds.{IsRising}
use Rattle.csi_constraints.specs.Scans.{IsInOrder, keyed_attachment}

has_permuted : {X : Type 0} (xs ys : List X) (x : X) → IsPermutation xs ys → Has ys x → Has xs x
has_permuted xs ys x same = all_has (Has xs) ys x (all-permutation (Has xs) xs ys same (all_from (Has xs) xs (λ e h. h)))

-- each value is below every later value
abbrev Rise : ℕ → List Row → Type 0
Rise at rows = IsAscending (λ a b. value_cmp a b ≡ Less) (map (λ r. column r at) rows)

below_has : (at : ℕ) (v : Value) (rows : List Row) (x : Row) → AllByRecursion (λ w. value_cmp v w ≡ Less) (map (λ r. column r at) rows) → Has rows x
    → value_cmp v (column x at) ≡ Less
below_has at v rows x all has = all_has (λ w. value_cmp v w ≡ Less) (map (λ r. column r at) rows) (column x at) all (mapped_has (λ r. column r at) rows x has)

not_tied : (a b : Value) → value_cmp a b ≡ Less → is_eq (value_cmp a b) ≡ true → ⊥
not_tied a b less tied = true≢false (sym tied ∙ ap is_eq less)

not_tied_back : (a b : Value) → value_cmp b a ≡ Less → is_eq (value_cmp a b) ≡ true → ⊥
not_tied_back a b less tied = true≢false (sym tied ∙ ap is_eq (value_cmp_total.antisymm a b ∙ ap ordering_reverse less))

-- in rows that rise, two rows with the same value are the same row
same_row : (at : ℕ) (rows : List Row) (x y : Row) → Rise at rows → Has rows x → Has rows y → is_eq (value_cmp (column x at) (column y at)) ≡ true → x ≡ y
same_row at [] x y up p q tied = absurd p
same_row at (z ∷ rows) x y up (inl p) (inl q) tied = p ∙ sym q
same_row at (z ∷ rows) x y up (inl p) (inr q) tied = absurd
    (not_tied (column x at) (column y at)
    (subst (λ u. value_cmp (column u at) (column y at) ≡ Less) (sym p) (below_has at (column z at) rows y up.0 q)) tied)
same_row at (z ∷ rows) x y up (inr p) (inl q) tied = absurd
    (not_tied_back (column x at) (column y at)
    (subst (λ u. value_cmp (column u at) (column x at) ≡ Less) (sym q) (below_has at (column z at) rows x up.0 p)) tied)
same_row at (z ∷ rows) x y up (inr p) (inr q) tied = same_row at rows x y up.1 p q tied

pub keyed_attachments : (table rows : List Row) → IsInOrder (map keyed_attachment table) rows → IsRising 0 None rows → AreKeyed seen_attachment table
keyed_attachments table rows order rises = record {
  keyed = λ r has. all_has (λ x. is_int (column x 0) ≡ true) rows (keyed_attachment r) rises.integers (shown r has);
  one = λ a b left right tied. ap (drop 1) (same_row 0 rows (keyed_attachment a) (keyed_attachment b) rises.rising (shown a left) (shown b right) tied);
}
  where
    shown : (r : Row) → Has table r → Has rows (keyed_attachment r)
    shown r has = has_permuted rows (map keyed_attachment table) (keyed_attachment r) (IsPermutation-sym _ _ order.same)
        (mapped_has keyed_attachment table r has)
