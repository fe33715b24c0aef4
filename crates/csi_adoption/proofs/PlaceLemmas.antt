-- Attachments by their numbers, and which of them are apart.
use Rattle.std.proofs.Common.{◌≡◌, ◌⊎◌, ◌∙◌, inl, inr, refl, sym, ap, ap₂, subst, suc, ◌+◌, arith, ℤ, int_lt, Bool, true, false, true≢false, not, T, ◌&&◌, cond, List, [], ◌∷◌, slice_index_or, Option, Some, None, Ordering, Less, Equal, Greater, IsPermutation, IsSorted}
use Rattle.std.specs.FinMap.{is_sorted}
use Rattle.std.specs.FinMap.Entries.{below_all}
use Rattle.std.specs.List.{AllByRecursion, IsDistinct}
use Rattle.std.specs.Ordering.{int_eq, is_lt, ordering_reverse}
use Rattle.std.proofs.lemmas.Cmp.{int_eq_equiv}
use Rattle.std.proofs.lemmas.Map.Keys.{IsDistinct-IsPermutation}
use Rattle.sqlite.specs.Order.{Row, column, value_cmp}
use Rattle.sqlite.specs.Tree.{IsAscending}
use Rattle.sqlite.specs.declared.types.Value.{Value}
use Rattle.sqlite.specs.declared.types.Value.TheVariants.{Null, Int, Real, Text, Blob}
use Rattle.sqlite_rules.specs.Lists.{Has}
use Rattle.sqlite_rules.proofs.ListLemmas.{all_from, all_has}
use Rattle.sqlite_value.proofs.OrderLemmas.{value_cmp_total, value_cmp-Int}
use Rattle.csi_keeper.specs.facts.Coexistence.{coexist_turned}
use Rattle.csi_constraints.specs.Folds.{as_integer}
use Rattle.csi_constraints.specs.Scans.{first_cmp}
use Rattle.csi_constraints.specs.Apart.{are_apart, falls, DoNotFall, NoneApart}
use Rattle.csi_constraints.specs.Joins.{attached_at}
use Rattle.csi_constraints.specs.Values.{are_some_and}

-- ---- lists

pub ascending_has : {X : Type 0} (R S : X → X → Type 0) (xs : List X) → ((a b : X) → Has xs a → Has xs b → R a b → S a b) → IsAscending R xs → IsAscending S xs
ascending_has R S [] more up = tt
ascending_has R S (x ∷ xs) more up = (
  all_from (S x) xs (λ y has. more x y (inl refl) (inr has) (all_has (R x) xs y up.0 has)),
  ascending_has R S xs (λ a b left right. more a b (inr left) (inr right)) up.1,
)

-- one of two different items comes first
pub one_way : {X : Type 0} (R : X → X → Type 0) (xs : List X) (x y : X) → IsAscending R xs → Has xs x → Has xs y → (x ≡ y → ⊥) → R x y ⊎ R y x
one_way R [] x y up left right far = absurd left
one_way R (z ∷ xs) x y up (inl p) (inl q) far = absurd (far (p ∙ sym q))
one_way R (z ∷ xs) x y up (inl p) (inr q) far = inl (subst (λ u. R u y) (sym p) (all_has (R z) xs y up.0 q))
one_way R (z ∷ xs) x y up (inr p) (inl q) far = inr (subst (λ u. R u x) (sym q) (all_has (R z) xs x up.0 p))
one_way R (z ∷ xs) x y up (inr p) (inr q) far = one_way R xs x y up.1 p q far

pub not_not : (b : Bool) → not b ≡ false → b ≡ true
not_not true e = refl
not_not false e = sym e

-- ---- the entries of a map

both : (a b : Bool) → T (a && b) → T a × T b
both true b h = (tt, h)
both false b h = absurd h

less_is : (o : Ordering) → T (is_lt o) → o ≡ Less
less_is Less h = refl
less_is Equal h = absurd h
less_is Greater h = absurd h

pub less_equal : Path Ordering Less Equal → ⊥
less_equal e = absurd (cc)

module _ {K X : Type 0} (R : K → K → Ordering) where
  below_is : (k : K) (es : List (K × X)) → T (below_all R k es) → AllByRecursion (λ e. R k e.0 ≡ Less) es
  below_is k [] h = tt
  below_is k (e ∷ es) h = let parts = both (is_lt (R k e.0)) (below_all R k es) h in (less_is (R k e.0) parts.0, below_is k es parts.1)

  pub keys_rise : (es : List (K × X)) → T (is_sorted R es) → IsAscending (λ e f. R e.0 f.0 ≡ Less) es
  keys_rise [] h = tt
  keys_rise (e ∷ es) h = let parts = both (below_all R e.0 es) (is_sorted R es) h in (below_is e.0 es parts.0, keys_rise es parts.1)

-- ---- rows in the order of the numbers

-- if a is not below b and b is not below c, a is not below c
not_below_then : (x y z : Value) → is_lt (value_cmp y x) ≡ false → is_lt (value_cmp z y) ≡ false → is_lt (value_cmp z x) ≡ false
not_below_then x y z low high = go (value_cmp z x) refl
  where
    less : value_cmp z x ≡ Less → (o : Ordering) → value_cmp y x ≡ o → ⊥
    less is Less e = true≢false (sym (ap is_lt e) ∙ low)
    less is Equal e =
        let turned : value_cmp y z ≡ Greater = value_cmp_total.congr y x z e ∙ value_cmp_total.antisymm x z ∙ ap ordering_reverse is in
        true≢false (sym (ap is_lt (value_cmp_total.antisymm z y ∙ ap ordering_reverse turned)) ∙ high)
    less is Greater e =
        let turned : value_cmp x y ≡ Less = value_cmp_total.antisymm x y ∙ ap ordering_reverse e in
        true≢false (sym (ap is_lt (value_cmp_total.trans z x y is turned)) ∙ high)

    go : (o : Ordering) → value_cmp z x ≡ o → is_lt (value_cmp z x) ≡ false
    go Less is = absurd (less is (value_cmp y x) refl)
    go Equal is = ap is_lt is
    go Greater is = ap is_lt is

abbrev IsNotBelow : Row → Row → Type 0
IsNotBelow a b = is_lt (first_cmp b a) ≡ false

not_below_rest : (a b : Row) (rows : List Row) → IsNotBelow a b → AllByRecursion (IsNotBelow b) rows → AllByRecursion (IsNotBelow a) rows
not_below_rest a b [] low all = tt
not_below_rest a b (r ∷ rows) low all = (not_below_then (column a 0) (column b 0) (column r 0) low all.0, not_below_rest a b rows low all.1)

in_order : (rows : List Row) → IsSorted first_cmp rows → IsAscending IsNotBelow rows
in_order [] sorted = tt
in_order (x ∷ []) sorted = (tt, tt)
in_order (x ∷ y ∷ rows) sorted =
    let all = x ∷ y ∷ rows in
    let low : IsNotBelow x y = sorted 0 x (omega arith) (omega arith) in
    let rest = in_order (y ∷ rows)
    (λ k d from below.
    let next : suc k + 1 ≡ suc (k + 1) = omega arith in
    subst (λ n. is_lt (first_cmp (slice_index_or all n d) (slice_index_or (y ∷ rows) k d)) ≡ false) next (sorted (suc k) d (omega arith) (omega (arith, below)))) in
    ((low, not_below_rest x y rows low rest.0), rest)

integers : (m n : ℤ) → is_lt (value_cmp (Int n) (Int m)) ≡ false → int_lt n m ≡ false
integers m n low = go (int_lt n m) refl
  where
    go : (b : Bool) → int_lt n m ≡ b → int_lt n m ≡ false
    go false is = is
    go true is = absurd (true≢false (sym (ap is_lt (value_cmp-Int n m ∙ ap (λ b. cond b Less (cond (int_lt m n) Greater Equal)) is)) ∙ low))

not_falling : (v w : Value) → is_lt (value_cmp w v) ≡ false → are_some_and (λ m n. int_lt n m) (as_integer v) (as_integer w) ≡ false
not_falling (Int m) (Int n) low = integers m n low
not_falling Null w low = refl
not_falling (Real x) w low = refl
not_falling (Text t) w low = refl
not_falling (Blob b) w low = refl
not_falling (Int m) Null low = refl
not_falling (Int m) (Real x) low = refl
not_falling (Int m) (Text t) low = refl
not_falling (Int m) (Blob b) low = refl

-- numbers in SQL's order do not fall
pub do_not_fall : (rows : List Row) → IsSorted first_cmp rows → DoNotFall rows
do_not_fall rows sorted = ascending_has IsNotBelow (λ a b. falls a b ≡ false) rows (λ a b left right low. not_falling (column a 0) (column b 0) low) (in_order rows sorted)

-- ---- rows that are apart, in another order

both_turned : {A : Type 0} (test : A → A → Bool) → ((a b : A) → test a b ≡ test b a) → (o p : Option A) → are_some_and test o p ≡ are_some_and test p o
both_turned test turned None None = refl
both_turned test turned None (Some b) = refl
both_turned test turned (Some a) None = refl
both_turned test turned (Some a) (Some b) = turned a b

apart_turned : (a b : Row) → are_apart a b ≡ are_apart b a
apart_turned a b =
    ap₂ (λ x y. x && not y) (both_turned int_eq int_eq_equiv.symm (as_integer (column a 0)) (as_integer (column b 0)))
    (both_turned _ coexist_turned (attached_at 2 3 a) (attached_at 2 3 b))

to_distinct : (rows : List Row) → NoneApart rows → IsDistinct are_apart rows
unfolding IsDistinct
to_distinct [] none = tt
to_distinct (r ∷ rows) none = (none.0, to_distinct rows none.1)

from_distinct : (rows : List Row) → IsDistinct are_apart rows → NoneApart rows
unfolding IsDistinct
from_distinct [] none = tt
from_distinct (r ∷ rows) none = (none.0, from_distinct rows none.1)

pub apart_permuted : (rows others : List Row) → IsPermutation rows others → NoneApart rows → NoneApart others
apart_permuted rows others same none = from_distinct others (IsDistinct-IsPermutation are_apart apart_turned rows others same (to_distinct rows none))
