-- Ordered rows rise if no two neighbours share their first value.
use Rattle.std.proofs.Common.{◌≡◌, ◌≢◌, subst, ℕ, suc, ◌+◌, ◌<◌, arith, true, false, true≢false, List, [], ◌∷◌, length, map, slice_index_or, None, IsSorted}
use Rattle.std.specs.List.{AllByRecursion}
use Rattle.std.specs.declared.cmp.Ordering.{Ordering}
use Rattle.std.specs.declared.cmp.Ordering.TheVariants.{Less, Equal, Greater}
use Rattle.std.specs.Ordering.{is_lt, ordering_reverse}
use Rattle.sqlite.specs.Order.{Row, column, value_cmp}
use Rattle.sqlite.specs.Tree.{IsAscending}
use Rattle.sqlite.specs.View.{is_int}
use Rattle.sqlite.specs.declared.types.Value.{Value}
use Rattle.sqlite_value.proofs.OrderLemmas.{value_cmp_total}
use Rattle.csi_constraints.specs.Folds.{IsRising}
use Rattle.csi_constraints.specs.Scans.{first_cmp}

-- no row has the same first value as the next row
abbrev pub HasNoTies : List Row → Type 0
HasNoTies rows = (k : ℕ) (d : Row) → k + 1 < length rows → first_cmp (slice_index_or rows k d) (slice_index_or rows (k + 1) d) ≢ Equal

abbrev IsBelow : Value → Value → Type 0
IsBelow a b = value_cmp a b ≡ Less

is_less : (o p : Ordering) → o ≡ ordering_reverse p → is_lt p ≡ false → o ≢ Equal → o ≡ Less
is_less o Less e f n = absurd (true≢false f)
is_less o Equal e f n = absurd (n e)
is_less o Greater e f n = e

below_rest : (a b : Value) (vs : List Value) → value_cmp a b ≡ Less → AllByRecursion (λ v. IsBelow b v) vs → AllByRecursion (λ v. IsBelow a v) vs
below_rest a b [] less all = tt
below_rest a b (v ∷ vs) less all = (value_cmp_total.trans a b v less all.0, below_rest a b vs less all.1)

strictly : (rows : List Row) → IsSorted first_cmp rows → HasNoTies rows → IsAscending IsBelow (map (λ r. column r 0) rows)
strictly [] sorted none = tt
strictly (x ∷ []) sorted none = (tt, tt)
strictly (x ∷ y ∷ rows) sorted none =
    let less : value_cmp (column x 0) (column y 0) ≡ Less =
    is_less (value_cmp (column x 0) (column y 0)) (value_cmp (column y 0) (column x 0))
    (value_cmp_total.antisymm (column x 0) (column y 0))
    (sorted 0 x (omega arith) (omega arith)) (none 0 x (omega arith)) in
    let all = x ∷ y ∷ rows in
    let rest = strictly (y ∷ rows)
    (λ k d from below.
    let next : suc k + 1 ≡ suc (k + 1) = omega arith in
    subst (λ n. is_lt (first_cmp (slice_index_or all n d) (slice_index_or (y ∷ rows) k d)) ≡ false) next
    (sorted (suc k) d (omega arith) (omega (arith, below))))
    (λ k d below.
    let next : suc k + 1 ≡ suc (k + 1) = omega arith in
    subst (λ n. first_cmp (slice_index_or (y ∷ rows) k d) (slice_index_or all n d) ≢ Equal) next (none (suc k) d (omega (arith, below)))) in
    ((less, below_rest (column x 0) (column y 0) (map (λ r. column r 0) rows) less rest.0), rest)

pub sorted_rises : (rows : List Row) → AllByRecursion (λ r. is_int (column r 0) ≡ true) rows → IsSorted first_cmp rows → HasNoTies rows → IsRising 0 None rows
sorted_rises rows integers sorted none = record { integers = integers; rising = strictly rows sorted none }
