-- Rows can be put in the order of their first columns.
use Rattle.std.proofs.Common.{◌≡◌, ◌∙◌, refl, sym, ap, zero, suc, arith, add-one, Bool, true, false, cond, List, [], ◌∷◌, Ordering, Less, Equal, Greater, is_lt, is_gt, true≢false, IsSorted}
use Rattle.std.specs.List.{AllByRecursion}
use Rattle.std.specs.Cmp.{IsTotalOrder}
use Rattle.std.specs.Ordering.{ordering_reverse}
use Rattle.std.proofs.lemmas.Cmp.{on_total, upto}
use Rattle.std.proofs.lemmas.List.Sorted.{IsPermutation-sym}
use Rattle.sqlite.specs.Order.{Row, column}
use Rattle.sqlite.specs.Tree.{IsAscending}
use Rattle.sqlite_keyed.specs.Lists.{insert_sorted, sort_by}
use Rattle.sqlite_keyed.proofs.ListLemmas.{all_weaker}
use Rattle.sqlite_keyed.proofs.SortLemmas.{IsPermutation-sort_by}
use Rattle.sqlite_value.proofs.OrderLemmas.{value_cmp_total}
use Rattle.csi_constraints.specs.Scans.{IsInOrder, first_cmp}

turned : (o : Ordering) → is_gt o ≡ true → is_gt (ordering_reverse o) ≡ false
turned Less is = absurd (true≢false (sym is))
turned Equal is = absurd (true≢false (sym is))
turned Greater is = refl

turned_back : (o : Ordering) → is_gt o ≡ false → is_lt (ordering_reverse o) ≡ false
turned_back Less is = refl
turned_back Equal is = refl
turned_back Greater is = absurd (true≢false is)

module _ {X : Type 0} (cmp : X → X → Ordering) (total : IsTotalOrder cmp) where
  abbrev AtMost : X → X → Type 0
  AtMost a b = is_gt (cmp a b) ≡ false

  all_put : (P : X → Type 0) (new : X) (xs : List X) → P new → AllByRecursion P xs → AllByRecursion P (insert_sorted cmp new xs)
  all_put P new [] h all = (h, tt)
  all_put P new (x ∷ xs) h all =
      elim (is_gt (cmp new x)) as (λ b. AllByRecursion P (cond b (x ∷ insert_sorted cmp new xs) (new ∷ x ∷ xs))) [ true ↦ (all.0, all_put P new xs h all.1) | false ↦ (h, all) ]

  put : (new : X) (xs : List X) → IsAscending AtMost xs → IsAscending AtMost (insert_sorted cmp new xs)
  put new [] up = (tt, tt)
  put new (x ∷ xs) up = go (is_gt (cmp new x)) refl (put new xs up.1)
    where
      go : (b : Bool) → is_gt (cmp new x) ≡ b → IsAscending AtMost (insert_sorted cmp new xs) → IsAscending AtMost (cond b (x ∷ insert_sorted cmp new xs) (new ∷ x ∷ xs))
      go true above more = (all_put (AtMost x) new xs (ap is_gt (total.antisymm x new) ∙ turned (cmp new x) above) up.0, more)
      go false below more = ((below, all_weaker _ (AtMost new) (λ y. upto total new x y below) xs up.0), up)

  ascending : (xs : List X) → IsAscending AtMost (sort_by cmp xs)
  ascending [] = tt
  ascending (x ∷ xs) = put x (sort_by cmp xs) (ascending xs)

  sorted : (xs : List X) → IsAscending AtMost xs → IsSorted cmp xs
  sorted [] up k d p q = absurd (omega arith)
  sorted (x ∷ []) up k d p q = absurd (omega arith)
  sorted (x ∷ y ∷ xs) up zero d p q = ap is_lt (total.antisymm y x) ∙ turned_back (cmp x y) up.0.0
  sorted (x ∷ y ∷ xs) up (suc k) d p q = rw add-one (rw add-one at (sorted (y ∷ xs) up.1 k d (omega arith) (omega arith)))

pub in_order : (rows : List Row) → (ordered : List Row) × IsInOrder rows ordered
in_order rows =
    let total = on_total (λ (r : Row). column r 0) value_cmp_total in
    (sort_by first_cmp rows, record { same = IsPermutation-sym _ _ (IsPermutation-sort_by first_cmp total rows); sorted = sorted first_cmp total (sort_by first_cmp rows) (ascending first_cmp total rows) })
