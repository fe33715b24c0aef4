-- Integers that rise, row by row.
use Rattle.std.proofs.Common.{◌≡◌, ◌∙◌, refl, sym, ap, subst, ℕ, ℤ, int_lt, Bool, true, false, cond, true≢false, IsTrue, List, [], ◌∷◌, ◌++◌, map, Option, Some, None}
use Rattle.std.specs.List.{AllByRecursion}
use Rattle.std.specs.declared.cmp.Ordering.TheVariants.{Less}
use Rattle.sqlite.specs.Order.{Row, column, value_cmp}
use Rattle.sqlite.specs.Tree.{IsAscending}
use Rattle.sqlite.specs.View.{is_int}
use Rattle.sqlite.specs.declared.types.Value.{Value}
use Rattle.sqlite.specs.declared.types.Value.TheVariants.{Null, Int, Real, Text, Blob}
use Rattle.sqlite_value.proofs.OrderLemmas.{value_cmp_total, value_cmp-Int}
use Rattle.csi_constraints.specs.facts.Fronts.{all_front, ascending_front}
use Rattle.csi_constraints.specs.Folds.{as_integer, before, is_above, values_from, IsLast, IsRising, Rises}

all_push : {X : Type 0} (P : X → Type 0) (xs : List X) (y : X) → AllByRecursion P xs → P y → AllByRecursion P (xs ++ y ∷ [])
all_push P [] y all p = (p, tt)
all_push P (x ∷ xs) y all p = (all.0, all_push P xs y all.1 p)

all_weaker : {X : Type 0} (P Q : X → Type 0) → ((x : X) → P x → Q x) → (xs : List X) → AllByRecursion P xs → AllByRecursion Q xs
all_weaker P Q f [] all = tt
all_weaker P Q f (x ∷ xs) all = (f x all.0, all_weaker P Q f xs all.1)

ascending_push : {X : Type 0} (R : X → X → Type 0) (xs : List X) (y : X) → IsAscending R xs → AllByRecursion (λ x. R x y) xs → IsAscending R (xs ++ y ∷ [])
ascending_push R [] y up all = (tt, tt)
ascending_push R (x ∷ xs) y up all = (all_push (R x) xs y up.0 all.0, ascending_push R xs y up.1 all.1)

-- SQL's order of values
abbrev Below : Value → Value → Type 0
Below a b = value_cmp a b ≡ Less

append_push : {X : Type 0} (xs ys : List X) (y : X) → xs ++ (ys ++ y ∷ []) ≡ (xs ++ ys) ++ y ∷ []
append_push [] ys y = refl
append_push (x ∷ xs) ys y = ap (λ l. x ∷ l) (append_push xs ys y)

map_push : (f : Row → Value) (rows : List Row) (row : Row) → map f (rows ++ row ∷ []) ≡ map f rows ++ f row ∷ []
map_push f [] row = refl
map_push f (r ∷ rows) row = ap (λ l. f r ∷ l) (map_push f rows row)

values_push : (at : ℕ) (last : Option ℤ) (rows : List Row) (row : Row) → values_from at last (rows ++ row ∷ []) ≡ values_from at last rows ++ column row at ∷ []
values_push at last rows row = ap (λ l. before last ++ l) (map_push (λ r. column r at) rows row) ∙ append_push (before last) (map (λ r. column r at) rows) (column row at)

integer_is : (v : Value) (n : ℤ) → as_integer v ≡ Some n → v ≡ Int n
integer_is Null n e = absurd cc
integer_is (Int m) n e = let same : m ≡ n = cc in ap Int same
integer_is (Real x) n e = absurd cc
integer_is (Text t) n e = absurd cc
integer_is (Blob b) n e = absurd cc

no_integer : (v : Value) → as_integer v ≡ None → is_int v ≡ true → ⊥
no_integer Null e h = true≢false (sym h)
no_integer (Int m) e h = absurd cc
no_integer (Real x) e h = true≢false (sym h)
no_integer (Text t) e h = true≢false (sym h)
no_integer (Blob b) e h = true≢false (sym h)

is_less : (m n : ℤ) → int_lt m n ≡ true → Below (Int m) (Int n)
is_less m n h = value_cmp-Int m n ∙ rw h refl

not_less : (m n : ℤ) → int_lt m n ≡ false → Below (Int m) (Int n) → ⊥
not_less m n h below =
    let e = sym (value_cmp-Int m n) ∙ below in
    go (int_lt n m) (rw h at e)
  where
    go : (b : Bool) → cond b Rattle.std.specs.declared.cmp.Ordering.TheVariants.Greater Rattle.std.specs.declared.cmp.Ordering.TheVariants.Equal ≡ Less → ⊥
    go true e = absurd cc
    go false e = absurd cc

-- a value above the last of rising values is above them all
above_all : (values : List Value) (last : Option ℤ) (n : ℤ) → IsLast values last → is_above last n ≡ true → IsAscending Below values → AllByRecursion (λ v. Below v (Int n)) values
above_all values None n none above up = subst (AllByRecursion (λ v. Below v (Int n))) (sym none) tt
above_all values (Some m) n ends above up =
    let less = is_less m n above in
    let below = (ascending_front Below ends.0 (Int m) (subst (IsAscending Below) ends.1 up)).1 in
    subst (AllByRecursion (λ v. Below v (Int n))) (sym ends.1)
    (all_push (λ v. Below v (Int n)) ends.0 (Int m) (all_weaker (λ v. Below v (Int m)) (λ v. Below v (Int n)) (λ v h. value_cmp_total.trans v (Int m) (Int n) h less) ends.0 below) less)

not_above : (values : List Value) (last : Option ℤ) (n : ℤ) → IsLast values last → is_above last n ≡ false → AllByRecursion (λ v. Below v (Int n)) values → ⊥
not_above values None n none above all = true≢false above
not_above values (Some m) n ends above all = not_less m n above (all_front (λ v. Below v (Int n)) ends.0 (Int m) (subst (AllByRecursion (λ v. Below v (Int n))) ends.1 all)).1

-- ---- a step of the test

module _ (at : ℕ) (was : Bool) (last : Option ℤ) (rows : List Row) (good : Bool) (next : Option ℤ) (row : Row) (h : Rises at was last rows good next) where
  rises_front : IsRising at last (rows ++ row ∷ []) → IsRising at last rows × AllByRecursion (λ v. Below v (column row at)) (values_from at last rows)
  rises_front rising =
      let up = ascending_front Below (values_from at last rows) (column row at) (subst (IsAscending Below) (values_push at last rows row) rising.rising) in
      (record { integers = (all_front (λ r. is_int (column r at) ≡ true) rows row rising.integers).0; rising = up.0 }, up.1)

  stops : (IsTrue was → IsRising at last (rows ++ row ∷ []) → ⊥) → Rises at was last (rows ++ row ∷ []) false next
  stops not = record {
    good_is = (λ t. absurd (true≢false (sym t)), λ both. absurd (not both.0 both.1));
    last_is = λ t. absurd (true≢false (sym t));
  }

  pub has_none : as_integer (column row at) ≡ None → Rises at was last (rows ++ row ∷ []) false next
  has_none none = stops (λ w rising. no_integer (column row at) none (all_front (λ r. is_int (column r at) ≡ true) rows row rising.integers).1)

  module _ (n : ℤ) (is : as_integer (column row at) ≡ Some n) where
    value_is : column row at ≡ Int n
    value_is = integer_is (column row at) n is

    pub goes_on : is_above next n ≡ true → Rises at was last (rows ++ row ∷ []) good (Some n)
    goes_on above = record {
      good_is = (
        λ t.
            let both = h.good_is.0 t in
            let below = above_all (values_from at last rows) next n (h.last_is t) above both.1.rising in (
              both.0,
              record {
                integers = all_push (λ r. is_int (column r at) ≡ true) rows row both.1.integers (ap is_int value_is);
                rising = subst (IsAscending Below) (sym (values_push at last rows row))
                    (ascending_push Below (values_from at last rows) (column row at) both.1.rising (subst (λ x. AllByRecursion (λ v. Below v x) (values_from at last rows)) (sym value_is) below));
              },
            ),
        λ both. h.good_is.1 (both.0, (rises_front both.1).0),
      );
      last_is = λ t. (values_from at last rows, values_push at last rows row ∙ ap (λ v. values_from at last rows ++ v ∷ []) value_is);
    }

    pub is_low : is_above next n ≡ false → Rises at was last (rows ++ row ∷ []) false next
    is_low low = stops (λ w rising.
        let front = rises_front rising in
        not_above (values_from at last rows) next n (h.last_is (h.good_is.1 (w, front.0))) low
        (subst (λ x. AllByRecursion (λ v. Below v x) (values_from at last rows)) value_is front.1))
