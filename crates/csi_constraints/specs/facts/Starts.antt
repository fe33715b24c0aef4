-- A fold over no rows changes nothing, and a test keeps its outcome.
use Rattle.std.proofs.Common.{◌≡◌, refl, ℕ, ℤ, ◌+◌, ◌-◌, ◌<◌, ◌^◌, min, Bool, List, [], ◌∷◌, Option, Some, None, arith}
use Rattle.std.specs.List.{AllZip}
use Rattle.std.specs.Option.{option_or}
use Rattle.std.specs.declared.cmp.Ordering.TheVariants.{Less}
use Rattle.sqlite.specs.Order.{Row, value_cmp}
use Rattle.sqlite.specs.Tree.{IsAscending}
use Rattle.csi_constraints.specs.Apart.{AreCovered}
use Rattle.csi_constraints.specs.Folds.{CountsRows, IsLast, Rises, RisesOver, SumsText, values_from}
use Rattle.csi_constraints.specs.Named.{FindsBroken}
use Rattle.csi_constraints.specs.declared.apart.LastAttachment.{LastAttachment}
use Rattle.csi_constraints.specs.declared.count.RowCount.{RowCount}
use Rattle.csi_constraints.specs.declared.named.FirstBroken.{FirstBroken}
use Rattle.csi_constraints.specs.declared.rising.Rising.{Rising}
use Rattle.csi_constraints.specs.declared.sums.TextSum.{TextSum}

still_sum : (sum : ℕ) → sum < 2 ^ 64 → sum ≡ min (sum + 0) (2 ^ 64 - 1)
still_sum sum low = grind (arith)

pub sums_none : (fold : TextSum) → SumsText fold [] fold
sums_none fold = (refl, refl, refl, still_sum fold.sum)

pub counts_none : (fold : RowCount) → CountsRows fold [] fold
counts_none fold = still_sum fold.rows

pub each_itself : {X : Type 0} (R : X → X → Type 0) → ((x : X) → R x x) → (xs : List X) → AllZip R xs xs
each_itself R is [] = tt
each_itself R is (x ∷ xs) = (is x, each_itself R is xs)

none_before : (at : ℕ) (last : Option ℤ) → IsLast (values_from at last []) last
none_before at None = refl
none_before at (Some n) = ([], refl)

none_rises : (at : ℕ) (last : Option ℤ) → IsAscending (λ a b. value_cmp a b ≡ Less) (values_from at last [])
none_rises at None = tt
none_rises at (Some n) = (tt, tt)

rises_none : (at : ℕ) (good : Bool) (last : Option ℤ) → Rises at good last [] good last
rises_none at good last = record {
  good_is = (λ t. (t, record { integers = tt; rising = none_rises at last }), λ both. both.0);
  last_is = λ t. none_before at last;
}

pub rises_over_none : (fold : Rising) → RisesOver fold [] fold
rises_over_none fold = (refl, rises_none fold.column fold.good fold.last)

pub still_found : {A : Type 0} (found : Option A) → found ≡ option_or found None
still_found None = refl
still_found (Some a) = refl

pub finds_none : {T : Type 0} (accepts : T → Row → Bool) (knows : T → Row → Type 0) (fold : FirstBroken T) → FindsBroken accepts knows fold [] fold
finds_none accepts knows fold = record { test = refl; number = refl; text = refl; found = still_found fold.found; known = λ none. tt }

pub none_covered : (last : Option LastAttachment) → last ≡ None → AreCovered last []
none_covered None e = tt
none_covered (Some led) e = absurd (cc)
