-- SQL's tests of numbers and texts.
use Rattle.std.proofs.Common.{◌≡◌, ◌∙◌, refl, ap, ℕ, pos, List, Bool, true, false, ◌&&◌, Some, is_eq, Ordering, Less, Equal, Greater, arith}
use Rattle.std.specs.Cmp.{nat_cmp_total, eq_by_cmp_equiv}
use Rattle.std.specs.Ordering.{nat_cmp, int_cmp, ordering_then}
use Rattle.std.proofs.lemmas.Bool.Decides.{nat_tests}
use Rattle.std.proofs.lemmas.Cmp.{nat_list_cmp_total}
use Rattle.sqlite.specs.declared.types.Value.TheVariants.{Int, Text}
use Rattle.sqlite.specs.Ops.{binary, is_true, from_truth}
use Rattle.sqlite.specs.Order.{value_cmp}
use Rattle.sqlite_value.proofs.OrderLemmas.{value_cmp-Int, value_cmp-Text}
use Rattle.csi_keeper.specs.Texts.{text_cmp}
use Rattle.csi_sql.specs.Deletes.{is_same}

pub truth_test : (b : Bool) → is_true (from_truth (Some b)) ≡ b
truth_test true = refl
truth_test false = refl

pub int_tie : (a b : ℕ) → is_eq (int_cmp (pos a) (pos b)) ≡ is_eq (nat_cmp a b)
int_tie a b = grind (arith, nat_tests)

pub same_numbers : (a b : ℕ) → is_same (Int (pos a)) (Int (pos b)) ≡ is_eq (nat_cmp b a)
unfolding binary
same_numbers a b = truth_test (is_eq (value_cmp (Int (pos a)) (Int (pos b)))) ∙ ap is_eq (value_cmp-Int (pos a) (pos b)) ∙ int_tie a b ∙ (eq_by_cmp_equiv nat_cmp_total).symm a b

pub same_texts : (a b : List ℕ) → is_same (Text a) (Text b) ≡ is_eq (text_cmp b a)
unfolding binary
same_texts a b = truth_test (is_eq (value_cmp (Text a) (Text b))) ∙ ap is_eq (value_cmp-Text a b) ∙ (eq_by_cmp_equiv nat_list_cmp_total).symm a b

pub both_eq : (a b : Ordering) → is_eq (ordering_then a b) ≡ (is_eq a && is_eq b)
both_eq Less b = refl
both_eq Equal b = refl
both_eq Greater b = refl
