-- Two rows of volumes with the same name have the same number.
use Rattle.std.proofs.Common.{◌≡◌, ◌∙◌, refl, sym, ap, ap₂, ℕ, pos, Bool, true, false, true≢false, Some, not, ◌&&◌, ◌==◌, List, [], ◌∷◌, is_eq, arith}
use Rattle.std.specs.Ordering.{is_ne, int_cmp}
use Rattle.std.proofs.lemmas.Bool.Decides.{nat_tests}
use Rattle.std.proofs.lemmas.Bool.{and_from, and_parts}
use Rattle.std.proofs.lemmas.Cmp.{tied_itself}
use Rattle.sqlite.specs.declared.types.Value.TheVariants.{Int, Text}
use Rattle.sqlite.specs.Ops.{binary, is_true, from_truth}
use Rattle.sqlite.specs.Order.{Row, column, value_cmp}
use Rattle.sqlite.specs.Tree.{Trees, rowid}
use Rattle.sqlite_catalog.specs.Listing.{IsSound}
use Rattle.sqlite_rules.specs.Lists.{Has}
use Rattle.sqlite_rules.proofs.ListLemmas.{all_has, some_from}
use Rattle.sqlite_schema.specs.declared.schema.Constraint.TheVariants.{Unique}
use Rattle.sqlite_schema.specs.Rules.{agree, clashes, differ, equal}
use Rattle.sqlite_value.proofs.OrderLemmas.{value_cmp-Int, value_cmp_total}
use Rattle.sqlite_value.specs.Keys.{first_key, plain}
use Rattle.sqlite.specs.Collation.TheVariants.{Binary}
use Rattle.csi_sql.specs.Tables.{schema}

truth_test : (b : Bool) → is_true (from_truth (Some b)) ≡ b
truth_test true = refl
truth_test false = refl

-- a text equals itself
equal_itself : (t : List ℕ) → equal Binary (Text t) (Text t) ≡ true
unfolding binary
equal_itself t = truth_test (is_eq (value_cmp (Text t) (Text t))) ∙ ap is_eq (tied_itself value_cmp_total (Text t))

apart : (a b : ℕ) → (a == b) ≡ false → is_ne (int_cmp (pos a) (pos b)) ≡ true
apart a b e = grind (arith, nat_tests)

differ_numbers : (a b : ℕ) → (a == b) ≡ false → differ (Int (pos a)) (Int (pos b)) ≡ true
unfolding binary
differ_numbers a b e = truth_test (is_ne (value_cmp (Int (pos a)) (Int (pos b)))) ∙ ap is_ne (value_cmp-Int (pos a) (pos b)) ∙ apart a b e

unless : (b : Bool) → not b ≡ true → b ≡ false
unless false e = refl
unless true e = absurd (true≢false (sym e))

unique : (db : Trees) → IsSound schema db → (row : Row) → Has (db 1) row → clashes plain (2 ∷ []) (db 1) row ≡ false
unique db sound row has =
    let rules = sound.obeys.rules Unique in
    let passed = all_has _ (db 1) row rules.1.0 has in
    unless _ (and_parts _ _ passed).0

pub one_name : (db : Trees) → IsSound schema db → (a b : Row) → Has (db 1) a → Has (db 1) b → (m n : ℕ) (name : List ℕ) → rowid a ≡ Int (pos m) → rowid b ≡ Int (pos n) → column a 2 ≡ Text name → column b 2 ≡ Text name → m ≡ n
unfolding first_key
one_name db sound a b p q m n name first second one other = go (m == n) refl
  where
    go : (t : Bool) → (m == n) ≡ t → m ≡ n
    go true e = grind (arith, nat_tests)
    go false e =
        let same : agree plain (2 ∷ []) a (2 ∷ []) b ≡ true = and_from _ _ (ap₂ (equal Binary) one other ∙ equal_itself name) refl in
        let far : differ (rowid a) (rowid b) ≡ true = ap₂ differ first second ∙ differ_numbers m n e in
        let clash : clashes plain (2 ∷ []) (db 1) b ≡ true = some_from (λ c. agree plain (2 ∷ []) c (2 ∷ []) b && differ (rowid c) (rowid b)) (db 1) a p (and_from _ _ same far) in
        absurd (true≢false (sym clash ∙ unique db sound b q))
