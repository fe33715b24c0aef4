-- Rows break no constraint exactly if they pass.
use Rattle.std.proofs.Common.{◌≡◌, ◌∙◌, refl, sym, ap, subst, arith, ℕ, ◌-◌, ◌^◌, ◌≤◌, min, nat_lt, nat_le, ℤ, pos, negsuc, Bool, true, false, cond, not, ◌&&◌, List, [], ◌∷◌, map, Option, Some, None, true≢false}
use Rattle.std.specs.List.{AllByRecursion, list_all}
use Rattle.std.specs.Option.{option_map}
use Rattle.std.proofs.lemmas.Bool.Decides.{nat_tests}
use Rattle.sqlite.specs.Order.{Row}
use Rattle.csi_types.specs.declared.limits.TheConstants.{MAX_NUMBER, MAX_VOLUMES}
use Rattle.csi_constraints.specs.Named.{first_out, name_of}
use Rattle.csi_constraints.specs.declared.broken.BrokenConstraint.TheVariants as broken
use Rattle.csi_adoption.specs.Faults.{count_fault, first_fault, first_full, next_fault}
use Rattle.csi_adoption.specs.declared.fault.AdoptFault.{AdoptFault}
use Rattle.csi_adoption.specs.declared.fault.AdoptFault.TheVariants.{Broken}
use Rattle.csi_adoption.specs.Judging.{first_named, valid_next}

-- ---- no fault of a list

pub none_first : (f : Option AdoptFault) (rest : List (Option AdoptFault)) → first_fault (f ∷ rest) ≡ None → (f ≡ None) × (first_fault rest ≡ None)
none_first None rest e = (refl, e)
none_first (Some f) rest e = absurd (cc)

pub none_both : (f : Option AdoptFault) (rest : List (Option AdoptFault)) → f ≡ None → first_fault rest ≡ None → first_fault (f ∷ rest) ≡ None
none_both None rest f e = e
none_both (Some x) rest f e = absurd (cc)

pub unmapped : {A B : Type 0} (f : A → B) (o : Option A) → option_map f o ≡ None → o ≡ None
unmapped f None e = refl
unmapped f (Some a) e = absurd (cc)

-- ---- a choice that is none

pub no_first : {A : Type 0} (b : Bool) (a : A) (o : Option A) → cond b (Some a) o ≡ None → (b ≡ false) × (o ≡ None)
no_first true a o e = absurd (cc)
no_first false a o e = (refl, e)

pub neither : {A : Type 0} (b : Bool) (a : A) (o : Option A) → b ≡ false → o ≡ None → cond b (Some a) o ≡ None
neither true a o is e = absurd (true≢false is)
neither false a o is e = e

pub no_second : {A : Type 0} (b : Bool) (a : A) → cond b None (Some a) ≡ None → b ≡ true
no_second true a e = refl
no_second false a e = absurd (cc)

is_true : (b : Bool) → not b ≡ false → b ≡ true
is_true true e = refl
is_true false e = sym e

both_are : (a b : Bool) → a ≡ true → b ≡ true → (a && b) ≡ true
both_are true b e f = f
both_are false b e f = e

parts_of : (a b : Bool) → (a && b) ≡ true → (a ≡ true) × (b ≡ true)
parts_of true b e = (refl, e)
parts_of false b e = absurd (true≢false (sym e))

-- ---- no row that breaks a constraint

none_out : (test : Row → Bool) (rows : List Row) → first_out test rows ≡ None → list_all test rows ≡ true
none_out test [] e = refl
none_out test (r ∷ rows) e = let parts = no_first (not (test r)) r (first_out test rows) e in both_are (test r) (list_all test rows) (is_true (test r) parts.0) (none_out test rows parts.1)

all_in : (test : Row → Bool) (rows : List Row) → list_all test rows ≡ true → first_out test rows ≡ None
all_in test [] all = refl
all_in test (r ∷ rows) all = let parts = parts_of (test r) (list_all test rows) all in neither (not (test r)) r (first_out test rows) (ap not parts.0) (all_in test rows parts.1)

pub none_named : (number text : ℕ) (test : Row → Bool) (rows : List Row) → first_named number text test rows ≡ None → list_all test rows ≡ true
none_named number text test rows e = none_out test rows (unmapped (name_of number text) (first_out test rows) e)

pub all_unnamed : (number text : ℕ) (test : Row → Bool) (rows : List Row) → list_all test rows ≡ true → first_named number text test rows ≡ None
all_unnamed number text test rows all = ap (option_map (name_of number text)) (all_in test rows all)

-- ---- no pool and no node that is too full

not_above : (m n : ℕ) → nat_lt m n ≡ false → n ≤ m
not_above m n e = grind (arith, nat_tests)

not_below : (m n : ℕ) → n ≤ m → nat_lt m n ≡ false
not_below m n low = grind (arith, nat_tests)

pub none_full : {X : Type 0} (room sum : X → ℕ) (xs : List X) → first_full room xs (map sum xs) ≡ None → AllByRecursion (λ x. sum x ≤ room x) xs
none_full room sum [] e = tt
none_full room sum (x ∷ xs) e = let parts = no_first (nat_lt (room x) (sum x)) x (first_full room xs (map sum xs)) e in (not_above (room x) (sum x) parts.0, none_full room sum xs parts.1)

pub all_roomy : {X : Type 0} (room sum : X → ℕ) (xs : List X) → AllByRecursion (λ x. sum x ≤ room x) xs → first_full room xs (map sum xs) ≡ None
all_roomy room sum [] all = refl
all_roomy room sum (x ∷ xs) all = neither (nat_lt (room x) (sum x)) x (first_full room xs (map sum xs)) (not_below (room x) (sum x) all.0) (all_roomy room sum xs all.1)

-- ---- the next number

-- a number of 1 to 2^62, or otherwise 0
abbrev pub IsValid : ℤ → ℕ → Type 0
IsValid next n = (next ≡ pos n) × (n ≤ MAX_NUMBER)

low_valid : (n : ℕ) → nat_le n MAX_NUMBER ≡ true → valid_next (pos n) ≡ n
low_valid n low = ap (λ b. cond b n 0) low

pub valid_is : (next : ℤ) (n : ℕ) → valid_next next ≡ n → 1 ≤ n → IsValid next n
valid_is (negsuc m) n e some = absurd (omega (arith, e, some))
valid_is (pos m) n e some = go (nat_le m MAX_NUMBER) refl
  where
    go : (b : Bool) → nat_le m MAX_NUMBER ≡ b → IsValid (pos m) n
    go true low =
        let same : m ≡ n = sym (low_valid m low) ∙ e in
        let most : m ≤ MAX_NUMBER = grind (arith, nat_tests) in
        (ap pos same, subst (λ k. k ≤ MAX_NUMBER) same most)
    go false high =
        let none : 0 ≡ n = sym (ap (λ b. cond b m 0) high) ∙ e in
        absurd (omega (arith, none, some))

pub no_next_fault : (next : ℕ) → next_fault next ≡ None → 1 ≤ next
no_next_fault next e = let some = no_second (nat_lt 0 next) (Broken broken.Next) e in grind (arith, nat_tests)

pub is_next : (n : ℕ) → 1 ≤ n → next_fault n ≡ None
is_next n some = let high : nat_lt 0 n ≡ true = grind (arith, nat_tests) in ap (λ b. cond b None (Some (Broken broken.Next))) high

pub is_valid : (n : ℕ) → n ≤ MAX_NUMBER → valid_next (pos n) ≡ n
is_valid n most = let low : nat_le n MAX_NUMBER ≡ true = grind (arith, nat_tests) in low_valid n low

-- ---- the number of rows

pub few_rows : (n : ℕ) → count_fault (min n (2 ^ 64 - 1)) ≡ None → n ≤ MAX_VOLUMES
few_rows n e =
    let is = (no_first (nat_lt MAX_VOLUMES (min n (2 ^ 64 - 1))) (Broken broken.TooManyVolumes) None e).0 in
    let low = not_above MAX_VOLUMES (min n (2 ^ 64 - 1)) is in
    grind (arith)

pub rows_few : (n : ℕ) → n ≤ MAX_VOLUMES → count_fault (min n (2 ^ 64 - 1)) ≡ None
rows_few n few =
    let low : min n (2 ^ 64 - 1) ≤ MAX_VOLUMES = grind (arith) in
    neither (nat_lt MAX_VOLUMES (min n (2 ^ 64 - 1))) (Broken broken.TooManyVolumes) None (not_below MAX_VOLUMES (min n (2 ^ 64 - 1)) low) refl
