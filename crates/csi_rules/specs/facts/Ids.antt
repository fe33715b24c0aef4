-- Texts that are decimals of numbers, and ids.
use Rattle.std.proofs.Common.{◌≡◌, ◌∙◌, inl, inr, ap, sym, subst, cond, refl, arith, ℕ, suc, ◌<◌, ◌^◌, nat_lt, List, Bool, true, false, ◌&&◌, Option}
use Rattle.std.proofs.Common.{Some, None, Result, Ok, ◌++◌, take, drop, take-append-drop, codes}
use Rattle.std.specs.Fmt.{decimal}
use Rattle.std.specs.Str.Parse.{digits_value, ParsesUnsigned}
use Rattle.std.proofs.lemmas.Bool.Decides.{leb_tells}
use Rattle.std.proofs.lemmas.Fmt.{parse-decimal, decimal_is_IsNumeral}
use lib.Pointwise.{bytes_decides}
use Rattle.csi_types.specs.Maps.{same_text}
use Rattle.csi_rules.specs.Ids.{number_of, number_of_id, id}

pub below_on : (n m : ℕ) → n < m → nat_lt n m ≡ true
below_on n m h = elim (leb_tells (suc n) m) as (λ _. nat_lt n m ≡ true) [ inl x ↦ x.0 | inr x ↦ absurd (omega (arith, x.1, h)) ]

-- the decimal of a number is read as the number
pub number_of_decimal : (n : ℕ) → n < 2 ^ 64 → number_of (decimal n) ≡ Some n
number_of_decimal n h =
    let is : digits_value 10 (decimal n) ≡ n = (decimal_is_IsNumeral n h).1 in
    let below : nat_lt n (2 ^ 64) ≡ true = below_on n (2 ^ 64) h in
    let same : same_text (decimal n) (decimal n) ≡ true = (bytes_decides (decimal n) (decimal n)).1 refl in
    let all : (nat_lt n (2 ^ 64) && same_text (decimal n) (decimal n)) ≡ true = ap (λ b. b && same_text (decimal n) (decimal n)) below ∙ same in
    subst (λ (m : ℕ). cond (nat_lt m (2 ^ 64) && same_text (decimal m) (decimal n)) (Some m) None ≡ Some n) (sym is) (ap (λ b. cond b (Some n) None) all)

-- a text that is a number's decimal
pub is_decimal : (n : ℕ) (text : List ℕ) → n < 2 ^ 64 → same_text (decimal n) text ≡ true → Some n ≡ number_of text
is_decimal n text h e = subst (λ (t : List ℕ). Some n ≡ number_of t) ((bytes_decides (decimal n) text).0 e) (sym (number_of_decimal n h))

-- a text that is read as a number is the number's decimal
number_is : (text : List ℕ) (n : ℕ) → number_of text ≡ Some n → (n < 2 ^ 64) × (decimal n ≡ text)
number_is text n e = go (nat_lt (digits_value 10 text) (2 ^ 64)) refl (same_text (decimal (digits_value 10 text)) text) refl e
  where
    below : (a b : ℕ) → nat_lt a b ≡ true → a < b
    below a b h = elim (leb_tells (suc a) b) as (λ _. a < b) [ inl x ↦ x.1 | inr x ↦ absurd (cc (h, x.0)) ]

    same : (m : ℕ) → Some (digits_value 10 text) ≡ Some m → digits_value 10 text ≡ m
    same m h = cc

    go : (p : Bool) → nat_lt (digits_value 10 text) (2 ^ 64) ≡ p
        → (q : Bool) → same_text (decimal (digits_value 10 text)) text ≡ q
        → cond (p && q) (Some (digits_value 10 text)) None ≡ Some n → (n < 2 ^ 64) × (decimal n ≡ text)
    go false a q b h = absurd (cc)
    go true a false b h = absurd (cc)
    go true a true b h = subst (λ (m : ℕ). (m < 2 ^ 64) × (decimal m ≡ text)) (same n h) (below _ _ a, (bytes_decides _ text).0 b)

-- a text other than the decimal form of its parsed number is no volume's id
pub no_decimal : {E : Type 0} (text : List ℕ) (r : Result ℕ E) → ParsesUnsigned 64 10 text r
    → ((n : ℕ) → r ≡ Ok n → same_text (decimal n) text ≡ false) → None ≡ number_of text
no_decimal text r parses none = go (number_of text) refl
  where
    go : (o : Option ℕ) → number_of text ≡ o → None ≡ o
    go None e = refl
    go (Some n) e =
        let is = number_is text n e in
        let read = parse-decimal 64 n text r is.0 is.0 (sym is.1) parses in
        let yes : same_text (decimal n) text ≡ true = (bytes_decides (decimal n) text).1 is.1 in
        absurd (cc (none n read, yes))

-- an id is read as its number
pub id_named : (n : ℕ) → n < 2 ^ 64 → number_of_id (id n) ≡ Some n
id_named n h = number_of_decimal n h

-- a text that is read as the id of a number is the number's id
pub named_id : (t : List ℕ) (n : ℕ) → number_of_id t ≡ Some n → t ≡ id n
named_id t n e = go (same_text (take 4 t) (codes "vol-")) refl e
  where
    go : (b : Bool) → same_text (take 4 t) (codes "vol-") ≡ b → cond b (number_of (drop 4 t)) None ≡ Some n → t ≡ id n
    go false a h = absurd (cc)
    go true a h =
        sym (take-append-drop 4 t)
        ∙ ap (λ (x : List ℕ). x ++ drop 4 t) ((bytes_decides (take 4 t) (codes "vol-")).0 a)
        ∙ ap (λ (x : List ℕ). codes "vol-" ++ x) (sym (number_is (drop 4 t) n h).1)
