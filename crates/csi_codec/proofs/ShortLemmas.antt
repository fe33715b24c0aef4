-- Varints from their last group on, and the field of a size.
use Rattle.std.proofs.Common.{◌≡◌, ◌∙◌, ℕ, zero, suc, ◌+◌, ◌*◌, ◌/◌, ◌%◌, ◌^◌, ◌<◌, ◌≤◌, ◌==◌, if◌then◌else◌, Bool, cond, ltb, true, false, List, [], ◌∷◌, ◌++◌, length, ap, sym, refl, arith, inl, inr}
use Rattle.std.proofs.lemmas.Bool.{lt-ltb, le-ltb, cases_lt, ne_eqb}
use Rattle.std.proofs.lemmas.List.{append-nil}
use Rattle.std.proofs.lemmas.Nat.{pow-add}
use Rattle.pbwire.specs.Wire.{Number}
use Rattle.pbwire.specs.Writing.{minimal, spelling, spellings, varint}
use Rattle.pbmessage.specs.Canon.{Numbers, row_fields}
use Rattle.csi_codec.specs.Listing.{size_bytes}

more_groups : (k n : ℕ) → 128 ≤ n → minimal (suc k) n ≡ (n % 128 + 128) ∷ minimal k (n / 128)
unfolding minimal
more_groups k n h = ap (λ (t : Bool). cond t (n ∷ []) ((n % 128 + 128) ∷ minimal k (n / 128))) (le-ltb n 128 h)

last_group : (k n : ℕ) → n < 128 → minimal k n ≡ n ∷ []
unfolding minimal
last_group zero n h = refl
last_group (suc k) n h = ap (λ (t : Bool). cond t (n ∷ []) ((n % 128 + 128) ∷ minimal k (n / 128))) (lt-ltb n 128 h)

-- room for one more group than a number takes changes nothing
spare : (k n : ℕ) → n < 2 ^ (7 * (k + 1)) → minimal (suc k) n ≡ minimal k n
spare zero n low = last_group 1 n (omega (arith, low)) ∙ sym (last_group 0 n (omega (arith, low)))
spare (suc k) n low = elim (cases_lt n 128) [
  | inl lt ↦ last_group (suc (suc k)) n lt ∙ sym (last_group (suc k) n lt)
  | inr more ↦ more_groups (suc k) n more ∙ ap (λ (ns : List ℕ). (n % 128 + 128) ∷ ns) (spare k (n / 128) (fewer k n low)) ∙ sym (more_groups k n more)
]
  where
    fewer : (k n : ℕ) → n < 2 ^ (7 * (suc k + 1)) → n / 128 < 2 ^ (7 * (k + 1))
    fewer k n low =
        let sum : 7 * (suc k + 1) ≡ 7 * (k + 1) + 7 = omega arith in
        omega (arith, low, ap (λ (i : ℕ). 2 ^ i) sum ∙ pow-add 2 (7 * (k + 1)) 7)

pub varint_one : (n : ℕ) → n < 128 → varint n ≡ n ∷ []
varint_one n h = last_group 9 n h

-- a varint by its first group and the varint of the others
pub varint_more : (n : ℕ) → 128 ≤ n → n < 2 ^ 64 → varint n ≡ (n % 128 + 128) ∷ varint (n / 128)
varint_more n more low =
    let few : n / 128 < 2 ^ (7 * (8 + 1)) = omega (arith, low) in
    more_groups 8 n more ∙ ap (λ (ns : List ℕ). (n % 128 + 128) ∷ ns) (sym (spare 8 (n / 128) few))

at_most : (k n : ℕ) → length (minimal k n) ≤ k + 1
unfolding minimal
at_most zero n = omega arith
at_most (suc k) n = elim (ltb n 128) as (λ t. length (cond t (n ∷ []) ((n % 128 + 128) ∷ minimal k (n / 128))) ≤ suc k + 1) [
  | true ↦ omega arith
  | false ↦ omega (arith, at_most k (n / 128))
]

pub length-varint : (n : ℕ) → length (varint n) ≤ 10
length-varint n = at_most 9 n

pub no_size : (n : ℕ) → n ≡ 0 → size_bytes n ≡ []
unfolding row_fields
no_size n is = ap (λ (m : ℕ). size_bytes m) is

pub a_size : (n : ℕ) → 1 ≤ n → size_bytes n ≡ 8 ∷ varint n
unfolding row_fields
a_size n some =
    let is : (n == 0) ≡ false = ne_eqb n 0 (λ e. omega (arith, e, some)) in
    ap (λ (b : Bool). spellings (row_fields (Numbers 1 (if b then [] else n ∷ [])))) is
    ∙ append-nil (spelling (record { number = 1; part = Number n }))
    ∙ ap (λ (tag : List ℕ). tag ++ varint n) (varint_one 8 (omega arith))
