-- The length of the message that asks for a page.
use Rattle.std.proofs.Common.{◌≡◌, ◌+◌, ◌-◌, ◌/◌, ◌%◌, ◌<◌, ◌≤◌, ◌^◌, ℕ, suc, Bool, cond, List, [], ◌∷◌, ◌++◌, length, length-append, ap, arith, inl, inr, lit<}
use Rattle.std.proofs.lemmas.Bool.{cases_lt, le-ltb, lt-ltb}
use Rattle.pbwire.specs.Writing.{minimal, varint}
use Rattle.envelope.specs.declared.limits.TheConstants.{MAX_MESSAGE_BYTES}
use Rattle.csi_change_store.specs.Asking.{token_bytes}
use Rattle.csi_change_store.specs.declared.asking.TheConstants.{MAX_TOKEN_BYTES}

-- ---- a varint, group by group

last : (k n : ℕ) → n < 128 → length (minimal (suc k) n) ≡ 1
unfolding minimal
last k n small = ap (λ (t : Bool). length (cond t (n ∷ []) ((n % 128 + 128) ∷ minimal k (n / 128)))) (lt-ltb n 128 small)

more : (k n : ℕ) → 128 ≤ n → length (minimal (suc k) n) ≡ suc (length (minimal k (n / 128)))
unfolding minimal
more k n big = ap (λ (t : Bool). length (cond t (n ∷ []) ((n % 128 + 128) ∷ minimal k (n / 128)))) (le-ltb n 128 big)

some : (k n : ℕ) → 1 ≤ length (minimal (suc k) n)
some k n = elim (cases_lt n 128) [ inl small ↦ omega (arith, last k n small) | inr big ↦ omega (arith, more k n big) ]

at_most_three : (k n : ℕ) → n < 2 ^ 21 → length (minimal (suc (suc (suc k))) n) ≤ 3
at_most_three k n low = elim (cases_lt n 128) [
  | inl small ↦ omega (arith, last (suc (suc k)) n small)
  | inr big ↦ elim (cases_lt (n / 128) 128) [
    | inl small ↦ omega (arith, more (suc (suc k)) n big, last (suc k) (n / 128) small)
    | inr larger ↦
        let low_ : n / 128 / 128 < 128 = omega arith in
        omega (arith, more (suc (suc k)) n big, more (suc k) (n / 128) larger, last k (n / 128 / 128) low_)
  ]
]

at_least_three : (k n : ℕ) → 2 ^ 14 ≤ n → 3 ≤ length (minimal (suc (suc (suc k))) n)
at_least_three k n high =
    let big : 128 ≤ n = omega arith in
    let larger : 128 ≤ n / 128 = omega arith in
    omega (arith, more (suc (suc k)) n big, more (suc k) (n / 128) larger, some k (n / 128 / 128))

-- ---- the field of a token

field_length : (token : List ℕ) → length (token_bytes token) ≡ 1 + length (varint (length token)) + length token
field_length token =
    omega (arith, length-append (varint 10) (varint (length token) ++ token), length-append (varint (length token)) token, last 8 10 (lit< tt))

pub token_held : (token : List ℕ) → length token ≤ MAX_TOKEN_BYTES → length (token_bytes token) ≤ MAX_MESSAGE_BYTES
token_held token short =
    let low : length token < 2 ^ 21 = omega arith in
    omega (arith, field_length token, at_most_three 6 (length token) low)

pub token_not_held : (token : List ℕ) → MAX_TOKEN_BYTES < length token → MAX_MESSAGE_BYTES < length (token_bytes token)
token_not_held token long =
    let high : 2 ^ 14 ≤ length token = omega arith in
    omega (arith, field_length token, at_least_three 6 (length token) high)
