-- The length of a payload, written over the byte that was kept for it.
use Rattle.std.proofs.Common.{◌≡◌, ℕ, suc, zero, ◌+◌, ◌-◌, ◌*◌, ◌/◌, ◌%◌, ◌<◌, ◌≤◌, Bool, true, false, cond, ltb, List, [], ◌∷◌, ◌++◌, length, take, drop, refl, sym, ap, ◌∙◌, append_assoc, length-append, arith}
use Rattle.std.specs.Prelude.{slice_set, slice_index_or}
use Rattle.std.proofs.lemmas.List.{take-append-drop, take-set, drop-set, take-append-le, take_at, drop_at, take-take, take_all, length-take-le}
use Rattle.pbwire.specs.Wire.{Payload}
use Rattle.pbwire.specs.Writing.{minimal, varint, spelling}
use Rattle.pbwire.proofs.VarintLemmas.{minimal_last}

replaced : (xs : List ℕ) (i j b : ℕ) → j ≡ i + 1 → i < length xs → slice_set xs i b ≡ take i xs ++ b ∷ drop j xs
replaced xs i j b is lt = sym (take-append-drop i (slice_set xs i b)) ∙ (λ k. take-set xs i b k ++ drop-set xs i b lt k) ∙ ap (λ (n : ℕ). take i xs ++ b ∷ drop n xs) (sym is)

pub short_length : (old : List ℕ) (from size : ℕ) → size ≡ length old → 1 ≤ from → from ≤ length old → size - from < 128 → slice_set old (from - 1) (size - from) ≡ take (from - 1) old ++ (varint (length old - from) ++ drop from old)
short_length old from size is low within short =
    replaced old (from - 1) from (size - from) (omega arith) (omega arith)
    ∙ ap (λ (bs : List ℕ). take (from - 1) old ++ (bs ++ drop from old)) (sym (minimal_last 9 (size - from) short))
    ∙ ap (λ (n : ℕ). take (from - 1) old ++ (varint (n - from) ++ drop from old)) is

-- the first byte of the length goes over the byte, and the others before the payload
pub long_length : (old head : List ℕ) (from : ℕ) → 1 ≤ from → from ≤ length old → 1 ≤ length head → slice_set (take from old ++ (drop 1 head ++ drop from old)) (from - 1) (slice_index_or head 0 0) ≡ take (from - 1) old ++ (head ++ drop from old)
long_length old [] from low within some = absurd (omega arith)
long_length old (b ∷ bs) from low within some =
    let len : length (take from old) ≡ from = length-take-le from old within in
    let lt : from - 1 < length (take from old ++ (bs ++ drop from old)) = omega (arith, length-append (take from old) (bs ++ drop from old), len) in
    replaced (take from old ++ (bs ++ drop from old)) (from - 1) from b (omega arith) lt
    ∙ (λ i. (take-append-le (from - 1) (take from old) (bs ++ drop from old) (omega arith) ∙ take-take (from - 1) from old (omega arith)) i ++ b ∷ drop_at (take from old) (bs ++ drop from old) from len i)

pub others_are : (head : List ℕ) → take (length head - 1) (drop 1 head) ≡ drop 1 head
others_are [] = refl
others_are (b ∷ bs) = take_all (length (b ∷ bs) - 1) bs (omega arith)

pub some_bytes : (k n : ℕ) → 1 ≤ length (minimal k n)
unfolding minimal
some_bytes zero n = omega arith
some_bytes (suc k) n = elim (ltb n 128) as (λ (b : Bool). 1 ≤ length (cond b (n ∷ []) ((n % 128 + 128) ∷ minimal k (n / 128)))) [ true ↦ omega arith | false ↦ omega arith ]

-- an empty field, the bytes appended after it, and its length set
pub closed : (number from : ℕ) (old bytes whole : List ℕ) → whole ≡ (old ++ spelling (record { number = number; part = Payload [] })) ++ bytes → from ≡ length (old ++ spelling (record { number = number; part = Payload [] }))
    → take (from - 1) whole ++ (varint (length whole - from) ++ drop from whole) ≡ old ++ spelling (record { number = number; part = Payload bytes })
closed number from old bytes whole is at =
    let none : varint 0 ≡ 0 ∷ [] = minimal_last 9 0 (omega arith) in
    let empty : old ++ (varint (number * 8 + 2) ++ (varint 0 ++ [])) ≡ (old ++ varint (number * 8 + 2)) ++ 0 ∷ [] = ap (λ (bs : List ℕ). old ++ (varint (number * 8 + 2) ++ (bs ++ []))) none ∙ sym (append_assoc old (varint (number * 8 + 2)) (0 ∷ [])) in
    let len : length (old ++ varint (number * 8 + 2)) ≡ from - 1 = omega (arith, at, ap length empty, length-append (old ++ varint (number * 8 + 2)) (0 ∷ [])) in
    let split : whole ≡ (old ++ varint (number * 8 + 2)) ++ (0 ∷ bytes) = is ∙ ap (λ (bs : List ℕ). bs ++ bytes) empty ∙ append_assoc (old ++ varint (number * 8 + 2)) (0 ∷ []) bytes in
    let prefix : take (from - 1) whole ≡ old ++ varint (number * 8 + 2) = ap (take (from - 1)) split ∙ take_at (old ++ varint (number * 8 + 2)) (0 ∷ bytes) (from - 1) len in
    let rest : drop from whole ≡ bytes = ap (drop from) is ∙ drop_at (old ++ spelling (record { number = number; part = Payload [] })) bytes from (sym at) in
    let size : length whole - from ≡ length bytes = omega (arith, at, ap length is, length-append (old ++ spelling (record { number = number; part = Payload [] })) bytes) in
    (λ i. prefix i ++ (varint (size i) ++ rest i)) ∙ append_assoc old (varint (number * 8 + 2)) (varint (length bytes) ++ bytes)

pub after_empty : (number from : ℕ) (old : List ℕ) → from ≡ length (old ++ spelling (record { number = number; part = Payload [] })) → 1 ≤ from
after_empty number from old at =
    omega (arith, at, length-append old (varint (number * 8 + 2) ++ (varint 0 ++ [])), length-append (varint (number * 8 + 2)) (varint 0 ++ []), some_bytes 9 (number * 8 + 2))
