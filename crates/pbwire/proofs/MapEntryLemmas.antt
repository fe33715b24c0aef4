-- An entry of a map whose key, value and whole payload have lengths of one byte.
use Rattle.std.proofs.Common.{◌≡◌, ℕ, ◌+◌, ◌*◌, ◌<◌, List, ◌∷◌, ◌++◌, length, refl, sym, ap, ◌∙◌, append_assoc, length-append, arith}
use Rattle.pbwire.specs.Wire.{Payload}
use Rattle.pbwire.specs.Writing.{varint, spelling, map_entry}
use Rattle.pbwire.proofs.VarintLemmas.{minimal_last}

abbrev short_pair : List ℕ → List ℕ → List ℕ
short_pair k v = (10 ∷ length k ∷ k) ++ (18 ∷ length v ∷ v)

pair_is : (k v : List ℕ) → length k + length v + 4 < 128
    → spelling (record { number = 1; part = Payload k }) ++ spelling (record { number = 2; part = Payload v }) ≡ short_pair k v
pair_is k v h =
    let a = minimal_last 9 10 (omega arith) in
    let b = minimal_last 9 18 (omega arith) in
    let c = minimal_last 9 (length k) (omega arith) in
    let d = minimal_last 9 (length v) (omega arith) in
    rw (a, b, c, d) refl

length-pair : (k v : List ℕ) → length (short_pair k v) ≡ length k + length v + 4
length-pair k v = omega (arith, length-append (10 ∷ length k ∷ k) (18 ∷ length v ∷ v))

pub short_entry : (number : ℕ) (k v head : List ℕ) → length k + length v + 4 < 128 → head ≡ varint (number * 8 + 2) ++ varint (length k + length v + 4)
    → head ++ ((10 ∷ length k ∷ k) ++ (18 ∷ length v ∷ v)) ≡ spelling (map_entry number (k, v))
short_entry number k v head h is =
    ap (λ (bs : List ℕ). bs ++ short_pair k v) is
    ∙ append_assoc (varint (number * 8 + 2)) (varint (length k + length v + 4)) (short_pair k v)
    ∙ ap (λ (n : ℕ). varint (number * 8 + 2) ++ (varint n ++ short_pair k v)) (sym (length-pair k v))
    ∙ ap (λ (p : List ℕ). varint (number * 8 + 2) ++ (varint (length p) ++ p)) (sym (pair_is k v h))
