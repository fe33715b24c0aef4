-- The contents of a line after one more character.
use Rattle.std.proofs.Common.{◌≡◌, ◌∙◌, ◌++◌, List, [], ◌∷◌, ℕ, ap, append_assoc, append-nil, length, sym, arith, encode_utf8, encode_utf8_all}
use Rattle.std.proofs.lemmas.Str.{encode_ascii, encodes-append}
use Rattle.std.proofs.lemmas.List.Concat.{flat_map-append}
use Rattle.std.specs.List.{flat_map}

more : (before cs ds old new : List ℕ) → old ≡ before ++ encode_utf8_all cs → new ≡ old ++ encode_utf8_all ds → new ≡ before ++ encode_utf8_all (cs ++ ds)
more before cs ds old new o n =
    n ∙ (ap (λ (x : List ℕ). x ++ encode_utf8_all ds) o ∙ (append_assoc before (encode_utf8_all cs) (encode_utf8_all ds) ∙ ap (λ (x : List ℕ). before ++ x) (sym (encodes-append cs ds))))

one : (c : ℕ) → encode_utf8_all (c ∷ []) ≡ encode_utf8 c
one c = append-nil (encode_utf8 c)

pub one_more : (before cs : List ℕ) (c : ℕ) (old new : List ℕ) → old ≡ before ++ encode_utf8_all cs → new ≡ old ++ encode_utf8 c
    → new ≡ before ++ encode_utf8_all (cs ++ c ∷ [])
one_more before cs c old new o n = more before cs (c ∷ []) old new o (n ∙ ap (λ (x : List ℕ). old ++ x) (sym (one c)))

pub one_shown : (f : ℕ → List ℕ) (before cs : List ℕ) (c : ℕ) (old new : List ℕ) → old ≡ before ++ encode_utf8_all (flat_map f cs) → new ≡ old ++ encode_utf8_all (f c)
    → new ≡ before ++ encode_utf8_all (flat_map f (cs ++ c ∷ []))
one_shown f before cs c old new o n =
    let e : flat_map f (cs ++ c ∷ []) ≡ flat_map f cs ++ f c = flat_map-append f cs (c ∷ []) ∙ ap (λ (x : List ℕ). flat_map f cs ++ x) (append-nil (f c)) in
    more before (flat_map f cs) (f c) old new o n ∙ ap (λ (x : List ℕ). before ++ encode_utf8_all x) (sym e)

-- one more character of a text was read
pub one_of_text : (cs : List ℕ) (c : ℕ) (left rest text : List ℕ) → encode_utf8_all cs ++ left ≡ text → left ≡ encode_utf8 c ++ rest
    → encode_utf8_all (cs ++ c ∷ []) ++ rest ≡ text
one_of_text cs c left rest text whole first =
    ap (λ (x : List ℕ). x ++ rest) (encodes-append cs (c ∷ []) ∙ ap (λ (x : List ℕ). encode_utf8_all cs ++ x) (one c))
    ∙ (append_assoc (encode_utf8_all cs) (encode_utf8 c) rest ∙ (ap (λ (x : List ℕ). encode_utf8_all cs ++ x) (sym first) ∙ whole))

pub all_read : (cs left text : List ℕ) → encode_utf8_all cs ++ left ≡ text → length left ≡ 0 → encode_utf8_all cs ≡ text
all_read cs [] text whole none = sym (append-nil (encode_utf8_all cs)) ∙ whole
all_read cs (b ∷ left) text whole none = absurd (omega (arith, none))

-- the end of the line was written after all characters
pub ended : (f : ℕ → List ℕ) (before cs text old new : List ℕ) → old ≡ before ++ encode_utf8_all (flat_map f cs) → new ≡ old ++ encode_utf8 10 → cs ≡ text
    → new ≡ before ++ (encode_utf8_all (flat_map f text) ++ 10 ∷ [])
ended f before cs text old new o n is =
    n ∙ (ap (λ (x : List ℕ). old ++ x) (encode_ascii 10 (omega arith)) ∙ (ap (λ (x : List ℕ). x ++ 10 ∷ []) (o ∙ ap (λ (x : List ℕ). before ++ encode_utf8_all (flat_map f x)) is) ∙ append_assoc before (encode_utf8_all (flat_map f text)) (10 ∷ [])))
