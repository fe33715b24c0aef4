-- A message has one list of fields.
use Rattle.std.proofs.Common.{◌≡◌, ℕ, List, [], ◌∷◌, length, Ok, refl, sym, ap, subst, ◌∙◌, length-append, arith}
use Rattle.pbwire.specs.Wire.{WireField, AreFields}
use Rattle.pbwire.specs.Reading.{field_at}
use Rattle.pbwire.proofs.PrefixLemmas.{ok_is, entry_leaves}
use Rattle.pbwire.proofs.WireLemmas.{entry_spelled, entry_sound}

first_read : (e : WireField) (es : List WireField) (bytes : List ℕ) (f : AreFields (e ∷ es) bytes) → field_at bytes ≡ Ok (e, f.1)
first_read e es bytes f = ap field_at f.4 ∙ entry_spelled e f.0 f.1 f.2

not_empty : (e : WireField) (es : List WireField) (bytes : List ℕ) → AreFields (e ∷ es) bytes → bytes ≡ [] → ⊥
not_empty e es bytes f none =
    let l = entry_leaves bytes (e, f.1) (first_read e es bytes f) in
    omega (arith, ap length none, ap length l.1, length-append l.0 f.1, l.2)

pub one_list : (es others : List WireField) (bytes : List ℕ) → AreFields es bytes → AreFields others bytes → es ≡ others
one_list [] [] bytes f g = refl
one_list [] (d ∷ ds) bytes f g = absurd (not_empty d ds bytes g f)
one_list (e ∷ es) [] bytes f g = absurd (not_empty e es bytes f g)
one_list (e ∷ es) (d ∷ ds) bytes f g =
    let same = ok_is (e, f.1) (d, g.1) (sym (first_read e es bytes f) ∙ first_read d ds bytes g) in
    let rest = subst (λ (p : WireField × List ℕ). AreFields es p.1) same f.3 in
    ap (λ (p : WireField × List ℕ). p.0 ∷ es) same ∙ ap (λ (l : List WireField). d ∷ l) (one_list es ds g.1 rest g.3)

pub first_of : (e : WireField) (es : List WireField) (bytes : List ℕ) → AreFields (e ∷ es) bytes → (rest : List ℕ) × (field_at bytes ≡ Ok (e, rest)) × AreFields es rest
first_of e es bytes f = (f.1, first_read e es bytes f, f.3)

pub with_first : (e : WireField) (es : List WireField) (bytes : List ℕ) → (rest : List ℕ) × (field_at bytes ≡ Ok (e, rest)) × AreFields es rest → AreFields (e ∷ es) bytes
with_first e es bytes r = let s = entry_sound bytes (e, r.0) r.1 in (s.0, r.0, s.1, r.2, s.2)
