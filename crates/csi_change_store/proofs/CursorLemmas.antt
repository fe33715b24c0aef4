-- Going over the fields of a message.
use Rattle.std.proofs.Common.{◌≡◌, ◌≢◌, ℕ, ◌+◌, ◌-◌, ◌<◌, Bool, true, false, cond, eqb, List, [], ◌∷◌, length, Option, None, Some, Result, Ok, Err, refl, sym, ap, subst, ◌∙◌, arith, inl, inr, ◌⊎◌}
use Rattle.std.specs.Prelude.{◌||◌}
use Rattle.std.proofs.lemmas.List.{nil_from_length}
use Rattle.std.proofs.lemmas.Bool.{eqb-true, eqb-false}
use Rattle.pbwire.specs.declared.field.WireFault.{WireFault}
use Rattle.pbwire.specs.declared.field.WireWhy.{WireWhy}
use Rattle.pbwire.specs.Wire.{WireField}
use Rattle.pbwire.specs.Reading.{field_at, Cursor, moved, next_of}

abbrev pub Read : Type 0
Read = Result (WireField × List ℕ) WireWhy

abbrev read_ok : WireField × List ℕ → Read
read_ok x = Ok x

abbrev Step : Type 0
Step = Option (Result WireField WireFault) × Cursor

abbrev choose : Bool → Cursor → Step
choose b c = cond b (None, c) (moved c (field_at c.rest))

next_cases : (c : Cursor) → c.failed ≡ false → ((c.rest ≡ []) × (next_of c ≡ (None, c))) ⊎ ((c.rest ≢ []) × (next_of c ≡ moved c (field_at c.rest)))
next_cases c ok =
    elim (eqb (length c.rest) 0) as (λ b. eqb (length c.rest) 0 ≡ b → ((c.rest ≡ []) × (choose (c.failed || b) c ≡ (None, c))) ⊎ ((c.rest ≢ []) × (choose (c.failed || b) c ≡ moved c (field_at c.rest)))) [
      | true ↦ λ e. inl (nil_from_length c.rest (eqb-true _ _ e), ap (λ (b : Bool). choose (b || true) c) ok)
      | false ↦ λ e. inr ((λ h. eqb-false _ _ e (ap length h)), ap (λ (b : Bool). choose (b || false) c) ok)
    ] refl

-- a field was given
pub record Given (c d : Cursor) (e : WireField) : Type 0 where
  pub rest : List ℕ
  pub read : field_at c.rest ≡ Ok (e, rest)
  pub is : d ≡ record { at = c.at + (length c.rest - length rest); rest = rest; failed = false }

from_read : (c d : Cursor) (e : WireField) (r : Read) → field_at c.rest ≡ r → Some (Ok e) ≡ (moved c r).0 → d ≡ (moved c r).1 → Given c d e
from_read c d e (Ok x) is g m = record { rest = x.1; read = is ∙ ap (λ (y : WireField). read_ok (y, x.1)) (same_entry x.0 e (sym g)); is = m }
  where
    same_entry : (x y : WireField) → ◌≡◌ {A = Option (Result WireField WireFault)} (Some (Ok x)) (Some (Ok y)) → x ≡ y
    same_entry x y h = cc
from_read c d e (Err w) is g m = absurd cc

pub is_given : (c d : Cursor) (e : WireField) → c.failed ≡ false → Some (Ok e) ≡ (next_of c).0 → d ≡ (next_of c).1 → Given c d e
is_given c d e ok g m = elim (next_cases c ok) [
  | inl h ↦ absurd (let w : ◌≡◌ {A = Option (Result WireField WireFault)} (Some (Ok e)) None = g ∙ ap (λ (s : Step). s.0) h.1 in cc)
  | inr h ↦ from_read c d e (field_at c.rest) refl (g ∙ ap (λ (s : Step). s.0) h.1) (m ∙ ap (λ (s : Step). s.1) h.1)
]

pub is_end : (c : Cursor) → c.failed ≡ false → None ≡ (next_of c).0 → c.rest ≡ []
is_end c ok g = elim (next_cases c ok) [
  | inl h ↦ h.0
  | inr h ↦ absurd (not_none (field_at c.rest) (g ∙ ap (λ (s : Step). s.0) h.1))
]
  where
    not_none : (r : Read) → None ≡ (moved c r).0 → ⊥
    not_none (Ok x) e = cc
    not_none (Err w) e = cc

-- a fault was given
pub is_fault : (c : Cursor) (f : WireFault) → c.failed ≡ false → Some (Err f) ≡ (next_of c).0 → (c.rest ≢ []) × ((e : WireField) (rest : List ℕ) → field_at c.rest ≡ Ok (e, rest) → ⊥)
is_fault c f ok g = elim (next_cases c ok) [
  | inl h ↦ absurd (let w : ◌≡◌ {A = Option (Result WireField WireFault)} (Some (Err f)) None = g ∙ ap (λ (s : Step). s.0) h.1 in cc)
  | inr h ↦ (h.0, λ e rest is. is_no_field (e, rest) (g ∙ ap (λ (s : Step). s.0) h.1 ∙ ap (λ (r : Read). (moved c r).0) is))
]
  where
    is_no_field : (x : WireField × List ℕ) → Some (Err f) ≡ (moved c (Ok x)).0 → ⊥
    is_no_field x e = cc

same_ok : (x y : WireField × List ℕ) → read_ok x ≡ read_ok y → x ≡ y
same_ok x y h = cc

-- at most one field is read at a place
pub same_field : (bytes : List ℕ) (e f : WireField) (rest more : List ℕ) → field_at bytes ≡ Ok (e, rest) → field_at bytes ≡ Ok (f, more) → (f ≡ e) × (more ≡ rest)
same_field bytes e f rest more a b =
    let same = same_ok (f, more) (e, rest) (sym b ∙ a) in
    (ap (λ (p : WireField × List ℕ). p.0) same, ap (λ (p : WireField × List ℕ). p.1) same)

-- no field is read from no bytes
pub nothing_at_end : ((bytes rest : List ℕ) (e : WireField) → field_at bytes ≡ Ok (e, rest) → length rest < length bytes) → (bytes rest : List ℕ) (e : WireField) → bytes ≡ [] → field_at bytes ≡ Ok (e, rest) → ⊥
nothing_at_end shorter bytes rest e none is = let n : length rest < length bytes = shorter bytes rest e is in absurd (omega (arith, n, ap length none))
