-- Going over the fields of a message.
use Rattle.std.proofs.Common.{◌≡◌, ◌≢◌, ℕ, ◌+◌, ◌-◌, ◌<◌, Bool, true, false, cond, eqb, List, [], ◌∷◌, ◌++◌, length, Option, None, Some, Result, Ok, Err, refl, sym, ap, subst, ◌∙◌, append_assoc, arith, inl, inr, ◌⊎◌}
use Rattle.std.specs.Prelude.{◌||◌, MatchOption, IsTrue, is_some, not}
use Rattle.std.specs.List.{AllByRecursion}
use Rattle.std.proofs.lemmas.List.{append-nil, nil_from_length}
use Rattle.std.proofs.lemmas.Bool.{eqb-true, eqb-false}
use Rattle.pbwire.specs.declared.field.WireFault.{WireFault}
use Rattle.pbwire.specs.Wire.{WireField, AreFields}
use Rattle.pbwire.specs.Reading.{field_at, Cursor, moved, next_of}
use Rattle.pbmessage.specs.Fields.{fields_of, AreGood, IsRefusedAt, Means}
use Rattle.pbmessage.specs.facts.Laws.{FieldLaws}
use Rattle.pbmessage.specs.facts.Offsets.{refused}
use Rattle.pbmessage.specs.facts.Rows.{all_append}
use Rattle.pbmessage.specs.facts.Fields.{Reads, Read, same_read, nothing_read, are_read, read_are, fields_are}

abbrev read_ok : WireField × List ℕ → Read
read_ok x = Ok x

abbrev Step : Type 0
Step = Option (Result WireField WireFault) × Cursor

abbrev choose : Bool → Cursor → Step
choose b c = cond b (None, c) (moved c (field_at c.rest))

pub next_cases : (c : Cursor) → c.failed ≡ false → ((c.rest ≡ []) × (next_of c ≡ (None, c))) ⊎ ((c.rest ≢ []) × (next_of c ≡ moved c (field_at c.rest)))
next_cases c ok =
    elim (eqb (length c.rest) 0) as (λ b. eqb (length c.rest) 0 ≡ b → ((c.rest ≡ []) × (choose (c.failed || b) c ≡ (None, c))) ⊎ ((c.rest ≢ []) × (choose (c.failed || b) c ≡ moved c (field_at c.rest)))) [
      | true ↦ λ e. inl (nil_from_length c.rest (eqb-true _ _ e), ap (λ (b : Bool). choose (b || true) c) ok)
      | false ↦ λ e. inr ((λ h. eqb-false _ _ e (ap length h)), ap (λ (b : Bool). choose (b || false) c) ok)
    ] refl

abbrev given : Step → Option (Result WireField WireFault)
given s = s.0

-- a field was given
pub record Given (c d : Cursor) (e : WireField) : Type 0 where
  pub rest : List ℕ
  pub read : field_at c.rest ≡ Ok (e, rest)
  pub is : d ≡ record { at = c.at + (length c.rest - length rest); rest = rest; failed = false }

from_read : (c d : Cursor) (e : WireField) (r : Read) → field_at c.rest ≡ r → Some (Ok e) ≡ (moved c r).0 → d ≡ (moved c r).1 → Given c d e
from_read c d e (Ok x) is g m = record { rest = x.1; read = is ∙ ap (λ (y : WireField). read_ok (y, x.1)) (same_entry x.0 e (sym g)); is = m }
  where
    same_entry : (x y : WireField) → ◌≡◌ {A = Option (Result WireField WireFault)} (Some (Ok x)) (Some (Ok y)) → x ≡ y
    same_entry x y h = cc
from_read c d e (Err w) is g m = absurd cc

pub is_given : (c d : Cursor) (e : WireField) → c.failed ≡ false → Some (Ok e) ≡ (next_of c).0 → d ≡ (next_of c).1 → Given c d e
is_given c d e ok g m = elim (next_cases c ok) [
  | inl h ↦ absurd (let w : ◌≡◌ {A = Option (Result WireField WireFault)} (Some (Ok e)) None = g ∙ ap (λ (s : Step). s.0) h.1 in cc)
  | inr h ↦ from_read c d e (field_at c.rest) refl (g ∙ ap (λ (s : Step). s.0) h.1) (m ∙ ap (λ (s : Step). s.1) h.1)
]

pub is_end : (c : Cursor) → c.failed ≡ false → None ≡ (next_of c).0 → c.rest ≡ []
is_end c ok g = elim (next_cases c ok) [
  | inl h ↦ h.0
  | inr h ↦ absurd (not_none (field_at c.rest) (g ∙ ap (λ (s : Step). s.0) h.1))
]
  where
    not_none : (r : Read) → None ≡ (moved c r).0 → ⊥
    not_none (Ok x) e = cc
    not_none (Err w) e = cc

-- a fault was given
pub is_fault : (c : Cursor) (f : WireFault) → c.failed ≡ false → Some (Err f) ≡ (next_of c).0 → (c.rest ≢ []) × ((x : WireField × List ℕ) → field_at c.rest ≡ Ok x → ⊥)
is_fault c f ok g = elim (next_cases c ok) [
  | inl h ↦ absurd (let w : ◌≡◌ {A = Option (Result WireField WireFault)} (Some (Err f)) None = g ∙ ap (λ (s : Step). s.0) h.1 in cc)
  | inr h ↦ (h.0, λ x e. is_no_field x (g ∙ ap (λ (s : Step). s.0) h.1 ∙ ap (λ (r : Read). (moved c r).0) e))
]
  where
    is_no_field : (x : WireField × List ℕ) → ◌≡◌ {A = Option (Result WireField WireFault)} (Some (Err f)) (Some (Ok x.0)) → ⊥
    is_no_field x e = cc

-- ---- merging

pub record Merging {V : Type 0} (good : WireField → Type 0) (value : List WireField → V) (bytes rest : List ℕ) (start now : V) : Type 0 where
  pub done : List WireField
  pub left : List WireField
  pub whole : fields_of bytes ≡ done ++ left
  pub reads : Reads left rest []
  pub each : AllByRecursion good left
  pub merged : (seen : List WireField) → start ≡ value seen → now ≡ value (seen ++ done)

pub merging_starts : {V : Type 0} → FieldLaws → (good : WireField → Type 0) (value : List WireField → V) (bytes : List ℕ) (start : V) → AreGood good bytes → Merging good value bytes bytes start start
merging_starts l good value bytes start g = record {
  done = [];
  left = g.fields;
  whole = fields_are l g.fields bytes g.whole;
  reads = are_read l g.fields bytes g.whole;
  each = g.each;
  merged = λ seen e. e ∙ ap value (sym (append-nil seen));
}

-- the next field is the first of the fields that are left
pub record Next {V : Type 0} (good : WireField → Type 0) (value : List WireField → V) (bytes rest : List ℕ) (start now : V) (e : WireField) : Type 0 where
  pub is_good : good e
  pub goes_on : (after : V) → ((seen : List WireField) → now ≡ value seen → after ≡ value (seen ++ e ∷ [])) → Merging good value bytes rest start after

pub merging_next : {V : Type 0} (good : WireField → Type 0) (value : List WireField → V) (bytes before rest : List ℕ) (start now : V) (e : WireField) → Merging good value bytes before start now → field_at before ≡ Ok (e, rest) → Next good value bytes rest start now e
merging_next {V} good value bytes before rest start now e m read = from m.left m.whole m.reads m.each
  where
    from : (left : List WireField) → fields_of bytes ≡ m.done ++ left → Reads left before [] → AllByRecursion good left → Next good value bytes rest start now e
    from [] whole reads each = absurd (nothing_read before (e, rest) reads read)
    from (f ∷ fs) whole reads each =
        let same : (f, reads.0) ≡ (e, rest) = same_read (f, reads.0) (e, rest) (sym reads.1 ∙ read) in
        let f-is : f ≡ e = ap (λ (p : WireField × List ℕ). p.0) same in
        let rest-is : reads.0 ≡ rest = ap (λ (p : WireField × List ℕ). p.1) same in
        record {
          is_good = subst good f-is each.0;
          goes_on = λ after step. record {
            done = m.done ++ e ∷ [];
            left = fs;
            whole = whole ∙ ap (λ (g : WireField). m.done ++ g ∷ fs) f-is ∙ sym (append_assoc m.done (e ∷ []) fs);
            reads = subst (λ (r : List ℕ). Reads fs r []) rest-is reads.2;
            each = each.1;
            merged = λ seen h. step (seen ++ m.done) (m.merged seen h) ∙ ap value (append_assoc seen m.done (e ∷ []));
          };
        }

-- no bytes are left after the last field
pub merging_ends : {V : Type 0} (good : WireField → Type 0) (value : List WireField → V) (bytes rest : List ℕ) (start now : V) → Merging good value bytes rest start now → ((x : WireField × List ℕ) → field_at rest ≡ Ok x → ⊥) → (seen : List WireField) → start ≡ value seen → now ≡ value (seen ++ fields_of bytes)
merging_ends good value bytes rest start now m none seen h = m.merged seen h ∙ ap (λ (es : List WireField). value (seen ++ es)) (sym (m.whole ∙ ap (λ (es : List WireField). m.done ++ es) (no_left m.left m.reads) ∙ append-nil m.done))
  where
    no_left : (left : List WireField) → Reads left rest [] → left ≡ []
    no_left [] r = refl
    no_left (f ∷ fs) r = absurd (none (f, r.0) r.1)

pub merging_no_fault : {V : Type 0} (good : WireField → Type 0) (value : List WireField → V) (bytes rest : List ℕ) (start now : V) → Merging good value bytes rest start now → rest ≢ [] → ((x : WireField × List ℕ) → field_at rest ≡ Ok x → ⊥) → ⊥
merging_no_fault good value bytes rest start now m more none = from m.left m.reads
  where
    from : (left : List WireField) → Reads left rest [] → ⊥
    from [] r = more r
    from (f ∷ fs) r = none (f, r.0) r.1

pub nothing_at_end : (bytes : List ℕ) → bytes ≡ [] → (x : WireField × List ℕ) → field_at bytes ≡ Ok x → ⊥
nothing_at_end bytes h x e = nothing_read bytes x h e

-- ---- looking for the offset

pub record Looking (good : WireField → Type 0) (bytes rest : List ℕ) (at : ℕ) : Type 0 where
  pub fields : List WireField
  pub prefix : Reads fields bytes rest
  pub each : AllByRecursion good fields
  pub offset : at + length rest ≡ length bytes

Reads-push : (fs : List WireField) (bytes mid rest : List ℕ) (e : WireField) → Reads fs bytes mid → field_at mid ≡ Ok (e, rest) → Reads (fs ++ e ∷ []) bytes rest
Reads-push [] bytes mid rest e r h = (rest, ap field_at r ∙ h, refl)
Reads-push (f ∷ fs) bytes mid rest e r h = (r.0, r.1, Reads-push fs r.0 mid rest e r.2 h)

pub looking_next : FieldLaws → (good : WireField → Type 0) (bytes before rest : List ℕ) (at : ℕ) (e : WireField) → Looking good bytes before at → field_at before ≡ Ok (e, rest) → good e → Looking good bytes rest (at + (length before - length rest))
looking_next laws good bytes before rest at e l read g =
    let n : length rest < length before = laws.shorter before rest e read in
    let p = l.offset in
    record { fields = l.fields ++ e ∷ []; prefix = Reads-push l.fields bytes before rest e l.prefix read; each = all_append good l.fields (e ∷ []) l.each (g, tt); offset = omega arith }

pub looking_ends : FieldLaws → (good : WireField → Type 0) (bytes rest : List ℕ) (at : ℕ) → Looking good bytes rest at → rest ≡ [] → AreGood good bytes
looking_ends laws good bytes rest at l none = record { fields = l.fields; whole = read_are laws l.fields bytes (subst (λ (r : List ℕ). Reads l.fields bytes r) none l.prefix); each = l.each }

pub looking_stops : FieldLaws → (good : WireField → Type 0) (bytes rest : List ℕ) (at : ℕ) → Looking good bytes rest at → rest ≢ [] → ((e : WireField) (mid : List ℕ) → field_at rest ≡ Ok (e, mid) → good e → ⊥) → IsRefusedAt good bytes at
looking_stops laws good bytes rest at l more bad = refused laws good bytes at (record { fields = l.fields; rest = rest; prefix = l.prefix; each = l.each; offset = l.offset; more = more; bad = bad })

-- the field that was read is the only field
pub not_good : (good : WireField → Type 0) (rest mid : List ℕ) (e : WireField) → field_at rest ≡ Ok (e, mid) → (good e → ⊥) → (f : WireField) (others : List ℕ) → field_at rest ≡ Ok (f, others) → good f → ⊥
not_good good rest mid e read bad f others is g = bad (subst good (ap (λ (p : WireField × List ℕ). p.0) (same_read (f, others) (e, mid) (sym is ∙ read))) g)

pub decoded : {V : Type 0} (good : WireField → Type 0) (value : List WireField → V) (bytes : List ℕ) (v : V) → ((bytes : List ℕ) (es : List WireField) → AreFields es bytes → fields_of bytes ≡ es) → AreGood good bytes → v ≡ value (fields_of bytes) → Means good value bytes v
decoded good value bytes v fields g is = record { fields = g.fields; whole = g.whole; each = g.each; is = is ∙ ap value (fields bytes g.fields g.whole) }

pub none_is_good : (good : WireField → Type 0) (bytes : List ℕ) (offset : Option ℕ) (b : Bool) → MatchOption offset (AreGood good bytes) (IsRefusedAt good bytes) → is_some offset ≡ not b → (IsTrue b → AreGood good bytes) × (AreGood good bytes → IsTrue b)
none_is_good good bytes None true m e = (λ _. m, λ _. refl)
none_is_good good bytes None false m e = absurd cc
none_is_good good bytes (Some at) true m e = absurd cc
none_is_good good bytes (Some at) false m e = (λ t. absurd (let w : false ≡ true = t in cc), λ g. absurd (m.1 g))
