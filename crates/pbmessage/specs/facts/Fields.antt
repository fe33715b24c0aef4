-- Reading from the left gives a list of fields, and the list is unique.
use Rattle.std.proofs.Common.{◌≡◌, ℕ, zero, suc, ◌<◌, ◌≤◌, List, [], ◌∷◌, length, Result, Ok, Err, refl, sym, ap, ◌∙◌, arith}
use Rattle.pbwire.specs.declared.field.WireWhy.{WireWhy}
use Rattle.pbwire.specs.declared.field.WireWhy.TheVariants as why
use Rattle.pbwire.specs.Wire.{WireField, AreFields}
use Rattle.pbwire.specs.Reading.{groups_at, varint_at, tag_at, field_at}
use Rattle.pbmessage.specs.Fields.{first_and, prefix_fields, fields_of, Means}
use Rattle.pbmessage.specs.facts.Laws.{FieldLaws}

abbrev pub Read : Type 0
Read = Result (WireField × List ℕ) WireWhy

abbrev read_ok : WireField × List ℕ → Read
read_ok x = Ok x

pub same_read : (x y : WireField × List ℕ) → read_ok x ≡ read_ok y → x ≡ y
same_read x y e = cc

pub nothing_read : (bytes : List ℕ) (x : WireField × List ℕ) → bytes ≡ [] → field_at bytes ≡ Ok x → ⊥
unfolding groups_at varint_at tag_at field_at
nothing_read bytes x none e = absurd (let w : Err why.CutShort ≡ read_ok x = sym (ap field_at none) ∙ e in cc)

-- the bytes are these fields, and then the rest
abbrev pub Reads : List WireField → List ℕ → List ℕ → Type 0
Reads [] bytes rest = bytes ≡ rest
Reads (e ∷ es) bytes rest = (mid : List ℕ) × (field_at bytes ≡ Ok (e, mid)) × Reads es mid rest

-- the two ways to say that bytes are a list of fields
pub are_read : FieldLaws → (fs : List WireField) (bytes : List ℕ) → AreFields fs bytes → Reads fs bytes []
are_read l [] bytes h = h
are_read l (f ∷ fs) bytes h = (h.1, (l.exactly bytes h.1 f).1 (h.0, h.2, h.4), are_read l fs h.1 h.3)

pub read_are : FieldLaws → (fs : List WireField) (bytes : List ℕ) → Reads fs bytes [] → AreFields fs bytes
read_are l [] bytes h = h
read_are l (f ∷ fs) bytes h = let s = (l.exactly bytes h.0 f).0 h.1 in (s.0, h.0, s.1, read_are l fs h.0 h.2, s.2)

prefix_done : (k : ℕ) (bytes : List ℕ) → bytes ≡ [] → prefix_fields k bytes ≡ []
unfolding prefix_fields
prefix_done zero bytes h = refl
prefix_done (suc k) bytes h = none (field_at bytes) refl
  where
    none : (r : Read) → field_at bytes ≡ r → first_and (λ rest. prefix_fields k rest) r ≡ []
    none (Ok x) e = absurd (nothing_read bytes x h e)
    none (Err w) e = refl

prefix_all : FieldLaws → (k : ℕ) (fs : List WireField) (bytes : List ℕ) → Reads fs bytes [] → length bytes ≤ k → prefix_fields k bytes ≡ fs
unfolding prefix_fields
prefix_all l k [] bytes h le = prefix_done k bytes h
prefix_all l zero (f ∷ fs) bytes h le = let n : length h.0 < length bytes = l.shorter bytes h.0 f h.1 in absurd (omega arith)
prefix_all l (suc k) (f ∷ fs) bytes h le =
    let n : length h.0 < length bytes = l.shorter bytes h.0 f h.1 in
    ap (first_and (λ rest. prefix_fields k rest)) h.1 ∙ ap (λ (es : List WireField). f ∷ es) (prefix_all l k fs h.0 h.2 (omega arith))

pub fields_read : FieldLaws → (fs : List WireField) (bytes : List ℕ) → Reads fs bytes [] → fields_of bytes ≡ fs
fields_read l fs bytes h = prefix_all l (length bytes) fs bytes h (omega arith)

pub fields_are : FieldLaws → (fs : List WireField) (bytes : List ℕ) → AreFields fs bytes → fields_of bytes ≡ fs
fields_are l fs bytes h = fields_read l fs bytes (are_read l fs bytes h)

-- bytes mean at most one value
pub one_value : {V : Type 0} {good : WireField → Type 0} {value : List WireField → V} {bytes : List ℕ} {v w : V} → FieldLaws
    → Means good value bytes v → Means good value bytes w → v ≡ w
one_value {value = value} {bytes = bytes} l m n = m.is ∙ ap value (sym (fields_are l m.fields bytes m.whole) ∙ fields_are l n.fields bytes n.whole) ∙ sym n.is
