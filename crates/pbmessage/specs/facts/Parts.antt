-- Each kind of row is read back as the part that was written.
use Rattle.std.proofs.Common.{◌≡◌, ℕ, ℤ, suc, ◌-◌, ◌%◌, ◌^◌, ◌<◌, Bool, true, false, cond, eqb, List, [], ◌∷◌, ◌++◌, reverse, length, Option, None}
use Rattle.std.proofs.Common.{Some, refl, sym, ap, ◌∙◌, arith, of_z, pos, negsuc}
use Rattle.std.specs.Prelude.{IsUtf8, option_to_list, FitsSigned}
use Rattle.std.specs.Int.{cast_signed, w32, w64}
use Rattle.std.specs.List.{AllByRecursion}
use Rattle.std.specs.FinMap.{entries, from_entries}
use Rattle.std.specs.Ordering.{nat_cmp}
use Rattle.std.specs.Cmp.Lexicographic.{slice_cmp}
use Rattle.std.proofs.lemmas.List.{append-nil}
use Rattle.std.proofs.lemmas.Bool.{eqb-true}
use Rattle.std.proofs.lemmas.Int.{to_z-of_z, ints}
use Rattle.pbwire.specs.Wire.{WireField}
use Rattle.pbmessage.specs.Schema.{AnyPayload, IsGoodMessage, Good, map_entry_schema}
use Rattle.pbmessage.specs.Fields.{fields_of, Means}
use Rattle.csi_types.specs.Maps.{TextMap}
use Rattle.pbmessage.specs.Views.{Views, Payloads, last_or, text, i64, i32, flag, inner, is_present, messages, map_entry_in, text_map, value_of}
use Rattle.pbmessage.specs.Canon.{Rows, bytes_of, present, present_number, signed_number, flag_number, presence, spelled, canon_map_entry, FitsText}
use Rattle.pbmessage.specs.Canon.{FitsI64, FitsI32, FitsInner, FitsOption, FitsMessages, FitsMapEntry, FitsMap}
use Rattle.pbmessage.specs.facts.Laws.{FieldLaws, SpellingLaws}
use Rattle.pbmessage.specs.facts.Fields.{fields_are}
use Rattle.pbmessage.specs.facts.Rows.{RoundTrip, rows_again}

-- ---- texts

abbrev pub Fit : (List ℕ → Type 0) → Payloads → Type 0
Fit P ps = AllByRecursion (λ p. P p × (length p < 2 ^ 64)) ps

pub text_fit : (t : List ℕ) → FitsText t → Fit IsUtf8 (present t)
text_fit [] h = tt
text_fit (b ∷ bs) h = (h, tt)

pub text_again : (t : List ℕ) → text (present t) ≡ t
text_again [] = refl
text_again (b ∷ bs) = refl

-- ---- numbers

abbrev pub Held : List ℕ → Type 0
Held xs = AllByRecursion (λ x. x < 2 ^ 64) xs

number_held : (x : ℕ) → x < 2 ^ 64 → Held (present_number x)
number_held x h = elim (eqb x 0) as (λ b. Held (cond b [] (x ∷ []))) [ true ↦ tt | false ↦ (h, tt) ]

last_number : (x : ℕ) → last_or 0 (present_number x) ≡ x
last_number x = elim (eqb x 0) as (λ b. eqb x 0 ≡ b → last_or 0 (cond b [] (x ∷ [])) ≡ x) [
  | true ↦ λ e. sym (eqb-true x 0 e)
  | false ↦ λ e. refl
] refl

long_below : (z : ℤ) → FitsI64 z → of_z w64 z < 2 ^ 64
long_below (pos n) h = let k : n < 2 ^ 63 = omega (arith, ints) in omega arith
long_below (negsuc n) h = let k : n < 2 ^ 63 = omega (arith, ints) in omega arith

pub long_fit : (z : ℤ) → FitsI64 z → Held (signed_number z)
long_fit z h = number_held (of_z w64 z) (long_below z h)

pub long_again : (z : ℤ) → FitsI64 z → i64 (signed_number z) ≡ z
long_again z h = ap (cast_signed w64) (last_number (of_z w64 z)) ∙ to_z-of_z w64 z h

enum_below : (z : ℤ) → FitsI32 z → of_z w64 z < 2 ^ 64
enum_below (pos n) h = let k : n < 2 ^ 31 = omega (arith, ints) in omega arith
enum_below (negsuc n) h = let k : n < 2 ^ 31 = omega (arith, ints) in omega arith

pub enum_fit : (z : ℤ) → FitsI32 z → Held (signed_number z)
enum_fit z h = number_held (of_z w64 z) (enum_below z h)

low_pos : (n : ℕ) → FitsSigned w32 (pos n) → n % 2 ^ 32 ≡ n
low_pos n h = let k : n < 2 ^ 31 = omega (arith, ints) in omega arith

low_negsuc : (n : ℕ) → FitsSigned w32 (negsuc n) → (2 ^ 64 - suc n) % 2 ^ 32 ≡ 2 ^ 32 - suc n
low_negsuc n h = let k : n < 2 ^ 31 = omega (arith, ints) in omega arith

low_half : (z : ℤ) → FitsI32 z → of_z w64 z % 2 ^ 32 ≡ of_z w32 z
low_half (pos n) h = low_pos n h
low_half (negsuc n) h = low_negsuc n h

pub enum_again : (z : ℤ) → FitsI32 z → i32 (signed_number z) ≡ z
enum_again z h = ap (λ (x : ℕ). cast_signed w32 (x % 2 ^ 32)) (last_number (of_z w64 z)) ∙ ap (cast_signed w32) (low_half z h) ∙ to_z-of_z w32 z h

pub flag_fit : (b : Bool) → Held (flag_number b)
flag_fit true = (omega arith, tt)
flag_fit false = tt

pub flag_again : (b : Bool) → flag (flag_number b) ≡ b
flag_again true = refl
flag_again false = refl

-- ---- messages

-- the encoding of each value that fits means the value
pub record Law {V : Type 0} (good : ℕ → List ℕ → Type 0) (of : Views → V) (canon : V → Rows) (fits : V → Type 0) : Type 0 where
  pub laws : SpellingLaws
  pub again : (v : V) → fits v → RoundTrip good of canon v

good_spelling : {V : Type 0} (good : ℕ → List ℕ → Type 0) (of : Views → V) (canon : V → Rows) (v : V) → RoundTrip good of canon v
    → IsGoodMessage good (bytes_of (canon v))
good_spelling good of canon v m = record { fields = m.fields; whole = m.whole; each = m.each }

value_again : {V : Type 0} → FieldLaws → (good : ℕ → List ℕ → Type 0) (of : Views → V) (canon : V → Rows) (v : V) → RoundTrip good of canon v
    → value_of of (fields_of (bytes_of (canon v))) ≡ v
value_again l good of canon v m = ap (value_of of) (fields_are l m.fields (bytes_of (canon v)) m.whole) ∙ sym m.is

pub inner_fit : {V : Type 0} {good : ℕ → List ℕ → Type 0} {of : Views → V} {canon : V → Rows} {fits : V → Type 0} → Law good of canon fits → (v : V)
    → FitsInner fits canon v → Fit (IsGoodMessage good) (bytes_of (canon v) ∷ [])
inner_fit {V} {good} {of} {canon} {fits} law v h = ((good_spelling good of canon v (law.again v h.0), h.1), tt)

pub option_fit : {V : Type 0} {good : ℕ → List ℕ → Type 0} {of : Views → V} {canon : V → Rows} {fits : V → Type 0} → Law good of canon fits
    → (o : Option V) → FitsOption fits canon o → Fit (IsGoodMessage good) (spelled canon (option_to_list o))
option_fit {V} {good} {of} {canon} {fits} law None h = tt
option_fit {V} {good} {of} {canon} {fits} law (Some v) h = inner_fit law v h

pub inner_again : {V : Type 0} {good : ℕ → List ℕ → Type 0} {of : Views → V} {canon : V → Rows} {fits : V → Type 0} → Law good of canon fits → (v : V)
    → FitsInner fits canon v → value_of of (fields_of (bytes_of (canon v)) ++ []) ≡ v
inner_again {V} {good} {of} {canon} {fits} law v h = ap (value_of of) (append-nil (fields_of (bytes_of (canon v))))
    ∙ value_again law.laws.fields good of canon v (law.again v h.0)

pub option_again : {V : Type 0} {good : ℕ → List ℕ → Type 0} {of : Views → V} {canon : V → Rows} {fits : V → Type 0} → Law good of canon fits
    → (o : Option V) → FitsOption fits canon o → inner (value_of of) (spelled canon (option_to_list o)) ≡ o
option_again {V} {good} {of} {canon} {fits} law None h = refl
option_again {V} {good} {of} {canon} {fits} law (Some v) h = ap (λ (w : V). Some w) (inner_again law v h)

pub messages_fit : {V : Type 0} {good : ℕ → List ℕ → Type 0} {of : Views → V} {canon : V → Rows} {fits : V → Type 0} → Law good of canon fits
    → (vs : List V) → FitsMessages fits canon vs → Fit (IsGoodMessage good) (spelled canon vs)
messages_fit {V} {good} {of} {canon} {fits} law [] h = tt
messages_fit {V} {good} {of} {canon} {fits} law (v ∷ vs) h = ((good_spelling good of canon v (law.again v h.0.0), h.0.1), messages_fit law vs h.1)

pub messages_again : {V : Type 0} {good : ℕ → List ℕ → Type 0} {of : Views → V} {canon : V → Rows} {fits : V → Type 0} → Law good of canon fits
    → (vs : List V) → FitsMessages fits canon vs → messages (value_of of) (spelled canon vs) ≡ vs
messages_again {V} {good} {of} {canon} {fits} law [] h = refl
messages_again {V} {good} {of} {canon} {fits} law (v ∷ vs) h =
    ap (λ (w : V). w ∷ messages (value_of of) (spelled canon vs)) (value_again law.laws.fields good of canon v (law.again v h.0.0))
    ∙ ap (λ (ws : List V). v ∷ ws) (messages_again law vs h.1)

pub presence_fit : (b : Bool) → Fit (IsGoodMessage (Good AnyPayload)) (presence b)
presence_fit true = ((record { fields = []; whole = refl; each = tt }, omega arith), tt)
presence_fit false = tt

pub presence_again : (b : Bool) → is_present (presence b) ≡ b
presence_again true = refl
presence_again false = refl

-- ---- maps

pub map_entry_law : SpellingLaws → Law (Good map_entry_schema) map_entry_in canon_map_entry FitsMapEntry
map_entry_law l = record {
  laws = l;
  again = λ e f. rows_again l (Good map_entry_schema) map_entry_in (canon_map_entry e) e refl
      ((tt, (f.0, tt)), (f.1, tt)) refl;
}

pub map_fit : SpellingLaws → (m : TextMap) → FitsMap m → Fit (IsGoodMessage (Good map_entry_schema)) (spelled canon_map_entry (entries m))
map_fit l m h = messages_fit (map_entry_law l) (entries m) h

pub map_again : SpellingLaws → (m : TextMap) → FitsMap m → text_map (spelled canon_map_entry (entries m)) ≡ m
map_again l m h =
    ap (λ (es : List (List ℕ × List ℕ)). from_entries {R = slice_cmp nat_cmp} (reverse es)) (messages_again (map_entry_law l) (entries m) h)
    ∙ l.map_entries m

-- ---- a message in a variant

pub mapped : {V W : Type 0} {good : WireField → Type 0} {value : List WireField → V} {bytes : List ℕ} {v : V} (f : V → W) → Means good value bytes v
    → Means good (λ es. f (value es)) bytes (f v)
mapped f m = record { fields = m.fields; whole = m.whole; each = m.each; is = ap f m.is }
