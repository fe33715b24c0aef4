-- Pieces that are written one after the other.
use Rattle.std.proofs.Common.{◌≡◌, ℕ, ℤ, List, [], ◌∷◌, ◌++◌, ◌≤◌, ◌==◌, true, false, eqb-true, arith, length, refl, Result, Ok, Err, OnOk, OnErr}
use Rattle.std.proofs.Common.{sym, ap, subst, ◌∙◌, append_assoc, of_z, to_z}
use Rattle.std.specs.Int.{w64}
use Rattle.std.proofs.lemmas.Int.{to_z-of_z}
use Rattle.std.proofs.lemmas.Grind.{flat_map-append}
use Rattle.std.proofs.lemmas.List.{append-nil}
use Rattle.pbwire.specs.Wire.{Payload, WireField}
use Rattle.pbwire.specs.Writing.{spelling, spellings}
use Rattle.pbmessage.specs.Canon.{FitsI64, payload_fields, present, row_fields, signed_row, text_row}
use Rattle.pbmessage.specs.Kept.{Keeps}
use Rattle.pbmessage.specs.Views.{Payloads}

pub wrote_two : (old : List ℕ) (es fs : List WireField) → (old ++ spellings es) ++ spellings fs ≡ old ++ spellings (es ++ fs)
wrote_two old es fs = append_assoc old (spellings es) (spellings fs) ∙ ap (λ (bs : List ℕ). old ++ bs) (sym (flat_map-append spelling es fs))

pub keeps_on : (old mid new : List ℕ) → Keeps mid new → Keeps old mid → Keeps old new
keeps_on old mid new b a = record { tail = a.tail ++ b.tail; is = b.is ∙ ap (λ (l : List ℕ). l ++ b.tail) a.is ∙ append_assoc old a.tail b.tail }

-- the old bytes are kept, whether or not a field could be closed
pub closed_keeps : {A E : Type 0} (r : Result A E) (old mid new closed tail : List ℕ) → closed ≡ old ++ tail → Keeps old mid → OnOk r (new ≡ closed)
    → OnErr r (new ≡ mid) → Keeps old new
closed_keeps (Ok x) old mid new closed tail is kept done undone = record { tail = tail; is = done ∙ is }
closed_keeps (Err e) old mid new closed tail is kept done undone = subst (λ (bs : List ℕ). Keeps old bs) (sym undone) kept

-- the next row after the rows that were written
pub wrote_next : (old mid new : List ℕ) (es fs : List WireField) → mid ≡ old ++ spellings es → new ≡ mid ++ spellings fs → new ≡ old ++ spellings (es ++ fs)
wrote_next old mid new es fs one two = two ∙ ap (λ (bs : List ℕ). bs ++ spellings fs) one ∙ wrote_two old es fs

-- a signed number, from its 64 bits, after the bytes that were written
pub wrote_signed : (old new : List ℕ) (k : ℕ) (z : ℤ) → FitsI64 z → new ≡ old ++ spellings (row_fields (signed_row k (to_z w64 (of_z w64 z))))
    → new ≡ old ++ spellings (row_fields (signed_row k z))
wrote_signed old new k z fits is = is ∙ ap (λ (x : ℤ). old ++ spellings (row_fields (signed_row k x))) (to_z-of_z w64 z fits)

-- the kept bytes stay, whether or not there was room for more bytes
pub extended_keeps : {A E : Type 0} (r : Result A E) (old mid new tail : List ℕ) → Keeps old mid → OnOk r (new ≡ mid ++ tail) → OnErr r (new ≡ mid)
    → Keeps old new
extended_keeps (Ok x) old mid new tail kept done undone = keeps_on old mid new (record { tail = tail; is = done }) kept
extended_keeps (Err e) old mid new tail kept done undone = subst (λ (bs : List ℕ). Keeps old bs) (sym undone) kept

-- two rows together after the rows that were written
pub wrote_placed : {A E : Type 0} (r : Result A E) (old mid new : List ℕ) (es fs gs : List WireField) → mid ≡ old ++ spellings es
    → OnOk r (new ≡ mid ++ spellings (fs ++ gs)) → OnOk r (new ≡ old ++ spellings ((es ++ fs) ++ gs))
wrote_placed (Ok x) old mid new es fs gs one two = wrote_next old mid new es (fs ++ gs) one two
    ∙ ap (λ (ws : List WireField). old ++ spellings ws) (sym (append_assoc es fs gs))
wrote_placed (Err e) old mid new es fs gs one two = two

pub wrote_then : {A E : Type 0} (r : Result A E) (old mid new : List ℕ) (es fs : List WireField) → mid ≡ old ++ spellings es
    → OnOk r (new ≡ mid ++ spellings fs) → OnOk r (new ≡ old ++ spellings (es ++ fs))
wrote_then (Ok x) old mid new es fs one two = wrote_next old mid new es fs one two
wrote_then (Err e) old mid new es fs one two = two

-- a text in two parts, the first not empty, is written
present_both : (first second : List ℕ) → 1 ≤ length first → present (first ++ second) ≡ (first ++ second) ∷ []
present_both [] second some = absurd (omega (arith, some))
present_both (b ∷ first) second some = refl

pub joined_row : (k : ℕ) (first second : List ℕ) → 1 ≤ length first → spelling (record {
  number = k;
  part = Payload (first ++ second);
}) ≡ spellings (row_fields (text_row k (first ++ second)))
unfolding row_fields
joined_row k first second some = sym (ap (λ (ps : Payloads). spellings (payload_fields k ps)) (present_both first second some)
    ∙ append-nil (spelling (record { number = k; part = Payload (first ++ second) })))

pub no_items : {X : Type 0} (xs : List X) → (length xs == 0) ≡ true → xs ≡ []
no_items [] none = refl
no_items (x ∷ xs) none = let zero : length (x ∷ xs) ≡ 0 = eqb-true (length (x ∷ xs)) 0 none in absurd (omega (arith, zero))

pub some_bytes : (bytes : List ℕ) → (length bytes == 0) ≡ false → 1 ≤ length bytes
some_bytes [] some = absurd (cc (some))
some_bytes (b ∷ bytes) some = omega arith
