-- Reading gives back the written value, and no other encoding is shorter.
use Rattle.std.proofs.Common.{◌≡◌, ℕ, zero, suc, ◌+◌, ◌*◌, ◌/◌, ◌%◌, ◌^◌, ◌<◌, ◌≤◌, List, [], ◌∷◌, ◌++◌, length, All, Ok, refl, sym, ap, subst, ◌∙◌, length-append, arith, inl, inr, lit<}
use Rattle.std.proofs.lemmas.Bool.{cases_lt}
use Rattle.std.proofs.lemmas.Nat.{shr_below, pow-add}
use Rattle.std.proofs.lemmas.List.Elements.{All-head, All-tail}
use Rattle.pbwire.specs.Wire.{WireField, Part, Number, Eight, Payload, Four, kind_of, groups_value, IsVarint, SpellsPart, Spells, AreFields, FitsPart, FitsField}
use Rattle.pbwire.specs.Reading.{field_at}
use Rattle.pbwire.specs.Writing.{minimal, varint, part, spelling, spellings}
use Rattle.pbwire.proofs.GroupLemmas.{AreGroups, AreGroups-cons, groups, is_varint}
use Rattle.pbwire.proofs.VarintLemmas.{minimal_more, minimal_last}
use Rattle.pbwire.proofs.WireLemmas.{kind_low, entry_spelled}

-- ---- a varint

next : (k : ℕ) → 2 ^ (7 * suc k + 1) ≡ 2 ^ (7 * k + 1) * 128
next k = let e : 7 * suc k + 1 ≡ (7 * k + 1) + 7 = omega arith in ap (λ (j : ℕ). 2 ^ j) e ∙ pow-add 2 (7 * k + 1) 7

record Minimal (k n : ℕ) (bytes : List ℕ) : Type 0 where
  groups : AreGroups (suc k) bytes
  value : groups_value bytes ≡ n

minimal_is : (k n : ℕ) → n < 2 ^ (7 * k + 1) → Minimal k n (minimal k n)
unfolding minimal
minimal_is zero n lt =
    let two : n < 2 = lt in
    record { groups = omega (arith, two); value = omega (arith, two) }
minimal_is (suc k) n lt = elim (cases_lt n 128) [
  | inl small ↦ subst (Minimal (suc k) n) (sym (minimal_last (suc k) n small)) (record { groups = small; value = omega (arith, small) })
  | inr big ↦
      let e : 7 * suc k + 1 ≡ (7 * k + 1) + 7 = omega arith in
      let r = minimal_is k (n / 128) (shr_below n (7 * k + 1) 7 (subst (λ (j : ℕ). n < 2 ^ j) e lt)) in
      let value = r.value in
      subst (Minimal (suc k) n) (sym (minimal_more k n big))
      (record { groups = AreGroups-cons k (n % 128 + 128) (minimal k (n / 128)) (omega arith) r.groups; value = omega arith })
]

pub varint_is : (n : ℕ) → n < 2 ^ 64 → IsVarint (varint n) n
varint_is n lt = let m = minimal_is 9 n lt in is_varint (varint n) n m.groups (sym m.value)

groups_shortest : (k : ℕ) (bytes : List ℕ) → AreGroups (suc k) bytes → length (minimal k (groups_value bytes)) ≤ length bytes
unfolding minimal
groups_shortest k [] g = absurd g
groups_shortest zero (b ∷ bs) g = omega arith
groups_shortest (suc k) (b ∷ []) g =
    let low : groups_value (b ∷ []) < 128 = omega arith in
    rw (minimal_last (suc k) (groups_value (b ∷ [])) low) (omega arith)
groups_shortest (suc k) (b ∷ c ∷ bs) g = elim (cases_lt (groups_value (b ∷ c ∷ bs)) 128) [
  | inl small ↦ rw (minimal_last (suc k) (groups_value (b ∷ c ∷ bs)) small) (omega arith)
  | inr big ↦
      let rest : groups_value (b ∷ c ∷ bs) / 128 ≡ groups_value (c ∷ bs) = omega arith in
      let less = groups_shortest k (c ∷ bs) g.1 in
      rw (minimal_more k (groups_value (b ∷ c ∷ bs)) big, rest) (omega (arith, less))
]

varint_shortest : (n : ℕ) (bytes : List ℕ) → IsVarint bytes n → length (varint n) ≤ length bytes
varint_shortest n bytes v = subst (λ (m : ℕ). length (varint m) ≤ length bytes) (sym v.value) (groups_shortest 9 bytes (groups bytes n v))

groups_below : (k : ℕ) (bytes : List ℕ) → AreGroups (suc k) bytes → groups_value bytes < 2 ^ (7 * k + 1)
groups_below k [] g = absurd g
groups_below zero (b ∷ []) g = omega (arith, g)
groups_below zero (b ∷ c ∷ bs) g = absurd g
groups_below (suc k) (b ∷ []) g = rw (next k) (omega (arith, one k))
  where
    one : (k : ℕ) → 1 ≤ 2 ^ (7 * k + 1)
    one zero = lit< tt
    one (suc k) = rw (next k) (omega (arith, one k))
groups_below (suc k) (b ∷ c ∷ bs) g =
    let low = groups_below k (c ∷ bs) g.1 in
    rw (next k) (omega (arith, low))

varint_below : (n : ℕ) (bytes : List ℕ) → IsVarint bytes n → n < 2 ^ 64
varint_below n bytes v = subst (λ (m : ℕ). m < 2 ^ 64) (sym v.value) (groups_below 9 bytes (groups bytes n v))

-- ---- a field

part_is : (p : Part) → FitsPart p → SpellsPart p (part p)
part_is (Number n) fits = varint_is n fits
part_is (Eight p) fits = (fits, refl)
part_is (Payload p) fits = (varint (length p), varint_is (length p) fits, refl)
part_is (Four p) fits = (fits, refl)

part_fits : (p : Part) (bytes : List ℕ) → SpellsPart p bytes → FitsPart p
part_fits (Number n) bytes s = varint_below n bytes s
part_fits (Eight p) bytes s = s.0
part_fits (Payload p) bytes s = varint_below (length p) s.0 s.1
part_fits (Four p) bytes s = s.0

part_shortest : (p : Part) (bytes : List ℕ) → SpellsPart p bytes → length (part p) ≤ length bytes
part_shortest (Number n) bytes s = varint_shortest n bytes s
part_shortest (Eight p) bytes s = omega (arith, ap length s.1)
part_shortest (Payload p) bytes s = omega (arith, ap length s.2, length-append s.0 p, length-append (varint (length p)) p, varint_shortest (length p) s.0 s.1)
part_shortest (Four p) bytes s = omega (arith, ap length s.1)

pub spelling_is : (e : WireField) → FitsField e → Spells e (spelling e)
spelling_is e fits =
    let kind = kind_low e.part in
    let positive = fits.positive in
    let low = fits.low in
    record {
      tag = varint (e.number * 8 + kind_of e.part);
      payload = part e.part;
      is_tag = varint_is (e.number * 8 + kind_of e.part) (omega arith);
      low = omega arith;
      positive = positive;
      is_payload = part_is e.part fits.part;
      whole = refl;
    }

pub spelled_fits : (e : WireField) (bytes : List ℕ) → Spells e bytes → FitsField e
spelled_fits e bytes s = let low = s.low in record { positive = s.positive; low = omega arith; part = part_fits e.part s.payload s.is_payload }

pub spelling_shortest : (e : WireField) (bytes : List ℕ) → Spells e bytes → length (spelling e) ≤ length bytes
spelling_shortest e bytes s = omega (
  arith,
  ap length s.whole,
  length-append s.tag s.payload,
  length-append (varint (e.number * 8 + kind_of e.part)) (part e.part),
  varint_shortest (e.number * 8 + kind_of e.part) s.tag s.is_tag,
  part_shortest e.part s.payload s.is_payload,
)

pub entry_again : (e : WireField) (more : List ℕ) → FitsField e → field_at (spelling e ++ more) ≡ Ok (e, more)
entry_again e more fits = entry_spelled e (spelling e) more (spelling_is e fits)

pub are_fields : (es : List WireField) → All FitsField es → AreFields es (spellings es)
are_fields [] fit = refl
are_fields (e ∷ es) fit = (spelling e, spellings es, spelling_is e (All-head FitsField e es fit), are_fields es (All-tail FitsField e es fit), refl)
