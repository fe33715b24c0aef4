-- Reading gives the values that the encoding guide encodes.
use Rattle.std.proofs.Common.{◌≡◌, ℕ, zero, suc, ◌+◌, ◌*◌, ◌/◌, ◌%◌, ◌^◌, ◌<◌, ◌≤◌, Bool, true, false, cond, ltb, leb, eqb, List, [], ◌∷◌, ◌++◌, length, take, drop, Result, Ok, Err, refl, sym, ap, subst, ◌∙◌, append_assoc, length-append, arith, inl, inr, lit<}
use Rattle.std.specs.Prelude.{◌||◌}
use Rattle.std.proofs.lemmas.Bool.{lt-ltb, le-ltb, ltb-false, ltb-true, eqb-true}
use Rattle.std.proofs.lemmas.Bool.Decides.{nat_tests}
use Rattle.std.proofs.lemmas.List.{take_at, drop_at, take-append-drop, length-take}
use Rattle.pbwire.specs.declared.field.WireWhy.{WireWhy}
use Rattle.pbwire.specs.declared.field.WireWhy.TheVariants as why
use Rattle.pbwire.specs.Wire.{WireField, Part, Number, Eight, Payload, Four, kind_of, groups_value, IsVarint, SpellsPart, Spells}
use Rattle.pbwire.specs.Reading.{◌>>=◌, with_group, groups_at, varint_at, tag_at, bytes_at, part_at, field_at}
use Rattle.pbwire.specs.Faults.{Begins, AfterTag}
use Rattle.pbwire.proofs.PrefixLemmas.{bind_ok, chosen, ok_is}
use Rattle.pbwire.proofs.GroupLemmas.{AreGroups, groups, is_varint}

abbrev Read : Type 0
Read = Result (ℕ × List ℕ) WireWhy

low_is : (b : ℕ) → b < 128 → b ≡ b % 128 + 128 * 0
low_is b h = omega arith

leb_so : (a b : ℕ) → a ≤ b → leb a b ≡ true
leb_so a b h = grind (arith, nat_tests)

leb_says : (a b : ℕ) → leb a b ≡ true → a ≤ b
leb_says a b h = grind (arith, nat_tests)

leb_not : (a b : ℕ) → leb a b ≡ false → b < a
leb_not a b h = grind (arith, nat_tests)

groups_spelled : (left : ℕ) (bytes tail : List ℕ) → AreGroups left bytes → groups_at left (bytes ++ tail) ≡ Ok (groups_value bytes, tail)
unfolding groups_at
groups_spelled left [] tail h = absurd h
groups_spelled zero (b ∷ bs) tail h = absurd h
groups_spelled (suc zero) (b ∷ []) tail h = ap (λ (t : Bool). cond t (Ok (b, tail)) (Err why.Varint)) (leb_so b 1 h) ∙ ap (λ (n : ℕ). Ok (n, tail)) (low_is b (omega arith))
groups_spelled (suc zero) (b ∷ c ∷ bs) tail h = absurd h
groups_spelled (suc (suc left)) (b ∷ []) tail h = ap (λ (t : Bool). cond t (Ok (b, tail)) (with_group b (groups_at (suc left) tail))) (lt-ltb b 128 h) ∙ ap (λ (n : ℕ). Ok (n, tail)) (low_is b h)
groups_spelled (suc (suc left)) (b ∷ c ∷ bs) tail h =
    ap (λ (t : Bool). cond t (Ok (b, (c ∷ bs) ++ tail)) (with_group b (groups_at (suc left) ((c ∷ bs) ++ tail)))) (le-ltb b 128 h.0)
    ∙ ap (with_group b) (groups_spelled (suc left) (c ∷ bs) tail h.1)

pub record Groups (left : ℕ) (bytes : List ℕ) (x : ℕ × List ℕ) : Type 0 where
  pub first : List ℕ
  pub groups : AreGroups left first
  pub value : x.0 ≡ groups_value first
  pub whole : bytes ≡ first ++ x.1

one_group : (left b : ℕ) (bs : List ℕ) (x : ℕ × List ℕ) → AreGroups left (b ∷ []) → b < 128 → (b, bs) ≡ x → Groups left (b ∷ bs) x
one_group left b bs x g h e = record { first = b ∷ []; groups = g; value = sym (ap (λ (p : ℕ × List ℕ). p.0) e) ∙ low_is b h; whole = ap (λ (p : ℕ × List ℕ). b ∷ p.1) e }

more_group : (left b : ℕ) (bs : List ℕ) (y x : ℕ × List ℕ) → 128 ≤ b → Groups (suc left) bs y → (b % 128 + 128 * y.0, y.1) ≡ x → Groups (suc (suc left)) (b ∷ bs) x
more_group left b bs y x h g e = from g.first g.groups g.value g.whole
  where
    from : (first : List ℕ) → AreGroups (suc left) first → y.0 ≡ groups_value first → bs ≡ first ++ y.1 → Groups (suc (suc left)) (b ∷ bs) x
    from [] a v w = absurd a
    from (c ∷ cs) a v w = record {
      first = b ∷ c ∷ cs;
      groups = (h, a);
      value = sym (ap (λ (p : ℕ × List ℕ). p.0) e) ∙ ap (λ (n : ℕ). b % 128 + 128 * n) v;
      whole = ap (λ (l : List ℕ). b ∷ l) w ∙ ap (λ (p : ℕ × List ℕ). b ∷ ((c ∷ cs) ++ p.1)) e;
    }

groups_sound : (left : ℕ) (bytes : List ℕ) (x : ℕ × List ℕ) → groups_at left bytes ≡ Ok x → Groups left bytes x
unfolding groups_at
groups_sound zero bytes x e = absurd cc
groups_sound (suc zero) [] x e = absurd cc
groups_sound (suc zero) (b ∷ bs) x e =
    elim (chosen (leb b 1) (Ok (b, bs)) (Err why.Varint) (Ok x) e) [
      | inl h ↦ let l = leb_says b 1 h.0 in one_group 1 b bs x l (omega arith) (ok_is (b, bs) x h.1)
      | inr h ↦ absurd (let w = h.1 in cc)
    ]
groups_sound (suc (suc left)) [] x e = absurd cc
groups_sound (suc (suc left)) (b ∷ bs) x e =
    elim (chosen (ltb b 128) (Ok (b, bs)) (with_group b (groups_at (suc left) bs)) (Ok x) e) [
      | inl h ↦ one_group (suc (suc left)) b bs x (ltb-true b 128 h.0) (ltb-true b 128 h.0) (ok_is (b, bs) x h.1)
      | inr h ↦
          let w = bind_ok (groups_at (suc left) bs) (λ y. Ok (b % 128 + 128 * y.0, y.1)) x h.1 in
          more_group left b bs w.0 x (ltb-false b 128 h.0) (groups_sound (suc left) bs w.0 w.1) (ok_is (b % 128 + 128 * w.0.0, w.0.1) x w.2)
    ]

pub varint_spelled : (n : ℕ) (bytes tail : List ℕ) → IsVarint bytes n → varint_at (bytes ++ tail) ≡ Ok (n, tail)
unfolding varint_at
varint_spelled n bytes tail v = groups_spelled 10 bytes tail (groups bytes n v) ∙ ap (λ (m : ℕ). Ok (m, tail)) (sym v.value)

pub varint_sound : (bytes : List ℕ) (x : ℕ × List ℕ) → varint_at bytes ≡ Ok x → (first : List ℕ) × IsVarint first x.0 × (bytes ≡ first ++ x.1)
unfolding varint_at
varint_sound bytes x e = let g = groups_sound 10 bytes x e in (g.first, is_varint g.first x.0 g.groups g.value, g.whole)

-- ---- a field that is encoded is read

bytes_spelled : (n : ℕ) (p tail : List ℕ) → length p ≡ n → bytes_at n (p ++ tail) ≡ Ok (p, tail)
bytes_spelled n p tail len =
    let long : ltb (length (p ++ tail)) n ≡ false = le-ltb _ _ (omega (arith, length-append p tail)) in
    rw (long, take_at p tail n len, drop_at p tail n len) refl

part_spelled : (p : Part) (bytes tail : List ℕ) → SpellsPart p bytes → part_at (kind_of p) (bytes ++ tail) ≡ Ok (p, tail)
unfolding part_at
part_spelled (Number n) bytes tail s = ap (λ (r : Read). r >>= λ x. Ok (Number x.0, x.1)) (varint_spelled n bytes tail s)
part_spelled (Eight p) bytes tail s = ap (λ (r : Result (List ℕ × List ℕ) WireWhy). r >>= λ x. Ok (Eight x.0, x.1)) (ap (λ (b : List ℕ). bytes_at 8 (b ++ tail)) s.1 ∙ bytes_spelled 8 p tail s.0)
part_spelled (Payload p) bytes tail s =
    ap (λ (b : List ℕ). varint_at b >>= λ n. bytes_at n.0 n.1 >>= λ x. Ok (Payload x.0, x.1)) (ap (λ (b : List ℕ). b ++ tail) s.2 ∙ append_assoc s.0 p tail)
    ∙ ap (λ (r : Read). r >>= λ n. bytes_at n.0 n.1 >>= λ x. Ok (Payload x.0, x.1)) (varint_spelled (length p) s.0 (p ++ tail) s.1)
    ∙ ap (λ (r : Result (List ℕ × List ℕ) WireWhy). r >>= λ x. Ok (Payload x.0, x.1)) (bytes_spelled (length p) p tail refl)
part_spelled (Four p) bytes tail s = ap (λ (r : Result (List ℕ × List ℕ) WireWhy). r >>= λ x. Ok (Four x.0, x.1)) (ap (λ (b : List ℕ). bytes_at 4 (b ++ tail)) s.1 ∙ bytes_spelled 4 p tail s.0)

pub kind_low : (p : Part) → kind_of p < 8
kind_low (Number n) = lit< tt
kind_low (Eight p) = lit< tt
kind_low (Payload p) = lit< tt
kind_low (Four p) = lit< tt

not_le : (m : ℕ) → m < 2 ^ 32 → leb (2 ^ 32) m ≡ false
not_le m h = grind (arith, nat_tests)

pub tag_spelled : (t : ℕ) (bytes tail : List ℕ) → IsVarint bytes t → t < 2 ^ 32 → 8 ≤ t → tag_at (bytes ++ tail) ≡ Ok (t, tail)
unfolding tag_at
tag_spelled t bytes tail v low high =
    ap (λ (r : Read). r >>= λ tag. cond (leb (2 ^ 32) tag.0 || ltb tag.0 8) (Err why.Tag) (Ok tag)) (varint_spelled t bytes tail v)
    ∙ ap (λ (c : Bool). cond (c || ltb t 8) (Err why.Tag) (Ok (t, tail))) (not_le t low)
    ∙ ap (λ (c : Bool). cond c (Err why.Tag) (Ok (t, tail))) (le-ltb t 8 high)

abbrev entry_from : ℕ → Result (Part × List ℕ) WireWhy → Result (WireField × List ℕ) WireWhy
entry_from n r = r >>= λ x. Ok (record { number = n; part = x.0 }, x.1)

pub entry_spelled : (e : WireField) (bytes tail : List ℕ) → Spells e bytes → field_at (bytes ++ tail) ≡ Ok (e, tail)
unfolding field_at
entry_spelled e bytes tail s =
    let k = kind_low e.part in
    let p = s.positive in
    let kind : (e.number * 8 + kind_of e.part) % 8 ≡ kind_of e.part = omega arith in
    let number : (e.number * 8 + kind_of e.part) / 8 ≡ e.number = omega arith in
    ap (λ (b : List ℕ). tag_at b >>= λ tag. entry_from (tag.0 / 8) (part_at (tag.0 % 8) tag.1)) (ap (λ (b : List ℕ). b ++ tail) s.whole ∙ append_assoc s.tag s.payload tail)
    ∙ ap (λ (r : Read). r >>= λ tag. entry_from (tag.0 / 8) (part_at (tag.0 % 8) tag.1)) (tag_spelled (e.number * 8 + kind_of e.part) s.tag (s.payload ++ tail) s.is_tag s.low (omega arith))
    ∙ ap (λ (j : ℕ). entry_from ((e.number * 8 + kind_of e.part) / 8) (part_at j (s.payload ++ tail))) kind
    ∙ ap (λ (n : ℕ). entry_from n (part_at (kind_of e.part) (s.payload ++ tail))) number
    ∙ ap (entry_from e.number) (part_spelled e.part s.payload tail s.is_payload)

-- ---- a field that is read is encoded

abbrev SoundPart : ℕ → List ℕ → Part × List ℕ → Type 0
SoundPart kind bytes x = (kind_of x.0 ≡ kind) × ((first : List ℕ) × SpellsPart x.0 first × (bytes ≡ first ++ x.1))

bytes_sound : (n : ℕ) (bytes : List ℕ) (x : List ℕ × List ℕ) → bytes_at n bytes ≡ Ok x → (length x.0 ≡ n) × (bytes ≡ x.0 ++ x.1)
bytes_sound n bytes x e =
    elim (chosen (ltb (length bytes) n) (Err why.CutShort) (Ok (take n bytes, drop n bytes)) (Ok x) e) [
      | inl h ↦ absurd (let d = h.1 in cc)
      | inr h ↦
          let le : n ≤ length bytes = ltb-false _ _ h.0 in
          let len : length (take n bytes) ≡ n = omega (arith, length-take n bytes) in
          subst (λ (p : List ℕ × List ℕ). (length p.0 ≡ n) × (bytes ≡ p.0 ++ p.1)) (ok_is (take n bytes, drop n bytes) x h.1) (len, sym (take-append-drop n bytes))
    ]

part_sound : (kind : ℕ) (bytes : List ℕ) (x : Part × List ℕ) → part_at kind bytes ≡ Ok x → SoundPart kind bytes x
unfolding part_at
part_sound kind bytes x e = elim (chosen (eqb kind 0) _ _ (Ok x) e) [
  | inl h ↦
      let w = bind_ok (varint_at bytes) (λ n. Ok (Number n.0, n.1)) x h.1 in
      let v = varint_sound bytes w.0 w.1 in
      subst (SoundPart kind bytes) (ok_is (Number w.0.0, w.0.1) x w.2) (sym (eqb-true kind 0 h.0), (v.0, v.1, v.2))
  | inr h ↦ elim (chosen (eqb kind 1) _ _ (Ok x) h.1) [
    | inl h ↦
        let w = bind_ok (bytes_at 8 bytes) (λ p. Ok (Eight p.0, p.1)) x h.1 in
        let v = bytes_sound 8 bytes w.0 w.1 in
        subst (SoundPart kind bytes) (ok_is (Eight w.0.0, w.0.1) x w.2) (sym (eqb-true kind 1 h.0), (w.0.0, (v.0, refl), v.1))
    | inr h ↦ elim (chosen (eqb kind 2) _ _ (Ok x) h.1) [
      | inl h ↦
          let w = bind_ok (varint_at bytes) (λ n. bytes_at n.0 n.1 >>= λ p. Ok (Payload p.0, p.1)) x h.1 in
          let u = bind_ok (bytes_at w.0.0 w.0.1) (λ p. Ok (Payload p.0, p.1)) x w.2 in
          let v = varint_sound bytes w.0 w.1 in
          let b = bytes_sound w.0.0 w.0.1 u.0 u.1 in
          let is : IsVarint v.0 (length u.0.0) = subst (λ (n : ℕ). IsVarint v.0 n) (sym b.0) v.1 in
          subst (SoundPart kind bytes) (ok_is (Payload u.0.0, u.0.1) x u.2)
          (sym (eqb-true kind 2 h.0), (v.0 ++ u.0.0, (v.0, is, refl), v.2 ∙ ap (λ (l : List ℕ). v.0 ++ l) b.1 ∙ sym (append_assoc v.0 u.0.0 u.0.1)))
      | inr h ↦ elim (chosen (eqb kind 5) _ _ (Ok x) h.1) [
        | inl h ↦
            let w = bind_ok (bytes_at 4 bytes) (λ p. Ok (Four p.0, p.1)) x h.1 in
            let v = bytes_sound 4 bytes w.0 w.1 in
            subst (SoundPart kind bytes) (ok_is (Four w.0.0, w.0.1) x w.2) (sym (eqb-true kind 5 h.0), (w.0.0, (v.0, refl), v.1))
        | inr h ↦ absurd (let d = h.1 in cc)
      ]
    ]
  ]
]

or_false : (a b : Bool) → (a || b) ≡ false → (a ≡ false) × (b ≡ false)
or_false true b e = absurd cc
or_false false b e = (refl, e)

tag_test : (y w : ℕ × List ℕ) → cond (leb (2 ^ 32) y.0 || ltb y.0 8) (Err why.Tag) (Ok y) ≡ Ok w → (y ≡ w) × (w.0 < 2 ^ 32) × (8 ≤ w.0)
tag_test y w h = elim (chosen (leb (2 ^ 32) y.0 || ltb y.0 8) (Err why.Tag) (Ok y) (Ok w) h) [
  | inl g ↦ absurd (let d = g.1 in cc)
  | inr g ↦
      let o = or_false (leb (2 ^ 32) y.0) (ltb y.0 8) g.0 in
      let s = ok_is y w g.1 in
      (s, subst (λ (q : ℕ × List ℕ). q.0 < 2 ^ 32) s (leb_not (2 ^ 32) y.0 o.0), subst (λ (q : ℕ × List ℕ). 8 ≤ q.0) s (ltb-false y.0 8 o.1))
]

pub tag_sound : (bytes : List ℕ) (x : ℕ × List ℕ) → tag_at bytes ≡ Ok x → AfterTag x.0 x.1 bytes
unfolding tag_at
tag_sound bytes x e =
    let y = bind_ok (varint_at bytes) (λ t. cond (leb (2 ^ 32) t.0 || ltb t.0 8) (Err why.Tag) (Ok t)) x e in
    let t = tag_test y.0 x y.2 in
    record { begins = subst (λ (q : ℕ × List ℕ). Begins q.0 q.1 bytes) t.0 (varint_sound bytes y.0 y.1); numbered = t.2; low = t.1 }

pub entry_sound : (bytes : List ℕ) (x : WireField × List ℕ) → field_at bytes ≡ Ok x → (first : List ℕ) × Spells x.0 first × (bytes ≡ first ++ x.1)
unfolding field_at
entry_sound bytes x e =
    let w = bind_ok (tag_at bytes) (λ tag. entry_from (tag.0 / 8) (part_at (tag.0 % 8) tag.1)) x e in
    let u = bind_ok (part_at (w.0.0 % 8) w.0.1) (λ p. Ok (record { number = w.0.0 / 8; part = p.0 }, p.1)) x w.2 in
    let t = tag_sound bytes w.0 w.1 in
    let p = part_sound (w.0.0 % 8) w.0.1 u.0 u.1 in
    let high = t.numbered in
    let v = t.begins in
    let tag : (w.0.0 / 8) * 8 + kind_of u.0.0 ≡ w.0.0 = let k = p.0 in omega arith in
    let parts : bytes ≡ (v.0 ++ p.1.0) ++ u.0.1 = v.2 ∙ ap (λ (l : List ℕ). v.0 ++ l) p.1.2 ∙ sym (append_assoc v.0 p.1.0 u.0.1) in
    subst (λ (q : WireField × List ℕ). (first : List ℕ) × Spells q.0 first × (bytes ≡ first ++ q.1)) (ok_is (record { number = w.0.0 / 8; part = u.0.0 }, u.0.1) x u.2)
    (v.0 ++ p.1.0, record { tag = v.0; payload = p.1.0; is_tag = subst (IsVarint v.0) (sym tag) v.1; low = rw tag t.low; positive = omega arith; is_payload = p.1.1; whole = refl }, parts)
