-- The bytes read are a prefix of the input.
use Rattle.std.proofs.Common.{◌≡◌, ℕ, zero, suc, ◌+◌, ◌-◌, ◌*◌, ◌/◌, ◌%◌, ◌^◌, ◌<◌, ◌≤◌, Bool, true, false, cond, ltb, leb, eqb, List, [], ◌∷◌, ◌++◌, length, take, drop, None, Result, Ok, Err, refl, sym, ap, subst, ◌∙◌, append_assoc, length-append, arith, inl, inr, ◌⊎◌, lit<}
use Rattle.std.specs.Prelude.{◌||◌}
use Rattle.std.proofs.lemmas.List.{take-append-drop}
use Rattle.pbwire.specs.declared.field.WireWhy.{WireWhy}
use Rattle.pbwire.specs.declared.field.WireWhy.TheVariants as why
use Rattle.pbwire.specs.Wire.{WireField, Part, Number, Eight, Payload, Four}
use Rattle.pbwire.specs.Reading.{◌>>=◌, with_group, groups_at, varint_at, tag_at, bytes_at, part_at, field_at, Cursor, moved, next_of}

-- rest are the bytes that a reader left
abbrev pub Leaves : List ℕ → List ℕ → Type 0
Leaves bytes rest = (first : List ℕ) × (bytes ≡ first ++ rest)

abbrev pub LeavesLess : List ℕ → List ℕ → Type 0
LeavesLess bytes rest = (first : List ℕ) × (bytes ≡ first ++ rest) × (0 < length first)

pub bind_ok : {A B : Type 0} (r : Result A WireWhy) (f : A → Result B WireWhy) (y : B) → (r >>= f) ≡ Ok y → (x : A) × (r ≡ Ok x) × (f x ≡ Ok y)
bind_ok (Ok x) f y e = (x, refl, e)
bind_ok (Err d) f y e = absurd cc

pub chosen : {A : Type 0} (b : Bool) (x y z : A) → cond b x y ≡ z → ((b ≡ true) × (x ≡ z)) ⊎ ((b ≡ false) × (y ≡ z))
chosen true x y z e = inl (refl, e)
chosen false x y z e = inr (refl, e)

abbrev done : {A : Type 0} → A → Result A WireWhy
done x = Ok x

pub ok_is : {A : Type 0} (x y : A) → done x ≡ done y → x ≡ y
ok_is x y e = cc

abbrev Read : Type 0
Read = Result (ℕ × List ℕ) WireWhy

groups_leave : (left : ℕ) (bytes : List ℕ) (x : ℕ × List ℕ) → groups_at left bytes ≡ Ok x → LeavesLess bytes x.1
unfolding groups_at
groups_leave zero bytes x e = absurd cc
groups_leave (suc zero) [] x e = absurd cc
groups_leave (suc zero) (b ∷ bs) x e =
    elim (chosen (leb b 1) (done (b, bs)) (Err why.Varint) (Ok x) e) [
      | inl h ↦ (b ∷ [], ap (λ (p : ℕ × List ℕ). b ∷ p.1) (ok_is (b, bs) x h.1), lit< tt)
      | inr h ↦ absurd (let w = h.1 in cc)
    ]
groups_leave (suc (suc left)) [] x e = absurd cc
groups_leave (suc (suc left)) (b ∷ bs) x e =
    elim (chosen (ltb b 128) (done (b, bs)) (with_group b (groups_at (suc left) bs)) (Ok x) e) [
      | inl h ↦ (b ∷ [], ap (λ (p : ℕ × List ℕ). b ∷ p.1) (ok_is (b, bs) x h.1), lit< tt)
      | inr h ↦
          let w = bind_ok (groups_at (suc left) bs) (λ y. Ok (b % 128 + 128 * y.0, y.1)) x h.1 in
          let r = groups_leave (suc left) bs w.0 w.1 in
          let rest : w.0.1 ≡ x.1 = ap (λ (p : ℕ × List ℕ). p.1) (ok_is (b % 128 + 128 * w.0.0, w.0.1) x w.2) in
          (b ∷ r.0, ap (λ (l : List ℕ). b ∷ l) r.1 ∙ ap (λ (l : List ℕ). b ∷ (r.0 ++ l)) rest, omega arith)
    ]

varint_leaves : (bytes : List ℕ) (x : ℕ × List ℕ) → varint_at bytes ≡ Ok x → LeavesLess bytes x.1
unfolding varint_at
varint_leaves bytes x e = groups_leave 10 bytes x e

tag_leaves : (bytes : List ℕ) (x : ℕ × List ℕ) → tag_at bytes ≡ Ok x → LeavesLess bytes x.1
unfolding tag_at
tag_leaves bytes x e =
    let w = bind_ok (varint_at bytes) (λ t. cond (leb (2 ^ 32) t.0 || ltb t.0 8) (Err why.Tag) (Ok t)) x e in
    elim (chosen (leb (2 ^ 32) w.0.0 || ltb w.0.0 8) (Err why.Tag) (done w.0) (Ok x) w.2) [
      | inl h ↦ absurd (let d = h.1 in cc)
      | inr h ↦ subst (λ (p : ℕ × List ℕ). LeavesLess bytes p.1) (ok_is w.0 x h.1) (varint_leaves bytes w.0 w.1)
    ]

bytes_leave : (n : ℕ) (bytes : List ℕ) (x : List ℕ × List ℕ) → bytes_at n bytes ≡ Ok x → Leaves bytes x.1
bytes_leave n bytes x e =
    elim (chosen (ltb (length bytes) n) (Err why.CutShort) (done (take n bytes, drop n bytes)) (Ok x) e) [
      | inl h ↦ absurd (let d = h.1 in cc)
      | inr h ↦ subst (λ (p : List ℕ × List ℕ). Leaves bytes p.1) (ok_is (take n bytes, drop n bytes) x h.1) (take n bytes, sym (take-append-drop n bytes))
    ]

Leaves-then : (a b c : List ℕ) → Leaves a b → Leaves b c → Leaves a c
Leaves-then a b c p q = (p.0 ++ q.0, p.1 ∙ ap (λ (l : List ℕ). p.0 ++ l) q.1 ∙ sym (append_assoc p.0 q.0 c))

less_then : (a b c : List ℕ) → LeavesLess a b → Leaves b c → LeavesLess a c
less_then a b c p q = (p.0 ++ q.0, p.1 ∙ ap (λ (l : List ℕ). p.0 ++ l) q.1 ∙ sym (append_assoc p.0 q.0 c), omega (arith, length-append p.0 q.0, p.2))

-- a reader whose value is wrapped
wrapped : {A : Type 0} (read : Result (A × List ℕ) WireWhy) (f : A → Part) (bytes : List ℕ) (x : Part × List ℕ) → ((y : A × List ℕ) → read ≡ Ok y → Leaves bytes y.1) → (read >>= λ y. Ok (f y.0, y.1)) ≡ Ok x → Leaves bytes x.1
wrapped read f bytes x leaves e =
    let w = bind_ok read (λ y. Ok (f y.0, y.1)) x e in
    subst (λ (p : Part × List ℕ). Leaves bytes p.1) (ok_is (f w.0.0, w.0.1) x w.2) (leaves w.0 w.1)

weaker : (bytes rest : List ℕ) → LeavesLess bytes rest → Leaves bytes rest
weaker bytes rest p = (p.0, p.1)

payload_leaves : (bytes : List ℕ) (x : Part × List ℕ) → (varint_at bytes >>= λ n. bytes_at n.0 n.1 >>= λ p. Ok (Payload p.0, p.1)) ≡ Ok x → Leaves bytes x.1
payload_leaves bytes x e =
    let w = bind_ok (varint_at bytes) (λ n. bytes_at n.0 n.1 >>= λ p. Ok (Payload p.0, p.1)) x e in
    Leaves-then bytes w.0.1 x.1 (weaker bytes w.0.1 (varint_leaves bytes w.0 w.1)) (wrapped (bytes_at w.0.0 w.0.1) Payload w.0.1 x (bytes_leave w.0.0 w.0.1) w.2)

part_leaves : (kind : ℕ) (bytes : List ℕ) (x : Part × List ℕ) → part_at kind bytes ≡ Ok x → Leaves bytes x.1
unfolding part_at
part_leaves kind bytes x e = elim (chosen (eqb kind 0) _ _ (Ok x) e) [
  | inl h ↦ wrapped (varint_at bytes) Number bytes x (λ y r. weaker bytes y.1 (varint_leaves bytes y r)) h.1
  | inr h ↦ elim (chosen (eqb kind 1) _ _ (Ok x) h.1) [
    | inl h ↦ wrapped (bytes_at 8 bytes) Eight bytes x (bytes_leave 8 bytes) h.1
    | inr h ↦ elim (chosen (eqb kind 2) _ _ (Ok x) h.1) [
      | inl h ↦ payload_leaves bytes x h.1
      | inr h ↦ elim (chosen (eqb kind 5) _ _ (Ok x) h.1) [
        | inl h ↦ wrapped (bytes_at 4 bytes) Four bytes x (bytes_leave 4 bytes) h.1
        | inr h ↦ absurd (let d = h.1 in cc)
      ]
    ]
  ]
]

pub entry_leaves : (bytes : List ℕ) (x : WireField × List ℕ) → field_at bytes ≡ Ok x → LeavesLess bytes x.1
unfolding field_at
entry_leaves bytes x e =
    let w = bind_ok (tag_at bytes) (λ tag. part_at (tag.0 % 8) tag.1 >>= λ part. Ok (record { number = tag.0 / 8; part = part.0 }, part.1)) x e in
    let v = bind_ok (part_at (w.0.0 % 8) w.0.1) (λ part. Ok (record { number = w.0.0 / 8; part = part.0 }, part.1)) x w.2 in
    let t = tag_leaves bytes w.0 w.1 in
    let p = part_leaves (w.0.0 % 8) w.0.1 v.0 v.1 in
    let rest : v.0.1 ≡ x.1 = ap (λ (p : WireField × List ℕ). p.1) (ok_is (record { number = w.0.0 / 8; part = v.0.0 }, v.0.1) x v.2) in
    subst (λ (l : List ℕ). LeavesLess bytes l) rest (less_then bytes w.0.1 v.0.1 t p)

pub no_longer : (bytes rest : List ℕ) (e : WireField) → Ok (e, rest) ≡ field_at bytes → length rest < length bytes
no_longer bytes rest e is =
    let l = entry_leaves bytes (e, rest) (sym is) in
    omega (arith, ap length l.1, length-append l.0 rest, l.2)

pub moves : (len : ℕ) (rest after : List ℕ) (failed : Bool) (e : WireField) → failed ≡ false → false ≡ eqb (length rest) 0 → Ok (e, after) ≡ field_at rest → length rest ≤ len
    → ◌≡◌ {A = Cursor} (record { at = len - length after; rest = after; failed = failed }) (next_of (record { at = len - length rest; rest = rest; failed = failed })).1
moves len rest after failed e off some is le =
    let c : Cursor = record { at = len - length rest; rest = rest; failed = failed } in
    let n : length after < length rest = no_longer rest after e is in
    let at : (len - length rest) + (length rest - length after) ≡ len - length after = omega arith in
    let test : (failed || eqb (length rest) 0) ≡ false = ap (λ (b : Bool). b || eqb (length rest) 0) off ∙ sym some in
    sym (ap (λ (b : Bool). (cond b (None, c) (moved c (field_at rest))).1) test
    ∙ ap (λ (r : Result (WireField × List ℕ) WireWhy). (moved c r).1) (sym is)
    ∙ (λ i. record { at = at i; rest = after; failed = sym off i }))
