-- The reader's faults are the faults of the table.
use Rattle.std.proofs.Common.{◌≡◌, ◌≢◌, ℕ, zero, suc, ◌+◌, ◌*◌, ◌/◌, ◌%◌, ◌^◌, ◌<◌, ◌≤◌, Bool, true, false, cond, ltb, leb, eqb, List, [], ◌∷◌, ◌++◌, length, take, drop, Result, Ok, Err, refl, sym, ap, subst, ◌∙◌, arith, inl, inr, ◌⊎◌}
use Rattle.std.specs.Prelude.{◌||◌}
use Rattle.std.proofs.lemmas.Bool.{lt-ltb, ltb-true, eqb-true}
use Rattle.std.proofs.lemmas.Bool.Decides.{nat_tests}
use Rattle.pbwire.specs.declared.field.WireWhy.{WireWhy}
use Rattle.pbwire.specs.declared.field.WireWhy.TheVariants as why
use Rattle.pbwire.specs.Wire.{WireField, Part, Number, Eight, Payload, Four, Spells}
use Rattle.pbwire.specs.Reading.{◌>>=◌, with_group, groups_at, varint_at, tag_at, bytes_at, part_at, field_at}
use Rattle.pbwire.specs.Faults.{Begins, NoVarint, AfterTag, VarintAt, BytesAt, Faults}
use Rattle.pbwire.proofs.PrefixLemmas.{chosen}
use Rattle.pbwire.proofs.WireLemmas.{varint_spelled, varint_sound, tag_spelled, tag_sound, entry_spelled}

abbrev failed : {A : Type 0} → WireWhy → Result A WireWhy
failed e = Err e

err_is : {A : Type 0} (d e : WireWhy) → failed {A = A} d ≡ failed {A = A} e → d ≡ e
err_is d e h = cc

bind_err : {A B : Type 0} (r : Result A WireWhy) (f : A → Result B WireWhy) (e : WireWhy) → (r >>= f) ≡ Err e → (r ≡ Err e) ⊎ ((x : A) × (r ≡ Ok x) × (f x ≡ Err e))
bind_err (Ok x) f e h = inr (x, refl, h)
bind_err (Err d) f e h = inl (ap (λ (w : WireWhy). Err w) (err_is d e h))

decided : {A : Type 0} (r : Result A WireWhy) → ((x : A) × (r ≡ Ok x)) ⊎ ((e : WireWhy) × (r ≡ Err e))
decided (Ok x) = inl (x, refl)
decided (Err e) = inr (e, refl)

-- ---- a varint

abbrev Fails : ℕ → List ℕ → WireWhy → Type 0
Fails left bytes e = ((e ≡ why.Varint) × (left ≤ length bytes)) ⊎ ((e ≡ why.CutShort) × (length bytes < left))

one_more : (left b : ℕ) (bs : List ℕ) (e : WireWhy) → Fails left bs e → Fails (suc left) (b ∷ bs) e
one_more left b bs e (inl h) = inl (h.0, omega (arith, h.1))
one_more left b bs e (inr h) = inr (h.0, omega (arith, h.1))

groups_fail : (left : ℕ) (bytes : List ℕ) (e : WireWhy) → groups_at (suc left) bytes ≡ Err e → Fails (suc left) bytes e
unfolding groups_at
groups_fail zero [] e h = inr (sym (err_is why.CutShort e h), omega arith)
groups_fail zero (b ∷ bs) e h = elim (chosen (leb b 1) (Ok (b, bs)) (Err why.Varint) (Err e) h) [
  | inl g ↦ absurd (let w = g.1 in cc)
  | inr g ↦ inl (sym (err_is why.Varint e g.1), omega arith)
]
groups_fail (suc left) [] e h = inr (sym (err_is why.CutShort e h), omega arith)
groups_fail (suc left) (b ∷ bs) e h = elim (chosen (ltb b 128) (Ok (b, bs)) (with_group b (groups_at (suc left) bs)) (Err e) h) [
  | inl g ↦ absurd (let w = g.1 in cc)
  | inr g ↦ elim (bind_err (groups_at (suc left) bs) (λ y. Ok (b % 128 + 128 * y.0, y.1)) e g.1) [
    | inl f ↦ one_more (suc left) b bs e (groups_fail left bs e f)
    | inr f ↦ absurd (let w = f.2 in cc)
  ]
]

same_fault : (left : ℕ) (bytes : List ℕ) (d e : WireWhy) → Fails left bytes d → Fails left bytes e → d ≡ e
same_fault left bytes d e (inl g) (inl h) = g.0 ∙ sym h.0
same_fault left bytes d e (inl g) (inr h) = absurd (omega (arith, g.1, h.1))
same_fault left bytes d e (inr g) (inl h) = absurd (omega (arith, g.1, h.1))
same_fault left bytes d e (inr g) (inr h) = g.0 ∙ sym h.0

begins_read : (n : ℕ) (rest bytes : List ℕ) → Begins n rest bytes → varint_at bytes ≡ Ok (n, rest)
begins_read n rest bytes b = ap varint_at b.2 ∙ varint_spelled n b.0 rest b.1

varint_fails : (bytes : List ℕ) (e : WireWhy) → varint_at bytes ≡ Err e → NoVarint bytes × Fails 10 bytes e
unfolding varint_at
varint_fails bytes e h = (λ n rest b. absurd (let r = sym (begins_read n rest bytes b) ∙ h in cc), groups_fail 9 bytes e h)

no_varint_read : (bytes : List ℕ) (e : WireWhy) → NoVarint bytes → Fails 10 bytes e → varint_at bytes ≡ Err e
no_varint_read bytes e none fails = elim (decided (varint_at bytes)) [
  | inl r ↦ absurd (none r.0.0 r.0.1 (varint_sound bytes r.0 r.1))
  | inr r ↦ r.1 ∙ ap (λ (w : WireWhy). Err w) (same_fault 10 bytes r.0 e (varint_fails bytes r.0 r.1).1 fails)
]

-- ---- from the reader to the table

varint_fault : (rest bytes : List ℕ) (e : WireWhy) → VarintAt rest bytes → varint_at rest ≡ Err e → Faults e bytes
varint_fault rest bytes e at h =
    let v = varint_fails rest e h in
    elim v.1 [
      | inl f ↦ subst (λ (w : WireWhy). Faults w bytes) (sym f.0) (rest, at, v.0, f.1)
      | inr f ↦ subst (λ (w : WireWhy). Faults w bytes) (sym f.0) (inl (rest, at, v.0, f.1))
    ]

bytes_fault : (n : ℕ) (rest bytes : List ℕ) (e : WireWhy) → BytesAt n rest bytes → bytes_at n rest ≡ Err e → Faults e bytes
bytes_fault n rest bytes e at h = elim (chosen (ltb (length rest) n) (Err why.CutShort) (Ok (take n rest, drop n rest)) (Err e) h) [
  | inl f ↦ subst (λ (w : WireWhy). Faults w bytes) (err_is why.CutShort e f.1) (inr (n, rest, at, ltb-true (length rest) n f.0))
  | inr f ↦ absurd (let w = f.1 in cc)
]

differs : (a b : ℕ) → eqb a b ≡ false → a ≢ b
differs a b h = grind (arith, nat_tests)

part_fault : (tag : ℕ) (rest bytes : List ℕ) (e : WireWhy) → AfterTag tag rest bytes → part_at (tag % 8) rest ≡ Err e → Faults e bytes
unfolding part_at
part_fault tag rest bytes e after h = elim (chosen (eqb (tag % 8) 0) _ _ (Err e) h) [
  | inl f ↦ elim (bind_err (varint_at rest) (λ n. Ok (Number n.0, n.1)) e f.1) [
    | inl g ↦ varint_fault rest bytes e (inr (tag, after, inl (eqb-true (tag % 8) 0 f.0))) g
    | inr g ↦ absurd (let w = g.2 in cc)
  ]
  | inr f0 ↦ elim (chosen (eqb (tag % 8) 1) _ _ (Err e) f0.1) [
    | inl f ↦ elim (bind_err (bytes_at 8 rest) (λ p. Ok (Eight p.0, p.1)) e f.1) [
      | inl g ↦ bytes_fault 8 rest bytes e (inl (tag, after, inl (eqb-true (tag % 8) 1 f.0, refl))) g
      | inr g ↦ absurd (let w = g.2 in cc)
    ]
    | inr f1 ↦ elim (chosen (eqb (tag % 8) 2) _ _ (Err e) f1.1) [
      | inl f ↦ elim (bind_err (varint_at rest) (λ n. bytes_at n.0 n.1 >>= λ p. Ok (Payload p.0, p.1)) e f.1) [
        | inl g ↦ varint_fault rest bytes e (inr (tag, after, inr (eqb-true (tag % 8) 2 f.0))) g
        | inr g ↦ elim (bind_err (bytes_at g.0.0 g.0.1) (λ p. Ok (Payload p.0, p.1)) e g.2) [
          | inl k ↦ bytes_fault g.0.0 g.0.1 bytes e (inr (tag, rest, after, eqb-true (tag % 8) 2 f.0, varint_sound rest g.0 g.1)) k
          | inr k ↦ absurd (let w = k.2 in cc)
        ]
      ]
      | inr f2 ↦ elim (chosen (eqb (tag % 8) 5) _ _ (Err e) f2.1) [
        | inl f ↦ elim (bind_err (bytes_at 4 rest) (λ p. Ok (Four p.0, p.1)) e f.1) [
          | inl g ↦ bytes_fault 4 rest bytes e (inl (tag, after, inr (eqb-true (tag % 8) 5 f.0, refl))) g
          | inr g ↦ absurd (let w = g.2 in cc)
        ]
        | inr f5 ↦ subst (λ (w : WireWhy). Faults w bytes) (err_is why.WireType e f5.1)
            (tag, rest, after, differs (tag % 8) 0 f0.0, differs (tag % 8) 1 f1.0, differs (tag % 8) 2 f2.0, differs (tag % 8) 5 f5.0)
      ]
    ]
  ]
]

tag_test : (tag : ℕ) → (leb (2 ^ 32) tag || ltb tag 8) ≡ true → (tag < 8) ⊎ (2 ^ 32 ≤ tag)
tag_test tag h = by_high (leb (2 ^ 32) tag) refl h
  where
    high : (m : ℕ) → leb (2 ^ 32) m ≡ true → 2 ^ 32 ≤ m
    high m e = grind (arith, nat_tests)

    by_high : (b : Bool) → leb (2 ^ 32) tag ≡ b → (b || ltb tag 8) ≡ true → (tag < 8) ⊎ (2 ^ 32 ≤ tag)
    by_high true e h = inr (high tag e)
    by_high false e h = inl (ltb-true tag 8 h)

tag_fault : (bytes : List ℕ) (e : WireWhy) → tag_at bytes ≡ Err e → Faults e bytes
unfolding tag_at
tag_fault bytes e h = elim (bind_err (varint_at bytes) (λ t. cond (leb (2 ^ 32) t.0 || ltb t.0 8) (Err why.Tag) (Ok t)) e h) [
  | inl f ↦ varint_fault bytes bytes e (inl refl) f
  | inr f ↦ elim (chosen (leb (2 ^ 32) f.0.0 || ltb f.0.0 8) (Err why.Tag) (Ok f.0) (Err e) f.2) [
    | inl g ↦
        let v = varint_sound bytes f.0 f.1 in
        subst (λ (w : WireWhy). Faults w bytes) (err_is why.Tag e g.1) (f.0.0, f.0.1, v, tag_test f.0.0 g.0)
    | inr g ↦ absurd (let w = g.1 in cc)
  ]
]

pub entry_fault : (bytes : List ℕ) (e : WireWhy) → field_at bytes ≡ Err e → Faults e bytes
unfolding field_at
entry_fault bytes e h = elim (bind_err (tag_at bytes) (λ tag. part_at (tag.0 % 8) tag.1 >>= λ part. Ok (record { number = tag.0 / 8; part = part.0 }, part.1)) e h) [
  | inl f ↦ tag_fault bytes e f
  | inr f ↦ elim (bind_err (part_at (f.0.0 % 8) f.0.1) (λ part. Ok (record { number = f.0.0 / 8; part = part.0 }, part.1)) e f.2) [
    | inl g ↦ part_fault f.0.0 f.0.1 bytes e (tag_sound bytes f.0 f.1) g
    | inr g ↦ absurd (let w = g.2 in cc)
  ]
]

-- ---- from the table to the reader

after_tag_read : (tag : ℕ) (rest bytes : List ℕ) → AfterTag tag rest bytes → tag_at bytes ≡ Ok (tag, rest)
after_tag_read tag rest bytes a = ap tag_at a.begins.2 ∙ tag_spelled tag a.begins.0 rest a.begins.1 a.low a.numbered

part_fails : (tag : ℕ) (rest bytes : List ℕ) (e : WireWhy) → AfterTag tag rest bytes → part_at (tag % 8) rest ≡ Err e → field_at bytes ≡ Err e
unfolding field_at
part_fails tag rest bytes e after h =
    ap (λ (r : Result (ℕ × List ℕ) WireWhy). r >>= λ t. part_at (t.0 % 8) t.1 >>= λ part. Ok (record { number = t.0 / 8; part = part.0 }, part.1)) (after_tag_read tag rest bytes after)
    ∙ ap (λ (r : Result (Part × List ℕ) WireWhy). r >>= λ part. Ok (record { number = tag / 8; part = part.0 }, part.1)) h

tag_fails : (bytes : List ℕ) (e : WireWhy) → tag_at bytes ≡ Err e → field_at bytes ≡ Err e
unfolding field_at
tag_fails bytes e h = ap (λ (r : Result (ℕ × List ℕ) WireWhy). r >>= λ t. part_at (t.0 % 8) t.1 >>= λ part. Ok (record { number = t.0 / 8; part = part.0 }, part.1)) h

abbrev Test : ℕ × List ℕ → Result (ℕ × List ℕ) WireWhy
Test t = cond (leb (2 ^ 32) t.0 || ltb t.0 8) (Err why.Tag) (Ok t)

no_tag : (bytes : List ℕ) (e : WireWhy) → varint_at bytes ≡ Err e → tag_at bytes ≡ Err e
unfolding tag_at
no_tag bytes e h = ap (λ (r : Result (ℕ × List ℕ) WireWhy). r >>= Test) h

bad_tag : (tag : ℕ) (rest bytes : List ℕ) → Begins tag rest bytes → (tag < 8) ⊎ (2 ^ 32 ≤ tag) → tag_at bytes ≡ Err why.Tag
unfolding tag_at
bad_tag tag rest bytes b bad =
    ap (λ (r : Result (ℕ × List ℕ) WireWhy). r >>= Test) (begins_read tag rest bytes b)
    ∙ ap (λ (t : Bool). cond t (Err why.Tag) (Ok (tag, rest))) (test bad)
  where
    high : (m : ℕ) → 2 ^ 32 ≤ m → leb (2 ^ 32) m ≡ true
    high m le = grind (arith, nat_tests)

    either : (a : Bool) → (a || true) ≡ true
    either true = refl
    either false = refl

    test : (tag < 8) ⊎ (2 ^ 32 ≤ tag) → (leb (2 ^ 32) tag || ltb tag 8) ≡ true
    test (inl lt) = ap (λ (t : Bool). leb (2 ^ 32) tag || t) (lt-ltb tag 8 lt) ∙ either (leb (2 ^ 32) tag)
    test (inr le) = ap (λ (t : Bool). t || ltb tag 8) (high tag le)

number_fails : (kind : ℕ) (rest : List ℕ) (e : WireWhy) → (kind ≡ 0) ⊎ (kind ≡ 2) → varint_at rest ≡ Err e → part_at kind rest ≡ Err e
unfolding part_at
number_fails kind rest e (inl k) h = ap (λ (n : ℕ). part_at n rest) k ∙ ap (λ (r : Result (ℕ × List ℕ) WireWhy). r >>= λ n. Ok (Number n.0, n.1)) h
number_fails kind rest e (inr k) h = ap (λ (n : ℕ). part_at n rest) k ∙ ap (λ (r : Result (ℕ × List ℕ) WireWhy). r >>= λ n. bytes_at n.0 n.1 >>= λ p. Ok (Payload p.0, p.1)) h

varint_place : (rest bytes : List ℕ) (e : WireWhy) → VarintAt rest bytes → varint_at rest ≡ Err e → field_at bytes ≡ Err e
varint_place rest bytes e (inl same) h = tag_fails bytes e (no_tag bytes e (ap varint_at (sym same) ∙ h))
varint_place rest bytes e (inr t) h = part_fails t.0 rest bytes e t.1 (number_fails (t.0 % 8) rest e t.2 h)

too_few : (n : ℕ) (rest : List ℕ) → length rest < n → bytes_at n rest ≡ Err why.CutShort
too_few n rest lt = ap (λ (t : Bool). cond t (Err why.CutShort) (Ok (take n rest, drop n rest))) (lt-ltb (length rest) n lt)

eight_fails : (kind : ℕ) (rest : List ℕ) → kind ≡ 1 → length rest < 8 → part_at kind rest ≡ Err why.CutShort
unfolding part_at
eight_fails kind rest k lt = ap (λ (n : ℕ). part_at n rest) k ∙ ap (λ (r : Result (List ℕ × List ℕ) WireWhy). r >>= λ p. Ok (Eight p.0, p.1)) (too_few 8 rest lt)

four_fails : (kind : ℕ) (rest : List ℕ) → kind ≡ 5 → length rest < 4 → part_at kind rest ≡ Err why.CutShort
unfolding part_at
four_fails kind rest k lt = ap (λ (n : ℕ). part_at n rest) k ∙ ap (λ (r : Result (List ℕ × List ℕ) WireWhy). r >>= λ p. Ok (Four p.0, p.1)) (too_few 4 rest lt)

payload_fails : (kind n : ℕ) (rest len : List ℕ) → kind ≡ 2 → Begins n rest len → length rest < n → part_at kind len ≡ Err why.CutShort
unfolding part_at
payload_fails kind n rest len k b lt =
    ap (λ (m : ℕ). part_at m len) k
    ∙ ap (λ (r : Result (ℕ × List ℕ) WireWhy). r >>= λ m. bytes_at m.0 m.1 >>= λ p. Ok (Payload p.0, p.1)) (begins_read n rest len b)
    ∙ ap (λ (r : Result (List ℕ × List ℕ) WireWhy). r >>= λ p. Ok (Payload p.0, p.1)) (too_few n rest lt)

bytes_place : (n : ℕ) (rest bytes : List ℕ) → BytesAt n rest bytes → length rest < n → field_at bytes ≡ Err why.CutShort
bytes_place n rest bytes (inl t) lt = elim t.2 [
  | inl k ↦ part_fails t.0 rest bytes why.CutShort t.1 (eight_fails (t.0 % 8) rest k.0 (omega (arith, k.1, lt)))
  | inr k ↦ part_fails t.0 rest bytes why.CutShort t.1 (four_fails (t.0 % 8) rest k.0 (omega (arith, k.1, lt)))
]
bytes_place n rest bytes (inr t) lt = part_fails t.0 t.1 bytes why.CutShort t.2 (payload_fails (t.0 % 8) n rest t.1 t.3 t.4 lt)

other_type : (kind : ℕ) (rest : List ℕ) → kind ≢ 0 → kind ≢ 1 → kind ≢ 2 → kind ≢ 5 → part_at kind rest ≡ Err why.WireType
unfolding part_at
other_type kind rest a b c d = rw (no kind 0 a, no kind 1 b, no kind 2 c, no kind 5 d) refl
  where
    no : (m k : ℕ) → m ≢ k → eqb m k ≡ false
    no m k h = grind (arith, nat_tests)

pub fault_entry : (bytes : List ℕ) (e : WireWhy) → Faults e bytes → field_at bytes ≡ Err e
fault_entry bytes why.Varint f = varint_place f.0 bytes why.Varint f.1 (no_varint_read f.0 why.Varint f.2 (inl (refl, f.3)))
fault_entry bytes why.Tag f = tag_fails bytes why.Tag (bad_tag f.0 f.1 bytes f.2 f.3)
fault_entry bytes why.WireType f = part_fails f.0 f.1 bytes why.WireType f.2 (other_type (f.0 % 8) f.1 f.3 f.4 f.5 f.6)
fault_entry bytes why.CutShort (inl f) = varint_place f.0 bytes why.CutShort f.1 (no_varint_read f.0 why.CutShort f.2 (inr (refl, f.3)))
fault_entry bytes why.CutShort (inr f) = bytes_place f.0 f.1 bytes f.2 f.3

pub one_fault : (bytes : List ℕ) (d e : WireWhy) → Faults d bytes → Faults e bytes → d ≡ e
one_fault bytes d e f g = err_is d e (sym (fault_entry bytes d f) ∙ fault_entry bytes e g)

pub nothing_spelled : (bytes : List ℕ) (e : WireWhy) → Faults e bytes → (entry : WireField) (first rest : List ℕ) → Spells entry first → bytes ≡ first ++ rest → ⊥
nothing_spelled bytes e f entry first rest s is =
    let r = sym (entry_spelled entry first rest s) ∙ ap field_at (sym is) ∙ fault_entry bytes e f in absurd cc
