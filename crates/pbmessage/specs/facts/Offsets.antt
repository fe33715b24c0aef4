-- Reading stops at the end of the longest good prefix.
use Rattle.std.proofs.Common.{true, false, ltb, ◌≡◌, ◌≢◌, ℕ, ◌+◌, ◌-◌, ◌<◌, ◌≤◌, List, [], ◌∷◌, ◌++◌, length, take, drop, Ok, refl, sym, ap, subst}
use Rattle.std.proofs.Common.{◌∙◌, append_assoc, length-append, arith}
use Rattle.std.specs.List.{AllByRecursion}
use Rattle.std.proofs.lemmas.List.{append-nil, take_at, take-append-drop, length-take-le}
use Rattle.std.proofs.lemmas.Bool.{ltb-true, ltb-false}
use Rattle.std.proofs.Math.Seq.{take-append-add}
use Rattle.pbwire.specs.Wire.{WireField}
use Rattle.pbwire.specs.Reading.{field_at}
use Rattle.pbmessage.specs.Fields.{AreGood, IsFaultOffset, IsRefusedAt}
use Rattle.pbmessage.specs.facts.Laws.{FieldLaws}
use Rattle.pbmessage.specs.facts.Fields.{Reads, same_read, nothing_read, are_read, read_are}

-- good fields are a prefix, and the bytes after them begin with no good field
pub record Stops (good : WireField → Type 0) (bytes : List ℕ) (at : ℕ) : Type 0 where
  pub fields : List WireField
  pub rest : List ℕ
  pub prefix : Reads fields bytes rest
  pub each : AllByRecursion good fields
  pub offset : at + length rest ≡ length bytes
  pub more : rest ≢ []
  pub bad : (e : WireField) (mid : List ℕ) → field_at rest ≡ Ok (e, mid) → good e → ⊥

-- the bytes read are a prefix, whichever bytes follow
prefix_of : FieldLaws → (fs : List WireField) (bytes rest : List ℕ) → Reads fs bytes rest → (prefix : List ℕ) × (bytes ≡ prefix ++ rest)
    × ((tail : List ℕ) → Reads fs (prefix ++ tail) tail)
prefix_of l [] bytes rest r = ([], r, λ tail. refl)
prefix_of l (f ∷ fs) bytes rest r =
    let s = (l.exactly bytes r.0 f).0 r.1 in
    let o = prefix_of l fs r.0 rest r.2 in (
      s.0 ++ o.0,
      s.2 ∙ ap (λ (bs : List ℕ). s.0 ++ bs) o.1 ∙ sym (append_assoc s.0 o.0 rest),
      λ tail. (o.0 ++ tail, (l.exactly ((s.0 ++ o.0) ++ tail) (o.0 ++ tail) f).1 (s.0, s.1, append_assoc s.0 o.0 tail), o.2 tail),
    )

-- after the fields fs a good list goes on with a good field, unless it ends there
go_on : (good : WireField → Type 0) (fs gs : List WireField) (bytes rest : List ℕ) → Reads fs bytes rest → Reads gs bytes [] → AllByRecursion good gs
    → rest ≢ [] → (e : WireField) × (mid : List ℕ) × (field_at rest ≡ Ok (e, mid)) × good e
go_on good [] [] bytes rest r g a more = absurd (more (sym r ∙ g))
go_on good [] (h ∷ hs) bytes rest r g a more = (h, g.0, ap field_at (sym r) ∙ g.1, a.0)
go_on good (f ∷ fs) [] bytes rest r g a more = absurd (nothing_read bytes (f, r.0) g r.1)
go_on good (f ∷ fs) (h ∷ hs) bytes rest r g a more =
    go_on good fs hs r.0 rest r.2 (subst (λ (b : List ℕ). Reads hs b [])
    (ap (λ (p : WireField × List ℕ). p.1) (same_read (h, g.0) (f, r.0) (sym g.1 ∙ r.1))) g.2) a.1 more

take_longer : (n : ℕ) (a b : List ℕ) → length a ≤ n → take n (a ++ b) ≡ a ++ take (n - length a) b
take_longer n a b le = let k : n ≡ length a + (n - length a) = omega arith in ap (λ (m : ℕ). take m (a ++ b)) k ∙ take-append-add a b (n - length a)

pub is_offset : FieldLaws → (good : WireField → Type 0) (bytes : List ℕ) (at : ℕ) → Stops good bytes at → IsFaultOffset good bytes at
is_offset l good bytes at s =
    let f = prefix_of l s.fields bytes s.rest s.prefix in
    let p = s.offset in
    let len : at ≡ length f.0 = omega (arith, ap length f.1, length-append f.0 s.rest) in
    let cut : take at bytes ≡ f.0 = ap (take at) f.1 ∙ take_at f.0 s.rest at (sym len) in
    record {
      within = omega arith;
      prefix = record {
        fields = s.fields;
        whole = read_are l s.fields (take at bytes)
            (subst (λ (b : List ℕ). Reads s.fields b []) (append-nil f.0 ∙ sym cut) (f.2 []));
        each = s.each;
      };
      longest = λ n lt le g.
          let tail : List ℕ = take (n - length f.0) s.rest in
          let longer : take n bytes ≡ f.0 ++ take (n - length f.0) s.rest = ap (take n) f.1 ∙ take_longer n f.0 s.rest (omega arith) in
          let some : length (take (n - length f.0) s.rest) ≡ n - length f.0 =
          length-take-le (n - length f.0) s.rest (omega (arith, ap length f.1, length-append f.0 s.rest)) in
          let more : take (n - length f.0) s.rest ≢ [] = λ e. not_nil (n - length f.0) (take (n - length f.0) s.rest) some (omega arith) e in
          let whole = subst (λ (b : List ℕ). Reads g.fields b []) longer (are_read l g.fields (take n bytes) g.whole) in
          let next =
          go_on good s.fields g.fields (f.0 ++ take (n - length f.0) s.rest) (take (n - length f.0) s.rest)
          (f.2 (take (n - length f.0) s.rest)) whole g.each more in
          let spelled = (l.exactly (take (n - length f.0) s.rest) next.1 next.0).0 next.2 in
          let rest : s.rest ≡ spelled.0 ++ (next.1 ++ drop (n - length f.0) s.rest) =
          sym (take-append-drop (n - length f.0) s.rest)
          ∙ ap (λ (bs : List ℕ). bs ++ drop (n - length f.0) s.rest) spelled.2
          ∙ append_assoc spelled.0 next.1 (drop (n - length f.0) s.rest) in
          s.bad next.0 (next.1 ++ drop (n - length f.0) s.rest)
          ((l.exactly s.rest (next.1 ++ drop (n - length f.0) s.rest) next.0).1 (spelled.0, spelled.1, rest)) next.3;
    }
  where
    not_nil : (n : ℕ) (l : List ℕ) → length l ≡ n → 0 < n → l ≡ [] → ⊥
    not_nil n l len lt e = let z : length l ≡ 0 = ap length e in omega arith

-- bytes in which reading stops are not good
pub not_both : FieldLaws → (good : WireField → Type 0) (bytes : List ℕ) (at : ℕ) → Stops good bytes at → AreGood good bytes → ⊥
not_both l good bytes at s g = from s.fields bytes s.prefix g.fields (are_read l g.fields bytes g.whole) g.each
  where
    from : (fs : List WireField) (bytes : List ℕ) → Reads fs bytes s.rest → (gs : List WireField) → Reads gs bytes [] → AllByRecursion good gs → ⊥
    from [] bytes r [] w e = s.more (sym r ∙ w)
    from [] bytes r (h ∷ hs) w e = s.bad h w.0 (ap field_at (sym r) ∙ w.1) e.0
    from (f ∷ fs) bytes r [] w e = nothing_read bytes (f, r.0) w r.1
    from (f ∷ fs) bytes r (h ∷ hs) w e =
        from fs r.0 r.2 hs (subst (λ (b : List ℕ). Reads hs b []) (ap (λ (p : WireField × List ℕ). p.1) (same_read (h, w.0) (f, r.0) (sym w.1 ∙ r.1))) w.2) e.1

pub refused : FieldLaws → (good : WireField → Type 0) (bytes : List ℕ) (at : ℕ) → Stops good bytes at → IsRefusedAt good bytes at
refused l good bytes at s = (is_offset l good bytes at s, not_both l good bytes at s)

-- there is only one offset
pub same_offset : {good : WireField → Type 0} {bytes : List ℕ} {a b : ℕ} → IsFaultOffset good bytes a → IsFaultOffset good bytes b → a ≡ b
same_offset {a = a} {b = b} p q = elim (ltb a b) as (λ t. ltb a b ≡ t → a ≡ b) [
  | true ↦ λ e. absurd (p.longest b (ltb-true a b e) q.within q.prefix)
  | false ↦ λ e. elim (ltb b a) as (λ t. ltb b a ≡ t → a ≡ b) [
    | true ↦ λ f. absurd (q.longest a (ltb-true b a f) p.within p.prefix)
    | false ↦ λ f. let x : b ≤ a = ltb-false a b e in let y : a ≤ b = ltb-false b a f in omega arith
  ] refl
] refl
