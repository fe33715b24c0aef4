-- A prefix of a rest that is unbroken, unfinished, whole or broken.
use Rattle.std.proofs.Common.{◌≡◌, ℕ, ◌<◌, List, ◌++◌, length, ap, ◌∙◌, arith, length-append, append_assoc}
use Rattle.envelope.specs.declared.kind.FrameKind.{FrameKind}
use Rattle.envelope.specs.declared.kind.Part.{Part}
use Rattle.envelope.specs.Grammar.{Item, IsItem, spelling, IsUnbroken, BreaksFirst, IsUnfinished, BeginsFrame}
use Rattle.envelope.specs.Head.{IsWhole}
use Rattle.envelope.specs.facts.Breaking.{Breaks-longer}
use Rattle.envelope.specs.facts.Frames.{begins_with, BeginsWith, length-spelling, broken_rest}

pub prefix_unbroken : (kind : FrameKind) (prefix back : List ℕ) → IsUnbroken kind (prefix ++ back) → IsUnbroken kind prefix
unfolding IsUnbroken
prefix_unbroken kind prefix back h why at b = h why at (Breaks-longer kind prefix back why at b)

front_begins : (kind : FrameKind) (prefix back : List ℕ) → BeginsFrame kind prefix → BeginsFrame kind (prefix ++ back)
front_begins kind prefix back b = (b.0, b.1 ++ back, b.2, ap (λ (x : List ℕ). x ++ back) b.3 ∙ append_assoc (spelling kind b.0) b.1 back)

pub front_unfinished : (kind : FrameKind) (prefix back : List ℕ) → IsUnfinished kind (prefix ++ back) → IsUnfinished kind prefix
front_unfinished kind prefix back h = record {
  unbroken = prefix_unbroken kind prefix back h.unbroken;
  frameless = λ b. h.frameless (front_begins kind prefix back b);
}

whole_no_less : (kind : FrameKind) (bytes : List ℕ) (i : Item kind) (more : List ℕ) → IsWhole kind bytes → IsItem kind i → bytes ≡ spelling kind i ++ more
    → length bytes ≡ length (spelling kind i)
unfolding IsWhole
whole_no_less kind bytes i more whole good e =
    let b : BeginsWith kind bytes i = rw e (begins_with kind i more good) in
    omega (arith, whole.1, b.text_is, b.body_is, length-spelling kind i)

pub whole_unfinished : (kind : FrameKind) (prefix back : List ℕ) → 0 < length back → IsUnbroken kind (prefix ++ back) → IsWhole kind (prefix ++ back)
    → IsUnfinished kind prefix
unfolding front_begins
whole_unfinished kind prefix back some unbroken whole = record {
  unbroken = prefix_unbroken kind prefix back unbroken;
  frameless = λ b.
      let e = (front_begins kind prefix back b).3 in
      let n = whole_no_less kind (prefix ++ back) b.0 (b.1 ++ back) whole b.2 e in
      omega (arith, n, length-append prefix back, ap length b.3, length-append (spelling kind b.0) b.1);
}

pub broken_unfinished : (kind : FrameKind) (prefix back : List ℕ) (why : Part) (at : ℕ) → IsUnbroken kind prefix → BreaksFirst kind (prefix ++ back) why at
    → IsUnfinished kind prefix
broken_unfinished kind prefix back why at unbroken h = record {
  unbroken = unbroken;
  frameless = λ b. broken_rest kind (prefix ++ back) why at h (front_begins kind prefix back b);
}
