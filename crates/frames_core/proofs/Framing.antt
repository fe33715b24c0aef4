-- The consequences of a framer's invariant.
use Rattle.std.proofs.Common.{◌-◌, ◌++◌, ◌≡◌, ℕ, ◌+◌, ◌<◌, ◌^◌, List, [], length, take, Option, Some, None, refl, sym, ap, subst, ◌∙◌, arith, length-append, inl, inr, ◌⊎◌}
use Rattle.std.specs.Prelude.{Bool, IsTrue, false}
use Rattle.std.proofs.lemmas.List.{length-take}
use Rattle.envelope.specs.declared.kind.FrameKind.{FrameKind}
use Rattle.envelope.specs.declared.kind.Part.{Part}
use Rattle.envelope.specs.declared.kind.Part.TheVariants.{Missing}
use Rattle.envelope.specs.declared.head.Flaw.{Flaw}
use Rattle.frames_core.specs.declared.prefix.Prefix.{Prefix}
use Rattle.envelope.specs.Grammar.{BreaksFirst, FaultAt, IsUnbroken, IsUnfinished, BeginsFrame, IsFrame}
use Rattle.envelope.specs.Head.{IsShort, IsWhole, most_frame}
use Rattle.frames_core.specs.Prefix.{TakesPrefix, Stands}
use Rattle.frames_core.specs.Holding.{Holds, IsBreakIn, Marks}
use Rattle.frames_core.specs.facts.Feeding.{none_some}
use Rattle.envelope.specs.facts.Breaking.{BreaksFirst-longer, nil_unbroken}
use Rattle.envelope.specs.facts.Frames.{IsBytes, fault_of_break, fault_no_frame, frame_begins, is_unfinished, nil_short, short_room, whole_frame}

pub empty_holds : {F : Type 0} (kind : FrameKind) (part : F → Part) (at : F → ℕ) (past : ℕ) → past < 2 ^ 63 → Holds kind part at past [] None
empty_holds kind part at past few = record { few = omega arith; faults = (nil_unbroken kind, inl (nil_short kind)) }

-- a whole frame leaves no fault
pub known_none : {F : Type 0} (kind : FrameKind) (part : F → Part) (at : F → ℕ) (past : ℕ) (held : List ℕ) (known : Option F) → Holds kind part at past held known → BeginsFrame kind held → known ≡ None
known_none kind part at past held None h b = refl
known_none kind part at past held (Some f) h b = absurd (fault_no_frame kind held (part f) (at f - past) h.faults.1 b)

pub frame_of : (kind : FrameKind) (held : List ℕ) → IsFrame kind held → BeginsFrame kind held
frame_of kind held f = frame_begins kind held f.0 f.1 f.2

-- the fault that a byte makes known
pub holds_broken : {F : Type 0} (kind : FrameKind) (part : F → Part) (at : F → ℕ) (past : ℕ) (held : List ℕ) (f : F) (place : ℕ) → past + length held < 2 ^ 63 → BreaksFirst kind held (part f) place → at f ≡ past + place → Holds kind part at past held (Some f)
holds_broken kind part at past held f place few h is = record {
  few = few;
  faults = (omega arith, subst (λ (k : ℕ). FaultAt kind held (part f) k) (let same : place ≡ at f - past = omega arith in same) (fault_of_break kind held (part f) place h));
}

pub given_up : {F : Type 0} (kind : FrameKind) (part : F → Part) (at : F → ℕ) (past : ℕ) (held : List ℕ) (known : Option F) → Holds kind part at past held known → IsFrame kind held → Holds kind part at (past + length held) [] known × (known ≡ None)
given_up {F} kind part at past held known h f =
    let e = known_none kind part at past held known h (frame_of kind held f) in
    (subst (λ (k : Option F). Holds kind part at (past + length held) [] k) (sym e) (empty_holds kind part at (past + length held) h.few), e)

pub none_unfinished : (kind : FrameKind) (held : List ℕ) → held ≡ [] → IsUnfinished kind held
none_unfinished kind held none = subst (IsUnfinished kind) (sym none) (is_unfinished kind [] (nil_unbroken kind) (nil_short kind))

-- a fault stays a fault, whichever bytes follow
pub known_break : (kind : FrameKind) (past : ℕ) (held : List ℕ) (part : Part) (place at : ℕ) → BreaksFirst kind held part place → at ≡ past + place → IsBreakIn kind past held part at
known_break kind past held part place at h is =
    let same : place ≡ at - past = omega arith in
    (omega arith, λ more. subst (λ (k : ℕ). BreaksFirst kind (held ++ more) part k) same (BreaksFirst-longer kind held more part place h))

-- ---- whether a whole frame is held

-- if the mark is false, no frame begins
pub unmarked : {F : Type 0} (kind : FrameKind) (part : F → Part) (at : F → ℕ) (past : ℕ) (held : List ℕ) (known : Option F)
    (mark : Bool) → Holds kind part at past held known → Marks kind held known mark → mark ≡ false
    → BeginsFrame kind held → ⊥
unmarked kind part at past held None mark h m off b =
    (is_unfinished kind held h.faults.0 (m.short off refl)).frameless b
unmarked kind part at past held (Some f) mark h m off b =
    fault_no_frame kind held (part f) (at f - past) h.faults.1 b

-- if the mark is true, the bytes are a frame
pub marked : {F : Type 0} (kind : FrameKind) (part : F → Part) (at : F → ℕ) (past : ℕ) (held : List ℕ) (known : Option F)
    (mark : Bool) → Holds kind part at past held known → Marks kind held known mark → IsTrue mark
    → IsBytes held → IsFrame kind held
marked kind part at past held None mark h m on fits = whole_frame kind held fits h.faults.0 (m.whole on).1
marked kind part at past held (Some f) mark h m on fits = let none = (m.whole on).0 in absurd cc

pub nothing_marked : {F : Type 0} (kind : FrameKind) (known : Option F) → Marks kind [] known false
nothing_marked kind known = record { whole = λ on. absurd cc; short = λ off none. nil_short kind }

-- a fault leaves no whole frame
pub fault_unmarked : {F G : Type 0} (kind : FrameKind) (held : List ℕ) (flaw : Option F) (f : F) (g : G) (mark : Bool)
    → flaw ≡ Some f → Marks kind held flaw mark → Marks kind held (Some g) mark
fault_unmarked kind held flaw f g mark is m = record {
  whole = λ on. let none = sym is ∙ (m.whole on).0 in absurd cc;
  short = λ off none. absurd cc;
}

-- an early end of the input leaves no whole frame, because the bytes were short of one
pub cut_unmarked : {F : Type 0} (kind : FrameKind) (held : List ℕ) (known : Option F) (g : F) (mark : Bool)
    → IsShort kind held → Marks kind held known mark → Marks kind held (Some g) mark
unfolding IsShort IsWhole
cut_unmarked kind held known g mark short m = record {
  whole = λ on. let w = (m.whole on).1 in absurd (short w.0 (omega (arith, w.1)));
  short = λ off none. absurd cc;
}

-- the fault of an input that ends at this place
pub holds_cut : {F : Type 0} (kind : FrameKind) (part : F → Part) (at : F → ℕ) (past : ℕ) (held : List ℕ) (f : F)
    → past + length held < 2 ^ 63 → (held ≡ [] → ⊥) → IsUnbroken kind held → IsShort kind held
    → part f ≡ Missing → at f ≡ past + length held → Holds kind part at past held (Some f)
holds_cut kind part at past held f few some unbroken short missing is = record {
  few = few;
  faults = (
    omega arith,
    subst (λ (p : Part). FaultAt kind held p (at f - past)) (sym missing)
        (omega arith, (some, is_unfinished kind held unbroken short)),
  );
}

-- bytes that may yet become a frame are fewer than the bytes of the longest frame
pub open_few : (kind : FrameKind) (held : List ℕ) → IsBytes held → IsUnbroken kind held × (IsShort kind held ⊎ IsWhole kind held) → IsUnfinished kind held → length held < most_frame kind
open_few kind held fits stands open_ = elim stands.1 [
  | inl short ↦ short_room kind held stands.0 short
  | inr whole ↦ absurd (open_.frameless (frame_of kind held (whole_frame kind held fits stands.0 whole)))
]

-- ---- bytes taken from a piece

-- the number of bytes after the piece was taken
pub few_then : (kind : FrameKind) (past : ℕ) (old piece new : List ℕ) (prefix : Prefix) → past + length old + length piece < 2 ^ 63 → TakesPrefix kind old piece new prefix → past + length new < 2 ^ 63
few_then kind past old piece new prefix room t = omega (arith, ap length t.held, length-append old (take prefix.count piece), length-take prefix.count piece)

pub breaks_then : (kind : FrameKind) (old piece new : List ℕ) (prefix : Prefix) (f : Flaw) → TakesPrefix kind old piece new prefix → prefix.flaw ≡ Some f → BreaksFirst kind new f.part f.at
breaks_then kind old piece new prefix f t e = let P : Option Flaw → Type 0 = λ o. Stands kind new o in subst P e t.stands

-- the break of the last byte that was taken, for one kind under two names
pub record Broke (kind : FrameKind) (past : ℕ) (new : List ℕ) (f : Flaw) : Type 0 where
  pub few : past + length new < 2 ^ 63
  pub breaks : BreaksFirst kind new f.part f.at

pub broke : (k kind : FrameKind) (past : ℕ) (old piece new : List ℕ) (prefix : Prefix) (f : Flaw) → k ≡ kind → past + length old + length piece < 2 ^ 63 → TakesPrefix k old piece new prefix → prefix.flaw ≡ Some f → Broke kind past new f
broke k kind past old piece new prefix f same room t e =
    let taken = subst (λ (k : FrameKind). TakesPrefix k old piece new prefix) same t in
    record { few = few_then kind past old piece new prefix room taken; breaks = breaks_then kind old piece new prefix f taken e }

-- a whole prefix is a frame
pub settled_whole : (kind : FrameKind) (old piece new : List ℕ) (prefix : Prefix) → TakesPrefix kind old piece new prefix → prefix.flaw ≡ None → IsBytes new → prefix.count < length piece → IsFrame kind new
settled_whole kind old piece new prefix t e fits less =
    let P : Option Flaw → Type 0 = λ o. Stands kind new o in
    let stands = subst P e t.stands in
    elim (t.all less) [
      | inl whole ↦ whole_frame kind new fits stands.0 whole
      | inr some ↦ absurd (none_some prefix.flaw e some)
    ]

-- the mark that was made, for one kind under two names
pub marks_then : (k kind : FrameKind) (old piece new : List ℕ) (prefix : Prefix) → k ≡ kind
    → TakesPrefix k old piece new prefix → Marks kind new prefix.flaw prefix.whole
marks_then k kind old piece new prefix same t =
    (subst (λ (k : FrameKind). TakesPrefix k old piece new prefix) same t).marks
