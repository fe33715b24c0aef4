-- A break of a prefix of a stream is a break of the longer stream, and the other way round once it is seen.
use Rattle.std.proofs.Common.{◌≡◌, ℕ, ◌+◌, ◌-◌, ◌<◌, ◌≤◌, List, [], ◌++◌, length, take, drop, get_or, refl, sym, ap, ◌∙◌, arith, length-append, inl}
use Rattle.std.proofs.Common.{inr, true, false}
use Rattle.std.proofs.lemmas.List.{get_or_append_left, take-append-drop, length-take}
use Rattle.std.proofs.lemmas.Bool.{cases_lt}
use Rattle.envelope.specs.declared.kind.FrameKind.{FrameKind}
use Rattle.envelope.specs.declared.kind.Part.{Part}
use Rattle.envelope.specs.declared.kind.Part.TheVariants.{Status, TextLength, Text, Flag, BodyLength, Missing}
use Rattle.envelope.specs.Envelope.{is_status}
use Rattle.envelope.specs.Grammar.{lead, least_text, most_text, most_body, IsGoodByte, text_length, body_length, Breaks, IsUnbroken, BreaksFirst}

-- how many bytes must have come for a break to be seen
abbrev pub seen : FrameKind → Part → ℕ → ℕ
seen kind Status at = 1
seen kind TextLength at = lead kind + 2
seen kind Text at = at + 1
seen kind Flag at = at + 1
seen kind BodyLength at = at + 4
seen kind Missing at = 0

pub text_length-append : (kind : FrameKind) (bytes more : List ℕ) → lead kind + 2 ≤ length bytes → text_length kind (bytes ++ more) ≡ text_length kind bytes
unfolding text_length
text_length-append kind bytes more two =
    let zero-th = get_or_append_left bytes more 0 (lead kind) (omega arith) in
    let first = get_or_append_left bytes more 0 (lead kind + 1) (omega arith) in
    rw (zero-th, first) refl

pub body_length-append : (kind : FrameKind) (bytes more : List ℕ) → lead kind + 2 ≤ length bytes → lead kind + 7 + text_length kind bytes ≤ length bytes
    → body_length kind (bytes ++ more) ≡ body_length kind bytes
unfolding body_length
body_length-append kind bytes more two all =
    let at = lead kind + 3 + text_length kind bytes in
    let e = text_length-append kind bytes more two in
    let a = get_or_append_left bytes more 0 at (omega arith) in
    let b = get_or_append_left bytes more 0 (at + 1) (omega arith) in
    let c = get_or_append_left bytes more 0 (at + 2) (omega arith) in
    let d = get_or_append_left bytes more 0 (at + 3) (omega arith) in
    rw (e, a, b, c, d) refl

pub Breaks-seen : (kind : FrameKind) (bytes : List ℕ) (part : Part) (at : ℕ) → Breaks kind bytes part at → seen kind part at ≤ length bytes
unfolding Breaks
Breaks-seen kind bytes Status at h = omega (arith, h.1.1)
Breaks-seen kind bytes TextLength at h = h.1
Breaks-seen kind bytes Text at h = omega (arith, h.2)
Breaks-seen kind bytes Flag at h = omega (arith, h.1)
Breaks-seen kind bytes BodyLength at h = h.1
Breaks-seen kind bytes Missing at h = absurd h

pub Breaks-longer : (kind : FrameKind) (bytes more : List ℕ) (part : Part) (at : ℕ) → Breaks kind bytes part at → Breaks kind (bytes ++ more) part at
unfolding Breaks
Breaks-longer kind bytes more Status at h =
    let first = get_or_append_left bytes more 0 0 h.1.1 in
    (h.0, (h.1.0, omega (arith, h.1.1, length-append bytes more), ap is_status first ∙ h.1.2))
Breaks-longer kind bytes more TextLength at h =
    let first = get_or_append_left bytes more 0 0 (omega (arith, h.1)) in
    let t = text_length-append kind bytes more h.1 in
    let long = ap (most_text kind) first in
    (h.0, omega (arith, h.1, length-append bytes more), elim h.2 [ inl less ↦ inl (omega arith) | inr above ↦ inr (omega arith) ])
Breaks-longer kind bytes more Text at h =
    let t = text_length-append kind bytes more (omega (arith, h.0, h.2)) in
    (h.0, omega (arith, h.1), omega (arith, h.2, length-append bytes more), rw (get_or_append_left bytes more 0 at h.2) h.3)
Breaks-longer kind bytes more Flag at h =
    let t = text_length-append kind bytes more (omega (arith, h.0, h.1)) in
    (omega (arith, h.0), omega (arith, h.1, length-append bytes more), rw (get_or_append_left bytes more 0 at h.1) h.2)
Breaks-longer kind bytes more BodyLength at h =
    let first = get_or_append_left bytes more 0 0 (omega (arith, h.1)) in
    let t = text_length-append kind bytes more (omega (arith, h.0, h.1)) in
    let b = body_length-append kind bytes more (omega (arith, h.0, h.1)) (omega (arith, h.0, h.1)) in
    let long = ap (most_body kind) first in
    (omega (arith, h.0), omega (arith, h.1, length-append bytes more), omega (arith, h.2))
Breaks-longer kind bytes more Missing at h = absurd h

pub Breaks-shorter : (kind : FrameKind) (bytes more : List ℕ) (part : Part) (at : ℕ) → Breaks kind (bytes ++ more) part at
    → seen kind part at ≤ length bytes → Breaks kind bytes part at
unfolding Breaks
Breaks-shorter kind bytes more Status at h s =
    let first = get_or_append_left bytes more 0 0 (omega arith) in
    (h.0, (h.1.0, omega arith, sym (ap is_status first) ∙ h.1.2))
Breaks-shorter kind bytes more TextLength at h s =
    let first = get_or_append_left bytes more 0 0 (omega arith) in
    let t = text_length-append kind bytes more s in
    let long = ap (most_text kind) first in
    (h.0, s, elim h.2 [ inl less ↦ inl (omega arith) | inr above ↦ inr (omega arith) ])
Breaks-shorter kind bytes more Text at h s =
    let t = text_length-append kind bytes more (omega (arith, h.0)) in
    (h.0, omega (arith, h.1), omega arith, rw (get_or_append_left bytes more 0 at (omega arith)) at h.3)
Breaks-shorter kind bytes more Flag at h s =
    let two : lead kind + 2 ≤ length bytes = omega (arith, h.0) in
    let t = text_length-append kind bytes more two in
    (omega (arith, h.0), omega arith, rw (get_or_append_left bytes more 0 at (omega arith)) at h.2)
Breaks-shorter kind bytes more BodyLength at h s =
    let two : lead kind + 2 ≤ length bytes = omega (arith, h.0) in
    let first = get_or_append_left bytes more 0 0 (omega arith) in
    let t = text_length-append kind bytes more two in
    let b = body_length-append kind bytes more two (omega (arith, h.0)) in
    let long = ap (most_body kind) first in
    (omega (arith, h.0), s, omega (arith, h.2))
Breaks-shorter kind bytes more Missing at h s = absurd h

-- a break that the prefix doesn't have is seen with the last byte
pub Breaks_last : (kind : FrameKind) (bytes : List ℕ) (part : Part) (at : ℕ) → 0 < length bytes → IsUnbroken kind (take (length bytes - 1) bytes)
    → Breaks kind bytes part at → seen kind part at ≡ length bytes
unfolding IsUnbroken
Breaks_last kind bytes part at some prefix h =
    let cut = length bytes - 1 in
    let le = Breaks-seen kind bytes part at h in
    let len : length (take cut bytes) ≡ cut = omega (arith, length-take cut bytes) in
    let whole = take-append-drop cut bytes in
    elim (cases_lt cut (seen kind part at)) [
      | inl later ↦ omega arith
      | inr within ↦ absurd (prefix part at (Breaks-shorter kind (take cut bytes) (drop cut bytes) part at (rw whole h) (omega arith)))
    ]

-- two breaks that are seen with the same byte have the same place
seen_alike : (kind : FrameKind) (bytes : List ℕ) (part : Part) (at : ℕ) (other : Part) (place : ℕ) → Breaks kind bytes part at
    → Breaks kind bytes other place → seen kind part at ≡ length bytes → seen kind other place ≡ length bytes → at ≤ place
unfolding Breaks
seen_alike kind bytes Missing at other place h g s t = absurd h
seen_alike kind bytes part at Missing place h g s t = absurd g
seen_alike kind bytes Status at other place h g s t = omega (arith, h.0)
seen_alike kind bytes TextLength at Status place h g s t = omega arith
seen_alike kind bytes TextLength at TextLength place h g s t = omega (arith, h.0, g.0)
seen_alike kind bytes TextLength at Text place h g s t = omega (arith, h.0, g.0)
seen_alike kind bytes TextLength at Flag place h g s t = omega (arith, h.0, g.0)
seen_alike kind bytes TextLength at BodyLength place h g s t = omega (arith, h.0, g.0)
seen_alike kind bytes Text at Status place h g s t = omega (arith, h.0)
seen_alike kind bytes Text at TextLength place h g s t = omega (arith, h.0)
seen_alike kind bytes Text at Text place h g s t = omega arith
seen_alike kind bytes Text at Flag place h g s t = omega arith
seen_alike kind bytes Text at BodyLength place h g s t = omega (arith, h.1, g.0)
seen_alike kind bytes Flag at Status place h g s t = omega (arith, h.0)
seen_alike kind bytes Flag at TextLength place h g s t = omega (arith, h.0)
seen_alike kind bytes Flag at Text place h g s t = omega arith
seen_alike kind bytes Flag at Flag place h g s t = omega arith
seen_alike kind bytes Flag at BodyLength place h g s t = omega (arith, h.0, g.0)
seen_alike kind bytes BodyLength at Status place h g s t = omega (arith, h.0)
seen_alike kind bytes BodyLength at TextLength place h g s t = omega (arith, h.0)
seen_alike kind bytes BodyLength at Text place h g s t = omega (arith, h.0, g.1)
seen_alike kind bytes BodyLength at Flag place h g s t = omega (arith, h.0, g.0)
seen_alike kind bytes BodyLength at BodyLength place h g s t = omega arith

pub BreaksFirst_last : (kind : FrameKind) (bytes : List ℕ) (part : Part) (at : ℕ) → 0 < length bytes → IsUnbroken kind (take (length bytes - 1) bytes)
    → Breaks kind bytes part at → BreaksFirst kind bytes part at
BreaksFirst_last kind bytes part at some prefix h = record {
  breaks = h;
  least = λ other place g. seen_alike kind bytes part at other place h g (Breaks_last kind bytes part at some prefix h)
      (Breaks_last kind bytes other place some prefix g);
}

pub record LastIsRight (kind : FrameKind) (bytes : List ℕ) : Type 0 where
  pub status_right : length bytes ≡ 1 → 0 < lead kind → is_status (get_or bytes 0 0) ≡ true
  pub text_length_right : length bytes ≡ lead kind + 2 → (least_text kind ≤ text_length kind bytes)
      × (text_length kind bytes ≤ most_text kind (get_or bytes 0 0))
  pub text_right : lead kind + 3 ≤ length bytes → length bytes ≤ lead kind + 2 + text_length kind bytes → IsGoodByte kind (get_or bytes (length bytes - 1) 0)
  pub flag_right : length bytes ≡ lead kind + 3 + text_length kind bytes → get_or bytes (length bytes - 1) 0 ≡ 0
  pub body_length_right : length bytes ≡ lead kind + 7 + text_length kind bytes → body_length kind bytes ≤ most_body kind (get_or bytes 0 0)

-- no test of a status is both true and false
pub true_not_false : (number : ℕ) → is_status number ≡ true → is_status number ≡ false → ⊥
true_not_false number yes_ no_ = let e : true ≡ false = sym yes_ ∙ no_ in cc

right_not_broken : (kind : FrameKind) (bytes : List ℕ) (part : Part) (at : ℕ) → LastIsRight kind bytes → seen kind part at ≡ length bytes
    → Breaks kind bytes part at → ⊥
unfolding Breaks
right_not_broken kind bytes Status at right s h =
    true_not_false (get_or bytes 0 0) (right.status_right (sym s) h.1.0) h.1.2
right_not_broken kind bytes TextLength at right s h =
    let r = right.text_length_right (sym s) in elim h.2 [ inl none ↦ omega (arith, r.0) | inr long ↦ omega (arith, r.1) ]
right_not_broken kind bytes Text at right s h =
    let e : length bytes - 1 ≡ at = omega arith in
    h.3 (rw e at (right.text_right (omega (arith, h.0)) (omega (arith, h.1))))
right_not_broken kind bytes Flag at right s h =
    let e : length bytes - 1 ≡ at = omega arith in
    h.2 (rw e at (right.flag_right (omega (arith, h.0))))
right_not_broken kind bytes BodyLength at right s h =
    let r = right.body_length_right (omega (arith, h.0)) in omega (arith, h.2)
right_not_broken kind bytes Missing at right s h = h

pub IsUnbroken_last : (kind : FrameKind) (bytes : List ℕ) → 0 < length bytes → IsUnbroken kind (take (length bytes - 1) bytes) → LastIsRight kind bytes
    → IsUnbroken kind bytes
unfolding IsUnbroken
IsUnbroken_last kind bytes some prefix right part at h = right_not_broken kind bytes part at right (Breaks_last kind bytes part at some prefix h) h

pub nil_unbroken : (kind : FrameKind) → IsUnbroken kind []
unfolding IsUnbroken Breaks
nil_unbroken kind Status at h = omega (arith, h.1.1)
nil_unbroken kind TextLength at h = omega (arith, h.1)
nil_unbroken kind Text at h = omega (arith, h.2)
nil_unbroken kind Flag at h = omega (arith, h.1)
nil_unbroken kind BodyLength at h = omega (arith, h.1)
nil_unbroken kind Missing at h = h

-- a break that comes no later than another needs no more bytes to be seen
seen_no_later : (kind : FrameKind) (bytes : List ℕ) (part : Part) (at : ℕ) (other : Part) (place : ℕ) → Breaks kind bytes part at
    → Breaks kind bytes other place → place < at → seen kind other place ≤ seen kind part at
unfolding Breaks
seen_no_later kind bytes Missing at other place h g lt = absurd h
seen_no_later kind bytes part at Missing place h g lt = absurd g
seen_no_later kind bytes Status at other place h g lt = omega (arith, h.0)
seen_no_later kind bytes TextLength at Status place h g lt = omega arith
seen_no_later kind bytes TextLength at TextLength place h g lt = omega (arith, h.0, g.0)
seen_no_later kind bytes TextLength at Text place h g lt = omega (arith, h.0, g.0)
seen_no_later kind bytes TextLength at Flag place h g lt = omega (arith, h.0, g.0)
seen_no_later kind bytes TextLength at BodyLength place h g lt = omega (arith, h.0, g.0)
seen_no_later kind bytes Text at Status place h g lt = omega arith
seen_no_later kind bytes Text at TextLength place h g lt = omega (arith, h.0)
seen_no_later kind bytes Text at Text place h g lt = omega arith
seen_no_later kind bytes Text at Flag place h g lt = omega arith
seen_no_later kind bytes Text at BodyLength place h g lt = omega (arith, h.1, g.0)
seen_no_later kind bytes Flag at Status place h g lt = omega arith
seen_no_later kind bytes Flag at TextLength place h g lt = omega (arith, h.0)
seen_no_later kind bytes Flag at Text place h g lt = omega arith
seen_no_later kind bytes Flag at Flag place h g lt = omega arith
seen_no_later kind bytes Flag at BodyLength place h g lt = omega (arith, h.0, g.0)
seen_no_later kind bytes BodyLength at Status place h g lt = omega arith
seen_no_later kind bytes BodyLength at TextLength place h g lt = omega (arith, h.0)
seen_no_later kind bytes BodyLength at Text place h g lt = omega arith
seen_no_later kind bytes BodyLength at Flag place h g lt = omega arith
seen_no_later kind bytes BodyLength at BodyLength place h g lt = omega arith

-- longer bytes keep the first break
pub BreaksFirst-longer : (kind : FrameKind) (bytes more : List ℕ) (part : Part) (at : ℕ)
    → BreaksFirst kind bytes part at → BreaksFirst kind (bytes ++ more) part at
BreaksFirst-longer kind bytes more part at h = record {
  breaks = Breaks-longer kind bytes more part at h.breaks;
  least = λ other place g. elim (cases_lt place at) [
    | inr le ↦ le
    | inl lt ↦
        let s = seen_no_later kind (bytes ++ more) part at other place (Breaks-longer kind bytes more part at h.breaks) g lt in
        let t = Breaks-seen kind bytes part at h.breaks in
        h.least other place (Breaks-shorter kind bytes more other place g (omega arith))
  ];
}

pub Breaks_within : (kind : FrameKind) (bytes : List ℕ) (part : Part) (at : ℕ) → Breaks kind bytes part at → at < length bytes
unfolding Breaks
Breaks_within kind bytes Status at h = omega (arith, h.0, h.1.1)
Breaks_within kind bytes TextLength at h = omega (arith, h.0, h.1)
Breaks_within kind bytes Text at h = h.2
Breaks_within kind bytes Flag at h = h.1
Breaks_within kind bytes BodyLength at h = omega (arith, h.1)
Breaks_within kind bytes Missing at h = absurd h
