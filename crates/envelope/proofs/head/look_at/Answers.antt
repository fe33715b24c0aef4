use Rattle.std.proofs.Common.{◌≡◌, ℕ, ◌+◌, ◌-◌, ◌<◌, ◌≤◌, List, length, take, get_or, refl, arith, inl, inr}
use Rattle.envelope.specs.declared.kind.FrameKind.{FrameKind}
use Rattle.envelope.specs.declared.kind.Part.TheVariants.{Status, TextLength, Text, Flag, BodyLength}
use Rattle.envelope.specs.Grammar.{lead, least_text, most_text, most_body, text_length, body_length, Breaks, IsUnbroken, HasBadStatus}
use Rattle.envelope.specs.Head.{IsShort, AreGoodBytes}
use Rattle.envelope.specs.facts.Frames.{good_status}
use Rattle.envelope.proofs.Looking.{CheckedTo, unbroken_all, text_checked, broken_prefix, whole_prefix}
use Rattle.envelope.proofs.head.look_at.Goals.{then-text_length-least_text-via-then-text_length-least_text, then-text_length-least_text-via-else-text_length-least_text+then-text_length-most_text}
use Rattle.envelope.proofs.head.look_at.Goals as goal

-- the first n bytes are right, if n ends before the length of the text
in_status : (kind : FrameKind) (bytes : List ℕ) (n : ℕ) → n ≤ length bytes → (HasBadStatus kind bytes → ⊥) → n < lead kind + 2 → CheckedTo kind bytes n
in_status kind bytes n within status few = record {
  status_right = λ some began. good_status kind bytes status some (omega arith);
  text_length_right = λ two. absurd (omega arith);
  text_right = λ k two inside lt. absurd (omega arith);
  flag_right = λ e. absurd (omega arith);
  body_length_right = λ e. absurd (omega arith);
}

-- the first n bytes are right, if the length of the text is known and n ends before the flag
in_text : (kind : FrameKind) (bytes : List ℕ) (seen p n : ℕ) → seen ≤ length bytes → n ≤ length bytes → IsUnbroken kind (take seen bytes) → (HasBadStatus kind bytes → ⊥) → p ≡ text_length kind bytes → least_text kind ≤ p → p ≤ most_text kind (get_or bytes 0 0) → n ≤ lead kind + 2 + p → AreGoodBytes kind bytes seen (lead kind + 2 + p) n → CheckedTo kind bytes n
in_text kind bytes seen p n within there prefix status is some few short text = record {
  status_right = λ some began. good_status kind bytes status some (omega arith);
  text_length_right = λ two. (omega arith, omega arith);
  text_right = text_checked kind bytes seen (lead kind + 2 + p) n within prefix (omega arith) text;
  flag_right = λ e. absurd (omega arith);
  body_length_right = λ e. absurd (omega arith);
}

-- the first n bytes are right, if n ends after the flag
in_head : (kind : FrameKind) (bytes : List ℕ) (seen p n : ℕ) → seen ≤ length bytes → n ≤ length bytes → IsUnbroken kind (take seen bytes) → (HasBadStatus kind bytes → ⊥) → p ≡ text_length kind bytes → least_text kind ≤ p → p ≤ most_text kind (get_or bytes 0 0) → AreGoodBytes kind bytes seen (lead kind + 2 + p) (length bytes) → get_or bytes (lead kind + 2 + p) 0 ≡ 0 → (lead kind + 7 + p ≤ n → body_length kind bytes ≤ most_body kind (get_or bytes 0 0)) → CheckedTo kind bytes n
in_head kind bytes seen p n within there prefix status is some few text flag long = record {
  status_right = λ some began. good_status kind bytes status some (omega arith);
  text_length_right = λ two. (omega arith, omega arith);
  text_right = λ k two inside lt. text_checked kind bytes seen (lead kind + 2 + p) (length bytes) within prefix (omega arith) text k two inside (omega arith);
  flag_right = λ e. rw is at flag;
  body_length_right = λ e. long (omega arith);
}

pub returns-then-has_bad_status : goal.returns-then-has_bad_status
unfolding Breaks
returns-then-has_bad_status c =
    let kind = c.args.kind in
    let bytes = c.args.bytes.now in
    let bad : HasBadStatus kind bytes = c.if-has_bad_status.ensures.bad refl in
    rw c.broken.ensures (
    broken_prefix kind bytes Status 0 1 _ refl (omega arith) (omega (arith, bad.1)) (omega arith) record {
      status_right = λ some began. absurd (omega arith);
      text_length_right = λ two. absurd (omega arith);
      text_right = λ k two inside lt. absurd (omega arith);
      flag_right = λ e. absurd (omega arith);
      body_length_right = λ e. absurd (omega arith);
    } (refl, bad)
    )

pub returns-then-bytes-lead : goal.returns-then-bytes-lead
unfolding IsShort
returns-then-bytes-lead c =
    let kind = c.args.kind in
    let bytes = c.args.bytes.now in
    let lead-is = c.lead-lead.ensures.value in
    let status = c.if-has_bad_status.ensures.good refl in
    let few : length bytes < lead kind + 2 = omega arith in
    (unbroken_all kind bytes (in_status kind bytes (length bytes) (omega arith) status few), λ a b. omega arith)

pub returns-then-text_length-least_text : goal.returns-then-text_length-least_text
unfolding Breaks
returns-then-text_length-least_text c =
    let kind = c.args.kind in
    let bytes = c.args.bytes.now in
    let o = c.lead-lead.result in
    let lead-is : o ≡ lead kind = c.lead-lead.ensures.value in
    let status = c.if-has_bad_status.ensures.good refl in
    let is = c.text_length_of-text_length.ensures.value in
    let least = c.least_text.ensures in
    rw c.broken-then-text_length-least_text.ensures (
    broken_prefix kind bytes TextLength o (o + 2) _ refl (omega arith) (omega arith) (omega arith)
    (in_status kind bytes (o + 2 - 1) (omega arith) status (omega arith)) (
      lead-is,
      omega arith,
      elim c.then-text_length-least_text.branch [
        | then-text_length-least_text-via-then-text_length-least_text w ↦ inl (omega (arith, w.if-text_length-least_text.true))
        | then-text_length-least_text-via-else-text_length-least_text+then-text_length-most_text w ↦ inr (omega (arith, w.most_text.ensures, w.if-text_length-most_text.true))
      ],
    )
    )

pub returns-in-Some : goal.returns-in-Some
unfolding Breaks
returns-in-Some c =
    let kind = c.args.kind in
    let bytes = c.args.bytes.now in
    let p = c.text_length_of-text_length.result in
    let lead-is : c.lead-lead.result ≡ lead kind = c.lead-lead.ensures.value in
    let status = c.if-has_bad_status.ensures.good refl in
    let is : p ≡ text_length kind bytes = c.text_length_of-text_length.ensures.value in
    let b = rw lead-is at c.in-Some.ensures in
    let at = c.in-Some.at in
    let cut : at + 1 - 1 ≡ at = omega arith in
    rw c.broken-in-Some.ensures (
    broken_prefix kind bytes Text at (at + 1) _ refl (omega arith) (omega (arith, b.there)) (omega arith)
    (rw cut (in_text kind bytes c.args.seen p at c.requires.within (omega (arith, b.there)) c.requires.prefix status is (omega (arith, c.least_text.ensures)) (omega (arith, c.most_text.ensures)) (omega (arith, b.inside)) b.earlier))
    (b.low, omega (arith, b.inside), b.there, b.bad)
    )

pub returns-then-bytes-lead-2 : goal.returns-then-bytes-lead-2
unfolding IsShort
returns-then-bytes-lead-2 c =
    let kind = c.args.kind in
    let bytes = c.args.bytes.now in
    let p = c.text_length_of-text_length.result in
    let lead-is : c.lead-lead.result ≡ lead kind = c.lead-lead.ensures.value in
    let status = c.if-has_bad_status.ensures.good refl in
    let is : p ≡ text_length kind bytes = c.text_length_of-text_length.ensures.value in
    let all = rw lead-is at c.in_default.ensures in (
      unbroken_all kind bytes (in_text kind bytes c.args.seen p (length bytes) c.requires.within (omega arith) c.requires.prefix status is (omega (arith, c.least_text.ensures)) (omega (arith, c.most_text.ensures)) (omega arith) all),
      λ a b. omega arith,
    )

pub returns-then-bytes-lead-ne0 : goal.returns-then-bytes-lead-ne0
unfolding Breaks
returns-then-bytes-lead-ne0 c =
    let kind = c.args.kind in
    let bytes = c.args.bytes.now in
    let o = c.lead-lead.result in
    let p = c.text_length_of-text_length.result in
    let lead-is : o ≡ lead kind = c.lead-lead.ensures.value in
    let status = c.if-has_bad_status.ensures.good refl in
    let is : p ≡ text_length kind bytes = c.text_length_of-text_length.ensures.value in
    let all = rw lead-is at c.in_default.ensures in
    let size : o + 3 + p - 1 ≡ o + 2 + p = omega arith in
    rw c.broken-then-bytes-lead-ne0.ensures (
    broken_prefix kind bytes Flag (o + 2 + p) (o + 3 + p) _ refl (omega arith) (omega arith) (omega arith)
    (rw size (in_text kind bytes c.args.seen p (o + 2 + p) c.requires.within (omega arith) c.requires.prefix status is (omega (arith, c.least_text.ensures)) (omega (arith, c.most_text.ensures)) (omega arith) (λ k from two inside lt. all k from two inside (omega arith))))
    (omega arith, omega arith, c.if-bytes-lead-ne0.true)
    )

pub returns-in_default-read : goal.returns-in_default-read
unfolding IsShort
returns-in_default-read c =
    let kind = c.args.kind in
    let bytes = c.args.bytes.now in
    let p = c.text_length_of-text_length.result in
    let lead-is : c.lead-lead.result ≡ lead kind = c.lead-lead.ensures.value in
    let status = c.if-has_bad_status.ensures.good refl in
    let is : p ≡ text_length kind bytes = c.text_length_of-text_length.ensures.value in
    let all = rw lead-is at c.in_default.ensures in
    let flag : get_or bytes (lead kind + 2 + p) 0 ≡ 0 = rw lead-is at c.if-bytes-lead-ne0.false in (
      unbroken_all kind bytes (in_head kind bytes c.args.seen p (length bytes) c.requires.within (omega arith) c.requires.prefix status is (omega (arith, c.least_text.ensures)) (omega (arith, c.most_text.ensures)) all flag (λ e. absurd (omega (arith, c.in_default-read.ensures)))),
      λ a b. omega (arith, c.in_default-read.ensures),
    )

pub returns-then-head-most_body : goal.returns-then-head-most_body
unfolding Breaks
returns-then-head-most_body c =
    let kind = c.args.kind in
    let bytes = c.args.bytes.now in
    let o = c.lead-lead.result in
    let p = c.text_length_of-text_length.result in
    let lead-is : o ≡ lead kind = c.lead-lead.ensures.value in
    let status = c.if-has_bad_status.ensures.good refl in
    let is : p ≡ text_length kind bytes = c.text_length_of-text_length.ensures.value in
    let all = rw lead-is at c.in_default.ensures in
    let flag : get_or bytes (lead kind + 2 + p) 0 ≡ 0 = rw lead-is at c.if-bytes-lead-ne0.false in
    let h = c.in-Some-read.ensures in
    let there = h.there in
    let long = h.body_length in
    let most = c.most_body.ensures in
    rw c.broken-then-head-most_body.ensures (
    broken_prefix kind bytes BodyLength (o + 3 + p) (o + 7 + p) _ refl (omega arith) (omega arith) (omega arith)
    (in_head kind bytes c.args.seen p (o + 7 + p - 1) c.requires.within (omega arith) c.requires.prefix status is (omega (arith, c.least_text.ensures)) (omega (arith, c.most_text.ensures)) all flag (λ e. absurd (omega arith)))
    (omega arith, omega arith, omega arith)
    )

pub returns-then-bytes-frame_bytes : goal.returns-then-bytes-frame_bytes
unfolding IsShort
returns-then-bytes-frame_bytes c =
    let kind = c.args.kind in
    let bytes = c.args.bytes.now in
    let p = c.text_length_of-text_length.result in
    let lead-is : c.lead-lead.result ≡ lead kind = c.lead-lead.ensures.value in
    let status = c.if-has_bad_status.ensures.good refl in
    let is : p ≡ text_length kind bytes = c.text_length_of-text_length.ensures.value in
    let all = rw lead-is at c.in_default.ensures in
    let flag : get_or bytes (lead kind + 2 + p) 0 ≡ 0 = rw lead-is at c.if-bytes-lead-ne0.false in
    let h = c.in-Some-read.ensures in
    let there = h.there in
    let body = h.body_at in
    let long = h.body_length in
    let most = c.most_body.ensures in (
      unbroken_all kind bytes (in_head kind bytes c.args.seen p (length bytes) c.requires.within (omega arith) c.requires.prefix status is (omega (arith, c.least_text.ensures)) (omega (arith, c.most_text.ensures)) all flag (λ e. omega arith)),
      λ a b. omega arith,
    )

pub returns : goal.returns
returns c =
    let kind = c.args.kind in
    let bytes = c.args.bytes.now in
    let p = c.text_length_of-text_length.result in
    let m = c.in-Some-read.head.body_length in
    let lead-is : c.lead-lead.result ≡ lead kind = c.lead-lead.ensures.value in
    let status = c.if-has_bad_status.ensures.good refl in
    let is : p ≡ text_length kind bytes = c.text_length_of-text_length.ensures.value in
    let all = rw lead-is at c.in_default.ensures in
    let flag : get_or bytes (lead kind + 2 + p) 0 ≡ 0 = rw lead-is at c.if-bytes-lead-ne0.false in
    let h = c.in-Some-read.ensures in
    let there = h.there in
    let body = h.body_at in
    let long = h.body_length in
    let most = c.most_body.ensures in
    whole_prefix kind bytes c.frame_bytes-2.result p m is long (omega arith) (omega arith)
    (in_head kind bytes c.args.seen p c.frame_bytes-2.result c.requires.within (omega arith) c.requires.prefix status is (omega (arith, c.least_text.ensures)) (omega (arith, c.most_text.ensures)) all flag (λ e. omega arith))
