-- Facts of a prefix after its head was looked at.
use Rattle.std.proofs.Common.{◌≡◌, ℕ, ◌+◌, ◌-◌, ◌<◌, ◌≤◌, List, length, take, drop, get_or, sym, ap, subst, ◌∙◌, arith, inl, inr, true}
use Rattle.std.proofs.lemmas.List.{take-append-drop, length-take, take_all, take-take}
use Rattle.std.proofs.lemmas.Bool.{cases_lt}
use Rattle.envelope.specs.declared.kind.FrameKind.{FrameKind}
use Rattle.envelope.specs.declared.kind.Part.{Part}
use Rattle.envelope.specs.declared.kind.Part.TheVariants.{Status, TextLength, Text, Flag, BodyLength, Missing}
use Rattle.envelope.specs.declared.head.Flaw.{Flaw}
use Rattle.envelope.specs.Envelope.{is_status}
use Rattle.envelope.specs.Grammar.{lead, least_text, most_text, most_body, IsGoodByte, text_length, body_length, Breaks, IsUnbroken}
use Rattle.envelope.specs.Head.{IsWhole, AreGoodBytes, BrokenPrefix, WholePrefix}
use Rattle.envelope.specs.facts.Breaking.{seen, Breaks-seen, Breaks-longer, Breaks-shorter, BreaksFirst_last, text_length-append, body_length-append, true_not_false}
use Rattle.envelope.specs.facts.Frames.{good_byte_of_not}

-- the first bytes of a rest, as far as they were looked at
pub record CheckedTo (kind : FrameKind) (bytes : List ℕ) (n : ℕ) : Type 0 where
  pub status_right : 0 < lead kind → 0 < n → is_status (get_or bytes 0 0) ≡ true
  pub text_length_right : lead kind + 2 ≤ n → (least_text kind ≤ text_length kind bytes) × (text_length kind bytes ≤ most_text kind (get_or bytes 0 0))
  pub text_right : (k : ℕ) → lead kind + 2 ≤ k → k < lead kind + 2 + text_length kind bytes → k < n → IsGoodByte kind (get_or bytes k 0)
  pub flag_right : lead kind + 2 + text_length kind bytes < n → get_or bytes (lead kind + 2 + text_length kind bytes) 0 ≡ 0
  pub body_length_right : lead kind + 7 + text_length kind bytes ≤ n → body_length kind bytes ≤ most_body kind (get_or bytes 0 0)

checked_not : (kind : FrameKind) (bytes : List ℕ) (n : ℕ) (part : Part) (at : ℕ) → CheckedTo kind bytes n → seen kind part at ≤ n → Breaks kind bytes part at → ⊥
unfolding Breaks
checked_not kind bytes n Status at c s h = true_not_false (get_or bytes 0 0) (c.status_right h.1.0 (omega arith)) h.1.2
checked_not kind bytes n TextLength at c s h =
    let r = c.text_length_right s in elim h.2 [ inl none ↦ omega (arith, r.0) | inr long ↦ omega (arith, r.1) ]
checked_not kind bytes n Text at c s h = h.3 (c.text_right at h.0 h.1 (omega arith))
checked_not kind bytes n Flag at c s h =
    let e : at ≡ lead kind + 2 + text_length kind bytes = h.0 in
    h.2 (rw e (c.flag_right (omega arith)))
checked_not kind bytes n BodyLength at c s h = let r = c.body_length_right (omega (arith, h.0)) in omega (arith, h.2)
checked_not kind bytes n Missing at c s h = h

pub unbroken_to : (kind : FrameKind) (bytes : List ℕ) (n : ℕ) → CheckedTo kind bytes n → IsUnbroken kind (take n bytes)
unfolding IsUnbroken
unbroken_to kind bytes n c why at h =
    let g : Breaks kind bytes why at = subst (λ (x : List ℕ). Breaks kind x why at) (take-append-drop n bytes) (Breaks-longer kind (take n bytes) (drop n bytes) why at h) in
    let s = Breaks-seen kind (take n bytes) why at h in
    checked_not kind bytes n why at c (omega (arith, length-take n bytes)) g

pub unbroken_all : (kind : FrameKind) (bytes : List ℕ) → CheckedTo kind bytes (length bytes) → IsUnbroken kind bytes
unbroken_all kind bytes c = subst (IsUnbroken kind) (take_all (length bytes) bytes (omega arith)) (unbroken_to kind bytes (length bytes) c)

-- the bytes of the text that were looked at before
pub text_before : (kind : FrameKind) (bytes : List ℕ) (n k : ℕ) → n ≤ length bytes → IsUnbroken kind (take n bytes) → lead kind + 2 ≤ k → k < lead kind + 2 + text_length kind bytes → k < n → IsGoodByte kind (get_or bytes k 0)
unfolding IsUnbroken Breaks
text_before kind bytes n k within unbroken two inside lt =
    good_byte_of_not kind (get_or bytes k 0) (λ bad.
    let h : Breaks kind bytes Text k = (two, inside, omega arith, bad) in
    let e = sym (take-append-drop n bytes) in
    unbroken Text k (Breaks-shorter kind (take n bytes) (drop n bytes) Text k (subst (λ (x : List ℕ). Breaks kind x Text k) e h) (omega (arith, length-take n bytes))))

pub text_checked : (kind : FrameKind) (bytes : List ℕ) (n end to : ℕ) → n ≤ length bytes → IsUnbroken kind (take n bytes) → end ≡ lead kind + 2 + text_length kind bytes → AreGoodBytes kind bytes n end to → (k : ℕ) → lead kind + 2 ≤ k → k < lead kind + 2 + text_length kind bytes → k < to → IsGoodByte kind (get_or bytes k 0)
text_checked kind bytes n end to within unbroken is later k two inside lt =
    elim (cases_lt k n) [
      | inl less ↦ text_before kind bytes n k within unbroken two inside less
      | inr le ↦ later k le two (omega arith) lt
    ]

-- if all bytes before the break are right, the break is the first
pub broken_prefix : (kind : FrameKind) (bytes : List ℕ) (why : Part) (at n : ℕ) (f : Flaw) → f ≡ record { part = why; at = at } → 0 < n → n ≤ length bytes → seen kind why at ≤ n → CheckedTo kind bytes (n - 1) → Breaks kind bytes why at → BrokenPrefix kind bytes f n
broken_prefix kind bytes why at n f is some within s c h =
    let len : length (take n bytes) ≡ n = omega (arith, length-take n bytes) in
    let cut : length (take n bytes) - 1 ≡ n - 1 = omega arith in
    let before = unbroken_to kind bytes (n - 1) c in
    let same : take (length (take n bytes) - 1) (take n bytes) ≡ take (n - 1) bytes = ap (λ (k : ℕ). take k (take n bytes)) cut ∙ take-take (n - 1) n bytes (omega arith) in
    let prefix : Breaks kind (take n bytes) why at = Breaks-shorter kind (take n bytes) (drop n bytes) why at (subst (λ (x : List ℕ). Breaks kind x why at) (sym (take-append-drop n bytes)) h) (omega arith) in
    record {
      some = some;
      within = within;
      before = before;
      breaks = rw is (BreaksFirst_last kind (take n bytes) why at (omega arith) (subst (IsUnbroken kind) (sym same) before) prefix);
    }

pub whole_prefix : (kind : FrameKind) (bytes : List ℕ) (n p m : ℕ) → p ≡ text_length kind bytes → m ≡ body_length kind bytes → n ≡ lead kind + 7 + p + m → n ≤ length bytes → CheckedTo kind bytes n → WholePrefix kind bytes n
unfolding IsWhole
whole_prefix kind bytes n p m pe me is within c =
    let len : length (take n bytes) ≡ n = omega (arith, length-take n bytes) in
    let whole = take-append-drop n bytes in
    let pl : text_length kind bytes ≡ text_length kind (take n bytes) = ap (text_length kind) (sym whole) ∙ text_length-append kind (take n bytes) (drop n bytes) (omega arith) in
    let ml : body_length kind bytes ≡ body_length kind (take n bytes) = ap (body_length kind) (sym whole) ∙ body_length-append kind (take n bytes) (drop n bytes) (omega arith) (omega arith) in
    record { within = within; unbroken = unbroken_to kind bytes n c; whole = (omega arith, omega arith) }
