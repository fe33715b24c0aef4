-- Bytes are a frame if they break nothing and none of them is missing.
use Rattle.std.proofs.Common.{◌≡◌, ◌≢◌, ℕ, zero, suc, ◌+◌, ◌-◌, ◌*◌, ◌<◌, ◌≤◌, ◌^◌, Bool, true, false, List, [], ◌∷◌, ◌++◌, length, take, drop}
use Rattle.std.proofs.Common.{get_or, refl, sym, ap, subst, ◌∙◌, arith, length-append, append_assoc, inl, inr, All, add-zero}
use Rattle.std.proofs.lemmas.List.{get_or_append_left, get_or-append-add, get_or-take, get_or-drop, get_or_past, get_or_default, take-append-drop}
use Rattle.std.proofs.lemmas.List.{length-take, length-drop, drop-drop, drop_more, append-nil}
use Rattle.std.proofs.lemmas.Bool.{cases_lt}
use Rattle.std.proofs.lemmas.Nat.{be_bytes_2, be_bytes_4, from_be_bytes-to_be_bytes_2, from_be_bytes-to_be_bytes_4}
use Rattle.std.specs.Int.{w16, w32, to_be_bytes, from_be_bytes}
use Rattle.envelope.specs.declared.kind.FrameKind.{FrameKind}
use Rattle.envelope.specs.declared.kind.FrameKind.TheVariants.{Calls, Replies}
use Rattle.envelope.specs.declared.kind.Part.{Part}
use Rattle.envelope.specs.declared.kind.Part.TheVariants.{Status, TextLength, Text, Flag, BodyLength, Missing}
use Rattle.envelope.specs.Envelope.{CallBytes, ReplyBytes, frame, reply, is_status}
use Rattle.envelope.specs.Grammar.{Item, IsItem, spelling, lead, least_text, most_text, most_body, least_byte, IsGoodByte, text_length, body_length}
use Rattle.envelope.specs.Grammar.{HasBadStatus, Breaks, IsUnbroken, BreaksFirst, IsUnfinished, BeginsFrame, FaultAt, IsFrame, HasPart}
use Rattle.envelope.specs.Head.{IsWhole, IsShort, Says, item, item_in, most_head, most_frame}
use Rattle.envelope.specs.facts.Breaking.{true_not_false}

abbrev pub IsBytes : List ℕ → Type 0
IsBytes bytes = (i : ℕ) → get_or bytes i 0 < 256

pub IsBytes-take : (n : ℕ) (bytes : List ℕ) → IsBytes bytes → IsBytes (take n bytes)
IsBytes-take n bytes h i =
    elim (cases_lt i n) [
      | inl lt ↦ rw (get_or-take n bytes i 0 lt) (h i)
      | inr le ↦ rw (get_or_past (take n bytes) i 0 (omega (arith, length-take n bytes))) (omega arith)
    ]

pub IsBytes-drop : (n : ℕ) (bytes : List ℕ) → IsBytes bytes → IsBytes (drop n bytes)
IsBytes-drop n bytes h i = rw get_or-drop (h (n + i))

pub nil_of_length : (bytes : List ℕ) → length bytes ≤ 0 → bytes ≡ []
nil_of_length [] none = refl
nil_of_length (b ∷ bs) none = absurd (omega arith)

-- ---- the table's numbers

lead_small : (kind : FrameKind) → lead kind ≤ 1
lead_small Calls = omega arith
lead_small Replies = omega arith

pub most_text_small : (kind : FrameKind) (first : ℕ) → most_text kind first ≤ 1024
most_text_small Calls first = omega arith
most_text_small Replies zero = omega arith
most_text_small Replies (suc n) = omega arith

most_body_small : (kind : FrameKind) (first : ℕ) → most_body kind first ≤ 4194304
most_body_small Calls first = omega arith
most_body_small Replies zero = omega arith
most_body_small Replies (suc n) = omega arith

pub head_fits : (kind : FrameKind) (first : ℕ) → lead kind + 7 + most_text kind first ≤ most_head kind
head_fits Calls first = omega arith
head_fits Replies zero = omega arith
head_fits Replies (suc n) = omega arith

pub frame_fits : (kind : FrameKind) (first : ℕ) → lead kind + 7 + most_text kind first + most_body kind first ≤ most_frame kind
frame_fits Calls first = omega arith
frame_fits Replies zero = omega arith
frame_fits Replies (suc n) = omega arith

pub head_within : (kind : FrameKind) → (lead kind + 9 ≤ most_head kind) × (most_head kind ≤ most_frame kind)
head_within Calls = (omega arith, omega arith)
head_within Replies = (omega arith, omega arith)

-- ---- the parts of bytes that break nothing

pub record Parts (kind : FrameKind) (bytes : List ℕ) : Type 0 where
  pub status_good : 0 < lead kind → is_status (get_or bytes 0 0) ≡ true
  pub text_least : least_text kind ≤ text_length kind bytes
  pub text_short : text_length kind bytes ≤ most_text kind (get_or bytes 0 0)
  pub text_bytes : (k : ℕ) → lead kind + 2 ≤ k → k < lead kind + 2 + text_length kind bytes → IsGoodByte kind (get_or bytes k 0)
  pub flag_zero : get_or bytes (lead kind + 2 + text_length kind bytes) 0 ≡ 0
  pub body_short : body_length kind bytes ≤ most_body kind (get_or bytes 0 0)

le_of_not : (a b : ℕ) → (b < a → ⊥) → a ≤ b
le_of_not a b h = elim (cases_lt b a) [ inl lt ↦ absurd (h lt) | inr le ↦ le ]

true_of_not : (b : Bool) → (b ≡ false → ⊥) → b ≡ true
true_of_not true h = refl
true_of_not false h = absurd (h refl)

pub good_status : (kind : FrameKind) (bytes : List ℕ) → (HasBadStatus kind bytes → ⊥) → 0 < lead kind → 0 < length bytes → is_status (get_or bytes 0 0) ≡ true
good_status kind bytes h some there = true_of_not (is_status (get_or bytes 0 0)) (λ bad. h (some, there, bad))

pub good_byte_of_not : (kind : FrameKind) (b : ℕ) → ((IsGoodByte kind b → ⊥) → ⊥) → IsGoodByte kind b
good_byte_of_not kind b h =
    elim (cases_lt b (least_byte kind)) [
      | inl low ↦ absurd (h (λ p. omega (arith, p.0)))
      | inr above ↦ elim (cases_lt 126 b) [
        | inl high ↦ absurd (h (λ p. omega (arith, p.1)))
        | inr below ↦ (above, below)
      ]
    ]

pub Parts_of : (kind : FrameKind) (bytes : List ℕ) → IsUnbroken kind bytes → lead kind + 7 + text_length kind bytes ≤ length bytes → Parts kind bytes
unfolding IsUnbroken Breaks
Parts_of kind bytes unbroken all = record {
  status_good = λ some. true_of_not (is_status (get_or bytes 0 0)) (λ bad. unbroken Status 0 (refl, (some, omega arith, bad)));
  text_least = le_of_not (least_text kind) (text_length kind bytes) (λ lt. unbroken TextLength (lead kind) (refl, omega arith, inl lt));
  text_short = le_of_not (text_length kind bytes) (most_text kind (get_or bytes 0 0)) (λ lt. unbroken TextLength (lead kind) (refl, omega arith, inr lt));
  text_bytes = λ k two k-in. good_byte_of_not kind (get_or bytes k 0) (λ bad. unbroken Text k (two, k-in, omega arith, bad));
  flag_zero = omega (
    arith,
    le_of_not (get_or bytes (lead kind + 2 + text_length kind bytes) 0) 0
        (λ lt. unbroken Flag (lead kind + 2 + text_length kind bytes) (refl, omega arith, λ e. omega arith)),
  );
  body_short = le_of_not (body_length kind bytes) (most_body kind (get_or bytes 0 0))
      (λ lt. unbroken BodyLength (lead kind + 3 + text_length kind bytes) (refl, omega arith, lt));
}

-- ---- a frame by its parts

-- the four parts after the status, in order
spell : List ℕ → List ℕ → List ℕ → List ℕ → List ℕ
spell first text third body = first ++ (text ++ (0 ∷ (third ++ body)))

cut_in_five : (bytes : List ℕ) (n : ℕ) → 7 + n ≤ length bytes → get_or bytes (2 + n) 0 ≡ 0
    → spell (take 2 bytes) (take n (drop 2 bytes)) (take 4 (drop (3 + n) bytes)) (drop (7 + n) bytes) ≡ bytes
unfolding spell
cut_in_five bytes n all zero-flag =
    let e3 : 3 + n + 4 ≡ 7 + n = omega arith in
    let e2 : 2 + n + 1 ≡ 3 + n = omega arith in
    let rest-3 : take 4 (drop (3 + n) bytes) ++ drop (7 + n) bytes ≡ drop (3 + n) bytes =
    ap (λ (x : List ℕ). take 4 (drop (3 + n) bytes) ++ x) (sym (drop-drop 4 (3 + n) bytes ∙ ap (λ (k : ℕ). drop k bytes) e3))
    ∙ take-append-drop 4 (drop (3 + n) bytes) in
    let rest-2 : 0 ∷ drop (3 + n) bytes ≡ drop (2 + n) bytes =
    sym (drop_more bytes (2 + n) 0 (omega arith) ∙ (ap (λ (b : ℕ). b ∷ drop (2 + n + 1) bytes) zero-flag ∙ ap (λ (k : ℕ). 0 ∷ drop k bytes) e2)) in
    let rest-1 : take n (drop 2 bytes) ++ drop (2 + n) bytes ≡ drop 2 bytes =
    ap (λ (x : List ℕ). take n (drop 2 bytes) ++ x) (sym (drop-drop n 2 bytes)) ∙ take-append-drop n (drop 2 bytes) in
    ap (λ (x : List ℕ). take 2 bytes ++ (take n (drop 2 bytes) ++ (0 ∷ x))) rest-3
    ∙ (ap (λ (x : List ℕ). take 2 bytes ++ (take n (drop 2 bytes) ++ x)) rest-2
    ∙ (ap (λ (x : List ℕ). take 2 bytes ++ x) rest-1 ∙ take-append-drop 2 bytes))

-- a frame after its status, from the bytes of its two lengths
spelled_by : (text body : List ℕ) (n m : ℕ) (first third : List ℕ) → length text ≡ n → length body ≡ m → to_be_bytes w16 n ≡ first
    → to_be_bytes w32 m ≡ third → spell (to_be_bytes w16 (length text)) text (to_be_bytes w32 (length body)) body ≡ spell first text third body
spelled_by text body n m first third tl bl f t =
    ap (λ (x : List ℕ). spell x text (to_be_bytes w32 (length body)) body) (ap (λ (k : ℕ). to_be_bytes w16 k) tl ∙ f)
    ∙ ap (λ (x : List ℕ). spell first text x body) (ap (λ (k : ℕ). to_be_bytes w32 k) bl ∙ t)

-- the bytes before the length of the text
abbrev pub status_bytes : FrameKind → ℕ → List ℕ
status_bytes Calls status = []
status_bytes Replies status = status ∷ []

item_spelled : (kind : FrameKind) (status : ℕ) (text body : List ℕ)
    → spelling kind (item kind status text body)
    ≡ status_bytes kind status ++ spell (to_be_bytes w16 (length text)) text (to_be_bytes w32 (length body)) body
unfolding frame reply spell
item_spelled Calls status text body = refl
item_spelled Replies status text body = refl

first_bytes : (kind : FrameKind) (bytes : List ℕ) → 0 < length bytes → status_bytes kind (get_or bytes 0 0) ≡ take (lead kind) bytes
first_bytes Calls bytes some = refl
first_bytes Replies [] some = absurd (omega arith)
first_bytes Replies (b ∷ bs) some = refl

item_good : (kind : FrameKind) (status : ℕ) (text body : List ℕ) → (0 < lead kind → is_status status ≡ true) → least_text kind ≤ length text
    → length text ≤ most_text kind status → All (IsGoodByte kind) text → length body ≤ most_body kind status
    → IsItem kind (item kind status text body)
item_good Calls status text body good least short bytes body-short = record {
  path_given = least;
  path_short = short;
  path_bytes = bytes;
  message_short = body-short;
}
item_good Replies zero text body good least short bytes body-short = record {
  status = good (omega arith);
  text_short = omega arith;
  text_bytes = bytes;
  body_short = body-short;
  ok = λ e. nil_of_length text short;
  refused = λ ne. absurd (ne refl);
}
item_good Replies (suc n) text body good least short bytes body-short = record {
  status = good (omega arith);
  text_short = short;
  text_bytes = bytes;
  body_short = omega arith;
  ok = λ e. absurd (let none : suc n ≡ 0 = e in omega arith);
  refused = λ ne. nil_of_length body body-short;
}

-- ---- whole frames

text_from : (bytes : List ℕ) (o n : ℕ) → n ≡ 256 * get_or bytes o 0 + get_or bytes (o + 1) 0 → n ≡ from_be_bytes w16 (take 2 (drop o bytes))
text_from bytes o n is =
    let read : (k : ℕ) → k < 2 → get_or (take 2 (drop o bytes)) k 0 ≡ get_or bytes (o + k) 0 =
    λ k lt. get_or-take 2 (drop o bytes) k 0 lt ∙ get_or-drop o bytes k 0 in
    omega (arith, is, read 0 (omega arith) ∙ ap (λ (k : ℕ). get_or bytes k 0) (add-zero o), read 1 (omega arith))

text_length-drop : (kind : FrameKind) (bytes : List ℕ) → text_length kind bytes ≡ from_be_bytes w16 (take 2 (drop (lead kind) bytes))
unfolding text_length
text_length-drop kind bytes = text_from bytes (lead kind) (256 * get_or bytes (lead kind) 0 + get_or bytes (lead kind + 1) 0) refl

body_length-drop : (kind : FrameKind) (bytes : List ℕ)
    → body_length kind bytes ≡ from_be_bytes w32 (take 4 (drop (lead kind + 3 + text_length kind bytes) bytes))
unfolding body_length
body_length-drop kind bytes =
    let at = lead kind + 3 + text_length kind bytes in
    let read : (k : ℕ) → k < 4 → get_or (take 4 (drop at bytes)) k 0 ≡ get_or bytes (at + k) 0 =
    λ k lt. get_or-take 4 (drop at bytes) k 0 lt ∙ get_or-drop at bytes k 0 in
    omega (arith, read 0 (omega arith) ∙ ap (λ (k : ℕ). get_or bytes k 0) (add-zero at), read 1 (omega arith), read 2 (omega arith), read 3 (omega arith))

text_in : (kind : FrameKind) (bytes : List ℕ) (n : ℕ) → Parts kind bytes → text_length kind bytes ≡ n → length (take n (drop (lead kind + 2) bytes)) ≡ n
    → All (IsGoodByte kind) (take n (drop (lead kind + 2) bytes))
text_in kind bytes n parts is len k d lt =
    let at : get_or (take n (drop (lead kind + 2) bytes)) k d ≡ get_or bytes (lead kind + 2 + k) 0 =
    get_or_default (take n (drop (lead kind + 2) bytes)) k d 0 lt
    ∙ (get_or-take n (drop (lead kind + 2) bytes) k 0 (omega arith) ∙ get_or-drop (lead kind + 2) bytes k 0) in
    rw at (parts.text_bytes (lead kind + 2 + k) (omega arith) (omega arith))

pub whole_is_frame : (kind : FrameKind) (bytes : List ℕ) → IsBytes bytes → IsUnbroken kind bytes → IsWhole kind bytes → IsItem kind (item_in kind bytes)
    × (bytes ≡ spelling kind (item_in kind bytes))
unfolding IsWhole
whole_is_frame kind bytes fits unbroken whole =
    let o = lead kind in
    let n = text_length kind bytes in
    let m = body_length kind bytes in
    let all : o + 7 + n ≤ length bytes = whole.0 in
    let parts = Parts_of kind bytes unbroken all in
    let rest = drop o bytes in
    let text = take n (drop (o + 2) bytes) in
    let body = drop (o + 7 + n) bytes in
    let rest-len : length rest ≡ length bytes - o = length-drop o bytes in
    let text-is : take n (drop 2 rest) ≡ text = ap (λ (x : List ℕ). take n x) (drop-drop 2 o bytes) in
    let behind : o + (7 + n) ≡ o + 7 + n = omega arith in
    let body-is : drop (7 + n) rest ≡ body = drop-drop (7 + n) o bytes ∙ ap (λ (k : ℕ). drop k bytes) behind in
    let third-at : o + (3 + n) ≡ o + 3 + n = omega arith in
    let third-is : drop (3 + n) rest ≡ drop (o + 3 + n) bytes = drop-drop (3 + n) o bytes ∙ ap (λ (k : ℕ). drop k bytes) third-at in
    let flag-at : o + (2 + n) ≡ o + 2 + n = omega arith in
    let flag : get_or rest (2 + n) 0 ≡ 0 = get_or-drop o bytes (2 + n) 0 ∙ (ap (λ (k : ℕ). get_or bytes k 0) flag-at ∙ parts.flag_zero) in
    let text-len : length text ≡ n = omega (arith, length-take n (drop (o + 2) bytes), length-drop (o + 2) bytes) in
    let body-len : length body ≡ m = omega (arith, length-drop (o + 7 + n) bytes, whole.1) in
    let first : to_be_bytes w16 n ≡ take 2 rest =
    be_bytes_2 (take 2 rest) n (omega (arith, length-take 2 rest))
    (IsBytes-take 2 rest (IsBytes-drop o bytes fits)) (text_length-drop kind bytes) in
    let third : to_be_bytes w32 m ≡ take 4 (drop (o + 3 + n) bytes) =
    be_bytes_4 (take 4 (drop (o + 3 + n) bytes)) m
    (omega (arith, length-take 4 (drop (o + 3 + n) bytes), length-drop (o + 3 + n) bytes))
    (IsBytes-take 4 (drop (o + 3 + n) bytes) (IsBytes-drop (o + 3 + n) bytes fits)) (body_length-drop kind bytes) in
    let good =
    item_good kind (get_or bytes 0 0) text body parts.status_good (omega (arith, parts.text_least)) (omega (arith, parts.text_short))
    (text_in kind bytes n parts refl text-len) (omega (arith, parts.body_short)) in
    let cut : spell (take 2 rest) text (take 4 (drop (o + 3 + n) bytes)) body ≡ rest =
    ap (λ (x : List ℕ). spell (take 2 rest) x (take 4 (drop (o + 3 + n) bytes)) body) (sym text-is)
    ∙ (ap (λ (x : List ℕ). spell (take 2 rest) (take n (drop 2 rest)) (take 4 x) body) (sym third-is)
    ∙ (ap (λ (x : List ℕ). spell (take 2 rest) (take n (drop 2 rest)) (take 4 (drop (3 + n) rest)) x) (sym body-is)
    ∙ cut_in_five rest n (omega arith) flag)) in
    let behind-status = spelled_by text body n m (take 2 rest) (take 4 (drop (o + 3 + n) bytes)) text-len body-len first third ∙ cut in
    let spelled : spelling kind (item kind (get_or bytes 0 0) text body) ≡ bytes =
    item_spelled kind (get_or bytes 0 0) text body
    ∙ (ap (λ (x : List ℕ). x ++ spell (to_be_bytes w16 (length text)) text (to_be_bytes w32 (length body)) body) (first_bytes kind bytes (omega arith))
    ∙ (ap (λ (x : List ℕ). take o bytes ++ x) behind-status ∙ take-append-drop o bytes)) in
    (good, sym spelled)

pub whole_frame : (kind : FrameKind) (bytes : List ℕ) → IsBytes bytes → IsUnbroken kind bytes → IsWhole kind bytes → IsFrame kind bytes
whole_frame kind bytes fits unbroken whole = let w = whole_is_frame kind bytes fits unbroken whole in (item_in kind bytes, w.0, w.1)

-- the contents of a whole frame are its text and its body
pub said_by : (kind : FrameKind) (bytes text body : List ℕ) → IsBytes bytes → IsUnbroken kind bytes → IsWhole kind bytes
    → text ≡ take (text_length kind bytes) (drop (lead kind + 2) bytes) → body ≡ drop (lead kind + 7 + text_length kind bytes) bytes
    → Says kind bytes (item kind (get_or bytes 0 0) text body)
said_by kind bytes text body fits unbroken whole text_is body_is =
    subst (λ (x : List ℕ). Says kind bytes (item kind (get_or bytes 0 0) x body)) (sym text_is)
    (subst (λ (x : List ℕ). Says kind bytes (item kind (get_or bytes 0 0) (take (text_length kind bytes) (drop (lead kind + 2) bytes)) x))
    (sym body_is) (whole_is_frame kind bytes fits unbroken whole))

-- ---- a frame as a prefix of a stream

abbrev pub status_of : (kind : FrameKind) → Item kind → ℕ
status_of Calls call = 0
status_of Replies r = r.status

abbrev pub text_of : (kind : FrameKind) → Item kind → List ℕ
text_of Calls call = call.path
text_of Replies r = r.text

abbrev pub body_of : (kind : FrameKind) → Item kind → List ℕ
body_of Calls call = call.message
body_of Replies r = r.body

-- the text and the body with their lengths, and the bytes after them
unfoldable pub block : List ℕ → List ℕ → List ℕ → List ℕ
block text body more = to_be_bytes w16 (length text) ++ (text ++ (0 ∷ (to_be_bytes w32 (length body) ++ (body ++ more))))

pub frame-append : (call : CallBytes) (more : List ℕ) → frame call ++ more ≡ block call.path call.message more
unfolding frame block
frame-append call more = ap (λ (x : List ℕ). to_be_bytes w16 (length call.path) ++ x)
    (append_assoc call.path (0 ∷ (to_be_bytes w32 (length call.message) ++ call.message)) more)

reply-append : (r : ReplyBytes) (more : List ℕ) → reply r ++ more ≡ r.status ∷ block r.text r.body more
unfolding reply block
reply-append r more = ap (λ (x : List ℕ). r.status ∷ (to_be_bytes w16 (length r.text) ++ x))
    (append_assoc r.text (0 ∷ (to_be_bytes w32 (length r.body) ++ r.body)) more)

pub spelling-append : (kind : FrameKind) (i : Item kind) (more : List ℕ)
    → spelling kind i ++ more ≡ status_bytes kind (status_of kind i) ++ block (text_of kind i) (body_of kind i) more
spelling-append Calls call more = frame-append call more
spelling-append Replies r more = reply-append r more

pub length-status : (kind : FrameKind) (status : ℕ) → length (status_bytes kind status) ≡ lead kind
length-status Calls status = refl
length-status Replies status = refl

length-block : (text body more : List ℕ) → length (block text body more) ≡ 7 + length text + length body + length more
unfolding block
length-block text body more = omega (arith, length-append text (0 ∷ (to_be_bytes w32 (length body) ++ (body ++ more))), length-append body more)

pub length-spelling : (kind : FrameKind) (i : Item kind) → length (spelling kind i) ≡ lead kind + 7 + length (text_of kind i) + length (body_of kind i)
length-spelling kind i =
    let whole = sym (append-nil (spelling kind i)) ∙ spelling-append kind i [] in
    omega (
      arith,
      ap length whole,
      length-append (status_bytes kind (status_of kind i))
          (block (text_of kind i) (body_of kind i) []),
      length-status kind (status_of kind i),
      length-block (text_of kind i) (body_of kind i) [],
    )

-- the bytes of a block, place by place
block_rest : (text body more : List ℕ) (k : ℕ)
    → get_or (block text body more) (2 + k) 0 ≡ get_or (text ++ (0 ∷ (to_be_bytes w32 (length body) ++ (body ++ more)))) k 0
unfolding block
block_rest text body more k = get_or-append-add (to_be_bytes w16 (length text)) (text ++ (0 ∷ (to_be_bytes w32 (length body) ++ (body ++ more)))) k 0

block_text : (text body more : List ℕ) (k : ℕ) → k < length text → get_or (block text body more) (2 + k) 0 ≡ get_or text k 0
block_text text body more k lt = block_rest text body more k ∙ get_or_append_left text (0 ∷ (to_be_bytes w32 (length body) ++ (body ++ more))) 0 k lt

block_tail : (text body more : List ℕ) (k : ℕ)
    → get_or (block text body more) (2 + (length text + k)) 0 ≡ get_or (0 ∷ (to_be_bytes w32 (length body) ++ (body ++ more))) k 0
block_tail text body more k = block_rest text body more (length text + k) ∙ get_or-append-add text (0 ∷ (to_be_bytes w32 (length body) ++ (body ++ more))) k 0

block_first : (text body more : List ℕ) → length text < 2 ^ 16 → 256 * get_or (block text body more) 0 0 + get_or (block text body more) 1 0 ≡ length text
unfolding block
block_first text body more fits = omega (arith, from_be_bytes-to_be_bytes_2 (length text) fits)

-- a frame is its status and the bytes of its block
frame_at : (kind : FrameKind) (i : Item kind) (more : List ℕ) (j k : ℕ) → j ≡ lead kind + k
    → get_or (spelling kind i ++ more) j 0 ≡ get_or (block (text_of kind i) (body_of kind i) more) k 0
frame_at kind i more j k e =
    let at : j ≡ length (status_bytes kind (status_of kind i)) + k = omega (arith, length-status kind (status_of kind i)) in
    ap (λ (x : List ℕ). get_or x j 0) (spelling-append kind i more)
    ∙ (ap (λ (n : ℕ). get_or (status_bytes kind (status_of kind i) ++ block (text_of kind i) (body_of kind i) more) n 0) at
    ∙ get_or-append-add (status_bytes kind (status_of kind i)) (block (text_of kind i) (body_of kind i) more) k 0)

spelled_first : (kind : FrameKind) (i : Item kind) (more : List ℕ) → length (text_of kind i) < 2 ^ 16
    → text_length kind (spelling kind i ++ more) ≡ length (text_of kind i)
unfolding text_length
spelled_first kind i more fits =
    let a = frame_at kind i more (lead kind) 0 (omega arith) in
    let b = frame_at kind i more (lead kind + 1) 1 refl in
    omega (arith, a, b, block_first (text_of kind i) (body_of kind i) more fits)

spelled_second : (kind : FrameKind) (i : Item kind) (more : List ℕ) → length (text_of kind i) < 2 ^ 16 → length (body_of kind i) < 2 ^ 32
    → body_length kind (spelling kind i ++ more) ≡ length (body_of kind i)
unfolding body_length
spelled_second kind i more text-fits fits =
    let text = text_of kind i in
    let body = body_of kind i in
    let n = length text in
    let at : lead kind + 3 + text_length kind (spelling kind i ++ more) ≡ lead kind + 3 + n =
    ap (λ (k : ℕ). lead kind + 3 + k) (spelled_first kind i more text-fits) in
    let after_text = 0 ∷ (to_be_bytes w32 (length body) ++ (body ++ more)) in
    let read : (j k : ℕ) → j ≡ lead kind + (2 + (n + k)) → get_or (spelling kind i ++ more) j 0 ≡ get_or after_text k 0 =
    λ j k e. frame_at kind i more j (2 + (n + k)) e ∙ block_tail text body more k in
    omega (
      arith,
      from_be_bytes-to_be_bytes_4 (length body) fits,
      read (lead kind + 3 + text_length kind (spelling kind i ++ more)) 1 (omega arith),
      read (lead kind + 3 + text_length kind (spelling kind i ++ more) + 1) 2 (omega arith),
      read (lead kind + 3 + text_length kind (spelling kind i ++ more) + 2) 3 (omega arith),
      read (lead kind + 3 + text_length kind (spelling kind i ++ more) + 3) 4 (omega arith),
    )

pub record BeginsWith (kind : FrameKind) (bytes : List ℕ) (i : Item kind) : Type 0 where
  pub status_is : 0 < lead kind → get_or bytes 0 0 ≡ status_of kind i
  pub text_is : text_length kind bytes ≡ length (text_of kind i)
  pub body_is : body_length kind bytes ≡ length (body_of kind i)
  pub text_has : (k : ℕ) → k < length (text_of kind i) → get_or bytes (lead kind + 2 + k) 0 ≡ get_or (text_of kind i) k 0
  pub flag_is : get_or bytes (lead kind + 2 + length (text_of kind i)) 0 ≡ 0

first_is : (kind : FrameKind) (i : Item kind) (more : List ℕ) → 0 < lead kind → get_or (spelling kind i ++ more) 0 0 ≡ status_of kind i
first_is Calls call more some = absurd (omega arith)
first_is Replies r more some = ap (λ (x : List ℕ). get_or x 0 0) (spelling-append Replies r more)

-- a call or a reply that has a frame fits the table
record Fits (kind : FrameKind) (i : Item kind) : Type 0 where
  pub status_good : 0 < lead kind → is_status (status_of kind i) ≡ true
  pub text_least : least_text kind ≤ length (text_of kind i)
  pub text_short : (first : ℕ) → (0 < lead kind → first ≡ status_of kind i) → length (text_of kind i) ≤ most_text kind first
  pub text_bytes : All (IsGoodByte kind) (text_of kind i)
  pub body_short : (first : ℕ) → (0 < lead kind → first ≡ status_of kind i) → length (body_of kind i) ≤ most_body kind first

reply_text_short : (first status : ℕ) (text : List ℕ) → first ≡ status → length text ≤ 1024 → (status ≡ 0 → text ≡ []) → length text ≤ most_text Replies first
reply_text_short zero status text e short ok = omega (arith, ap length (ok (sym e)))
reply_text_short (suc n) status text e short ok = short

reply_body_short : (first status : ℕ) (body : List ℕ) → first ≡ status → length body ≤ 4194304 → (status ≢ 0 → body ≡ [])
    → length body ≤ most_body Replies first
reply_body_short zero status body e short refused = short
reply_body_short (suc n) status body e short refused = omega (arith, ap length (refused (λ none. let one : suc n ≡ 0 = e ∙ none in omega arith)))

fits : (kind : FrameKind) (i : Item kind) → IsItem kind i → Fits kind i
fits Calls call good = record {
  status_good = λ some. absurd (omega arith);
  text_least = good.path_given;
  text_short = λ first e. good.path_short;
  text_bytes = good.path_bytes;
  body_short = λ first e. good.message_short;
}
fits Replies r good = record {
  status_good = λ some. good.status;
  text_least = omega arith;
  text_short = λ first e. reply_text_short first r.status r.text (e (omega arith)) good.text_short good.ok;
  text_bytes = good.text_bytes;
  body_short = λ first e. reply_body_short first r.status r.body (e (omega arith)) good.body_short good.refused;
}

pub begins_with : (kind : FrameKind) (i : Item kind) (more : List ℕ) → IsItem kind i → BeginsWith kind (spelling kind i ++ more) i
begins_with kind i more good =
    let f = fits kind i good in
    let text : length (text_of kind i) < 2 ^ 16 = omega (arith, f.text_short (status_of kind i) (λ some. refl), most_text_small kind (status_of kind i)) in
    let body : length (body_of kind i) < 2 ^ 32 = omega (arith, f.body_short (status_of kind i) (λ some. refl), most_body_small kind (status_of kind i)) in
    record {
      status_is = first_is kind i more;
      text_is = spelled_first kind i more text;
      body_is = spelled_second kind i more text body;
      text_has = λ k lt. frame_at kind i more (lead kind + 2 + k) (2 + k) (omega arith) ∙ block_text (text_of kind i) (body_of kind i) more k lt;
      flag_is = frame_at kind i more (lead kind + 2 + length (text_of kind i)) (2 + (length (text_of kind i) + 0)) (omega arith)
          ∙ block_tail (text_of kind i) (body_of kind i) more 0;
    }

broken_no_frame : (kind : FrameKind) (bytes : List ℕ) (i : Item kind) (part : Part) (at : ℕ) → IsItem kind i → BeginsWith kind bytes i
    → Breaks kind bytes part at → ⊥
unfolding Breaks
broken_no_frame kind bytes i Status at good begins h =
    true_not_false (get_or bytes 0 0) (ap is_status (begins.status_is h.1.0) ∙ (fits kind i good).status_good h.1.0) h.1.2
broken_no_frame kind bytes i TextLength at good begins h =
    let f = fits kind i good in
    elim h.2 [
      | inl none ↦ omega (arith, begins.text_is, f.text_least)
      | inr long ↦ omega (arith, begins.text_is, f.text_short (get_or bytes 0 0) begins.status_is)
    ]
broken_no_frame kind bytes i Text at good begins h =
    let e : at ≡ lead kind + 2 + (at - (lead kind + 2)) = omega (arith, h.0) in
    let lt : at - (lead kind + 2) < length (text_of kind i) = omega (arith, begins.text_is, h.0, h.1) in
    h.3 (rw (ap (λ (k : ℕ). get_or bytes k 0) e ∙ begins.text_has (at - (lead kind + 2)) lt) ((fits kind i good).text_bytes (at - (lead kind + 2)) 0 lt))
broken_no_frame kind bytes i Flag at good begins h =
    h.2 (ap (λ (k : ℕ). get_or bytes k 0) (h.0 ∙ ap (λ (k : ℕ). lead kind + 2 + k) begins.text_is) ∙ begins.flag_is)
broken_no_frame kind bytes i BodyLength at good begins h = omega (arith, h.2, begins.body_is, (fits kind i good).body_short (get_or bytes 0 0) begins.status_is)
broken_no_frame kind bytes i Missing at good begins h = h

-- if bytes are short of a frame, no prefix of them is a frame
pub short_no_frame : (kind : FrameKind) (bytes : List ℕ) (i : Item kind) (more : List ℕ)
    → IsShort kind bytes → IsItem kind i → bytes ≡ spelling kind i ++ more → ⊥
unfolding IsShort
short_no_frame kind bytes i more short good e =
    let b : BeginsWith kind bytes i = rw e (begins_with kind i more good) in
    let len : length bytes ≡ length (spelling kind i) + length more = ap length e ∙ length-append (spelling kind i) more in
    short (omega (arith, b.text_is, length-spelling kind i)) (omega (arith, b.text_is, b.body_is, length-spelling kind i))

pub nil_short : (kind : FrameKind) → IsShort kind []
unfolding IsShort
nil_short kind a b = omega arith

pub is_unfinished : (kind : FrameKind) (bytes : List ℕ) → IsUnbroken kind bytes → IsShort kind bytes → IsUnfinished kind bytes
is_unfinished kind bytes unbroken short = record { unbroken = unbroken; frameless = λ b. short_no_frame kind bytes b.0 b.1 short b.2 b.3 }

-- the first break is the fault of the rest
pub fault_of_break : (kind : FrameKind) (rest : List ℕ) (part : Part) (at : ℕ) → BreaksFirst kind rest part at → FaultAt kind rest part at
unfolding Breaks
fault_of_break kind rest Status at h = h
fault_of_break kind rest TextLength at h = h
fault_of_break kind rest Text at h = h
fault_of_break kind rest Flag at h = h
fault_of_break kind rest BodyLength at h = h
fault_of_break kind rest Missing at h = absurd h.breaks

pub broken_rest : (kind : FrameKind) (rest : List ℕ) (part : Part) (at : ℕ) → BreaksFirst kind rest part at → BeginsFrame kind rest → ⊥
broken_rest kind rest part at h b = broken_no_frame kind rest b.0 part at b.2 (rw b.3 (begins_with kind b.0 b.1 b.2)) h.breaks

pub fault_no_frame : (kind : FrameKind) (rest : List ℕ) (part : Part) (at : ℕ) → FaultAt kind rest part at → BeginsFrame kind rest → ⊥
fault_no_frame kind rest Missing at h b = h.1.1.frameless b
fault_no_frame kind rest Status at h b = broken_rest kind rest Status at h b
fault_no_frame kind rest TextLength at h b = broken_rest kind rest TextLength at h b
fault_no_frame kind rest Text at h b = broken_rest kind rest Text at h b
fault_no_frame kind rest Flag at h b = broken_rest kind rest Flag at h b
fault_no_frame kind rest BodyLength at h b = broken_rest kind rest BodyLength at h b

pub frame_begins : (kind : FrameKind) (bytes : List ℕ) (i : Item kind) → IsItem kind i → bytes ≡ spelling kind i → BeginsFrame kind bytes
frame_begins kind bytes i good e = (i, [], good, e ∙ sym (append-nil (spelling kind i)))

pub text_short_of : (kind : FrameKind) (bytes : List ℕ) → IsUnbroken kind bytes → lead kind + 2 ≤ length bytes
    → text_length kind bytes ≤ most_text kind (get_or bytes 0 0)
unfolding IsUnbroken Breaks
text_short_of kind bytes unbroken two = le_of_not (text_length kind bytes) (most_text kind (get_or bytes 0 0))
    (λ lt. unbroken TextLength (lead kind) (refl, two, inr lt))

-- a short prefix has fewer bytes than the longest frame
pub short_room : (kind : FrameKind) (bytes : List ℕ) → IsUnbroken kind bytes → IsShort kind bytes → length bytes < most_frame kind
unfolding IsShort
short_room kind bytes unbroken short =
    let first = get_or bytes 0 0 in
    let head = head_fits kind first in
    let within = head_within kind in
    elim (cases_lt (length bytes) (lead kind + 7 + text_length kind bytes)) [
      | inl few ↦ elim (cases_lt (length bytes) (lead kind + 2)) [
        | inl tiny ↦ omega (arith, within.0, within.1)
        | inr two ↦ let t = text_short_of kind bytes unbroken two in omega (arith, within.1)
      ]
      | inr all ↦
          let parts = Parts_of kind bytes unbroken all in
          elim (cases_lt (length bytes) (lead kind + 7 + text_length kind bytes + body_length kind bytes)) [
            | inl fewer ↦ omega (arith, parts.text_short, parts.body_short, frame_fits kind first)
            | inr whole ↦ absurd (short all whole)
          ]
    ]

-- a fault names a part that frames of the kind have: a call has no status
pub breaks_has : (kind : FrameKind) (bytes : List ℕ) (part : Part) (at : ℕ) → Breaks kind bytes part at → HasPart kind part
unfolding Breaks
breaks_has Calls bytes Status at h = omega (arith, h.1.0)
breaks_has Calls bytes TextLength at h = tt
breaks_has Calls bytes Text at h = tt
breaks_has Calls bytes Flag at h = tt
breaks_has Calls bytes BodyLength at h = tt
breaks_has Calls bytes Missing at h = tt
breaks_has Replies bytes part at h = tt
