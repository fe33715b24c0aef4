-- Bytes can be read as calls and an end.
use Rattle.std.proofs.Common.{Bool, true, false, ◌≡◌, ◌≢◌, ℕ, zero, suc, ◌+◌, ◌-◌, ◌≤◌, ◌<◌, List, [], ◌∷◌, ◌++◌, length, take, drop, get_or, All, refl, sym, ap, subst, ◌∙◌, append_assoc, length-append, arith, inl, inr, ◌⊎◌}
use Rattle.std.proofs.lemmas.List.{take-append-drop, length-take, take_all, take-take, take_more, get_or_past, drop_at}
use Rattle.std.proofs.lemmas.Bool.{cases_lt}
use Rattle.envelope.specs.declared.fault.FrameWhy.TheVariants.{BadPathLength, BadPath, BadFlag, TooLong}
use Rattle.envelope.specs.declared.kind.FrameKind.{FrameKind}
use Rattle.envelope.specs.declared.kind.FrameKind.TheVariants.{Calls}
use Rattle.envelope.specs.declared.kind.Part.{Part}
use Rattle.envelope.specs.declared.kind.Part.TheVariants.{Status, TextLength, Text, Flag, BodyLength, Missing}
use Rattle.envelope.specs.Envelope.{CallBytes, IsCall, frame, is_status}
use Rattle.envelope.specs.Grammar.{lead, least_text, most_text, most_body, least_byte, IsGoodByte, text_length, body_length, Breaks, BreaksFirst, BeginsFrame, IsUnbroken}
use Rattle.envelope.specs.Head.{IsWhole, IsShort, item_in}
use Rattle.envelope.specs.Stream.{End, Clean, Fault, Open, Ends, HasReading, frames}
use Rattle.envelope.specs.facts.Breaking.{nil_unbroken, BreaksFirst_last, BreaksFirst-longer, LastIsRight, IsUnbroken_last, text_length-append, body_length-append}
use Rattle.envelope.specs.facts.Frames.{IsBytes, IsBytes-take, IsBytes-drop, whole_is_frame, is_unfinished, length-spelling, nil_of_length}
use Rattle.envelope.specs.facts.Fronts.{prefix_unbroken}

same_or_not : (a b : ℕ) → (a ≡ b) ⊎ (a ≢ b)
same_or_not a b =
    elim (cases_lt a b) [
      | inl less ↦ inr (λ e. omega arith)
      | inr le ↦ elim (cases_lt b a) [ inl more ↦ inr (λ e. omega arith) | inr same ↦ inl (omega arith) ]
    ]

good_byte_or_not : (kind : FrameKind) (b : ℕ) → IsGoodByte kind b ⊎ (IsGoodByte kind b → ⊥)
good_byte_or_not kind b =
    elim (cases_lt b (least_byte kind)) [
      | inl low ↦ inr (λ p. omega (arith, p.0))
      | inr above ↦ elim (cases_lt 126 b) [ inl high ↦ inr (λ p. omega (arith, p.1)) | inr below ↦ inl (above, below) ]
    ]

-- ---- whether the last byte breaks the table

abbrev IsBroken : FrameKind → List ℕ → Type 0
IsBroken kind bytes = (part : Part) × (at : ℕ) × Breaks kind bytes part at

true_or_false : (b : Bool) → (b ≡ true) ⊎ (b ≡ false)
true_or_false true = inl refl
true_or_false false = inr refl

status_or_not : (kind : FrameKind) (bytes : List ℕ) → IsBroken kind bytes ⊎ (length bytes ≡ 1 → 0 < lead kind → is_status (get_or bytes 0 0) ≡ true)
unfolding Breaks
status_or_not kind bytes =
    elim (cases_lt 0 (lead kind)) [
      | inr none ↦ inr (λ e some. absurd (omega arith))
      | inl some ↦ elim (cases_lt 0 (length bytes)) [
        | inr empty ↦ inr (λ e a. absurd (omega arith))
        | inl there ↦ elim (true_or_false (is_status (get_or bytes 0 0))) [
          | inl good ↦ inr (λ e a. good)
          | inr bad ↦ inl (Status, 0, (refl, (some, there, bad)))
        ]
      ]
    ]

text_length_or_not : (kind : FrameKind) (bytes : List ℕ) → IsBroken kind bytes ⊎ (length bytes ≡ lead kind + 2 → (least_text kind ≤ text_length kind bytes) × (text_length kind bytes ≤ most_text kind (get_or bytes 0 0)))
unfolding Breaks
text_length_or_not kind bytes =
    elim (cases_lt (length bytes) (lead kind + 2)) [
      | inl few ↦ inr (λ two. absurd (omega arith))
      | inr two ↦ elim (cases_lt (text_length kind bytes) (least_text kind)) [
        | inl less ↦ inl (TextLength, lead kind, (refl, two, inl less))
        | inr some ↦ elim (cases_lt (most_text kind (get_or bytes 0 0)) (text_length kind bytes)) [
          | inl long ↦ inl (TextLength, lead kind, (refl, two, inr long))
          | inr short ↦ inr (λ e. (some, short))
        ]
      ]
    ]

text_or_not : (kind : FrameKind) (bytes : List ℕ) → IsBroken kind bytes ⊎ (lead kind + 3 ≤ length bytes → length bytes ≤ lead kind + 2 + text_length kind bytes → IsGoodByte kind (get_or bytes (length bytes - 1) 0))
unfolding Breaks
text_or_not kind bytes =
    elim (cases_lt (length bytes) (lead kind + 3)) [
      | inl few ↦ inr (λ three inside. absurd (omega arith))
      | inr three ↦ elim (cases_lt (lead kind + 2 + text_length kind bytes) (length bytes)) [
        | inl past ↦ inr (λ a inside. absurd (omega arith))
        | inr inside ↦ elim (good_byte_or_not kind (get_or bytes (length bytes - 1) 0)) [
          | inl good ↦ inr (λ a b. good)
          | inr bad ↦ inl (Text, length bytes - 1, (omega arith, omega arith, omega arith, bad))
        ]
      ]
    ]

flag_or_not : (kind : FrameKind) (bytes : List ℕ) → IsBroken kind bytes ⊎ (length bytes ≡ lead kind + 3 + text_length kind bytes → get_or bytes (length bytes - 1) 0 ≡ 0)
unfolding Breaks
flag_or_not kind bytes =
    elim (same_or_not (length bytes) (lead kind + 3 + text_length kind bytes)) [
      | inr other ↦ inr (λ e. absurd (other e))
      | inl is ↦ elim (same_or_not (get_or bytes (length bytes - 1) 0) 0) [
        | inl good ↦ inr (λ e. good)
        | inr bad ↦ inl (Flag, length bytes - 1, (omega arith, omega arith, bad))
      ]
    ]

body_length_or_not : (kind : FrameKind) (bytes : List ℕ) → IsBroken kind bytes ⊎ (length bytes ≡ lead kind + 7 + text_length kind bytes → body_length kind bytes ≤ most_body kind (get_or bytes 0 0))
unfolding Breaks
body_length_or_not kind bytes =
    elim (cases_lt (length bytes) (lead kind + 7 + text_length kind bytes)) [
      | inl few ↦ inr (λ all. absurd (omega arith))
      | inr all ↦ elim (cases_lt (most_body kind (get_or bytes 0 0)) (body_length kind bytes)) [
        | inl long ↦ inl (BodyLength, lead kind + 3 + text_length kind bytes, (refl, omega arith, long))
        | inr short ↦ inr (λ e. short)
      ]
    ]

last_or_not : (kind : FrameKind) (bytes : List ℕ) → IsBroken kind bytes ⊎ LastIsRight kind bytes
last_or_not kind bytes =
    elim (status_or_not kind bytes) [
      | inl broken ↦ inl broken
      | inr status ↦ elim (text_length_or_not kind bytes) [
        | inl broken ↦ inl broken
        | inr text-length ↦ elim (text_or_not kind bytes) [
          | inl broken ↦ inl broken
          | inr text ↦ elim (flag_or_not kind bytes) [
            | inl broken ↦ inl broken
            | inr flag ↦ elim (body_length_or_not kind bytes) [
              | inl broken ↦ inl broken
              | inr long ↦ inr record { status_right = status; text_length_right = text-length; text_right = text; flag_right = flag; body_length_right = long }
            ]
          ]
        ]
      ]
    ]

-- ---- whether any byte does

abbrev BreaksOrNot : FrameKind → List ℕ → Type 0
BreaksOrNot kind bytes = ((part : Part) × (at : ℕ) × BreaksFirst kind bytes part at) ⊎ IsUnbroken kind bytes

one_more : (kind : FrameKind) (bytes : List ℕ) → 0 < length bytes → IsUnbroken kind (take (length bytes - 1) bytes) → BreaksOrNot kind bytes
one_more kind bytes some prefix =
    elim (last_or_not kind bytes) [
      | inl broken ↦ inl (broken.0, broken.1, BreaksFirst_last kind bytes broken.0 broken.1 some prefix broken.2)
      | inr right ↦ inr (IsUnbroken_last kind bytes some prefix right)
    ]

prefix_breaks_or_not : (kind : FrameKind) (n : ℕ) (bytes : List ℕ) → n ≤ length bytes → BreaksOrNot kind (take n bytes)
prefix_breaks_or_not kind zero bytes within = inr (nil_unbroken kind)
prefix_breaks_or_not kind (suc n) bytes within =
    let next : suc n ≡ n + 1 = omega arith in
    let whole : take (suc n) bytes ≡ take n bytes ++ get_or bytes n 0 ∷ [] = ap (λ (k : ℕ). take k bytes) next ∙ take_more bytes n 0 (omega arith) in
    let len : length (take (suc n) bytes) ≡ suc n = omega (arith, length-take (suc n) bytes) in
    let cut : length (take (suc n) bytes) - 1 ≡ n = omega arith in
    let prefix : take (length (take (suc n) bytes) - 1) (take (suc n) bytes) ≡ take n bytes = ap (λ (k : ℕ). take k (take (suc n) bytes)) cut ∙ take-take n (suc n) bytes (omega arith) in
    elim (prefix_breaks_or_not kind n bytes (omega arith)) [
      | inl broken ↦ inl (broken.0, broken.1, subst (λ (x : List ℕ). BreaksFirst kind x broken.0 broken.1) (sym whole) (BreaksFirst-longer kind (take n bytes) (get_or bytes n 0 ∷ []) broken.0 broken.1 broken.2))
      | inr unbroken ↦ one_more kind (take (suc n) bytes) (omega arith) (subst (IsUnbroken kind) (sym prefix) unbroken)
    ]

breaks_or_not : (kind : FrameKind) (bytes : List ℕ) → BreaksOrNot kind bytes
breaks_or_not kind bytes = subst (BreaksOrNot kind) (take_all (length bytes) bytes (omega arith)) (prefix_breaks_or_not kind (length bytes) bytes (omega arith))

-- ---- the first byte

unbroken_begins : (kind : FrameKind) (bytes : List ℕ) → IsBytes bytes → IsUnbroken kind bytes → lead kind + 7 + text_length kind bytes ≤ length bytes → lead kind + 7 + text_length kind bytes + body_length kind bytes ≤ length bytes → BeginsFrame kind bytes
unfolding IsWhole
unbroken_begins kind bytes fits unbroken head all =
    let n = lead kind + 7 + text_length kind bytes + body_length kind bytes in
    let prefix = take n bytes in
    let whole : prefix ++ drop n bytes ≡ bytes = take-append-drop n bytes in
    let len : length prefix ≡ n = omega (arith, length-take n bytes) in
    let p : text_length kind bytes ≡ text_length kind prefix = ap (text_length kind) (sym whole) ∙ text_length-append kind prefix (drop n bytes) (omega arith) in
    let m : body_length kind bytes ≡ body_length kind prefix = ap (body_length kind) (sym whole) ∙ body_length-append kind prefix (drop n bytes) (omega arith) (omega arith) in
    let is : IsWhole kind prefix = (omega arith, omega arith) in
    let call = whole_is_frame kind prefix (IsBytes-take n bytes fits) (prefix_unbroken kind prefix (drop n bytes) (subst (IsUnbroken kind) (sym whole) unbroken)) is in
    (item_in kind prefix, drop n bytes, call.0, sym whole ∙ ap (λ (x : List ℕ). x ++ drop n bytes) call.1)

short_or_begins : (kind : FrameKind) (bytes : List ℕ) → IsBytes bytes → IsUnbroken kind bytes → IsShort kind bytes ⊎ BeginsFrame kind bytes
unfolding IsShort
short_or_begins kind bytes fits unbroken =
    elim (cases_lt (length bytes) (lead kind + 7 + text_length kind bytes)) [
      | inl few ↦ inl (λ head all. omega arith)
      | inr head ↦ elim (cases_lt (length bytes) (lead kind + 7 + text_length kind bytes + body_length kind bytes)) [
        | inl fewer ↦ inl (λ a all. omega arith)
        | inr all ↦ inr (unbroken_begins kind bytes fits unbroken head all)
      ]
    ]

-- ---- the reading

no_calls : (bytes : List ℕ) (end : End) → Ends 0 bytes end → HasReading bytes
no_calls bytes end ends = ([], end, record { rest = bytes; whole = refl; each = λ k d lt. absurd (omega arith); ends = ends })

abbrev later_end : ℕ → End → End
later_end n Clean = Clean
later_end n (Fault why place) = Fault why (n + place)
later_end n Open = Open

ends_later : (n from : ℕ) (rest : List ℕ) (end : End) → Ends from rest end → Ends (n + from) rest (later_end n end)
ends_later n from rest Clean h = h
ends_later n from rest (Fault why place) h = (h.0, h.1, omega (arith, h.2))
ends_later n from rest Open h = h

each_call : (call : CallBytes) (calls : List CallBytes) → IsCall call → All IsCall calls → All IsCall (call ∷ calls)
each_call call calls good h zero d lt = good
each_call call calls good h (suc k) d lt = h k d (omega arith)

one_call_more : (call : CallBytes) (rest : List ℕ) → IsCall call → HasReading rest → HasReading (frame call ++ rest)
one_call_more call rest good (calls, end, s) = (
  call ∷ calls,
  later_end (length (frame call)) end,
  record {
    rest = s.rest;
    whole = ap (λ (x : List ℕ). frame call ++ x) s.whole ∙ sym (append_assoc (frame call) (frames calls) s.rest);
    each = each_call call calls good s.each;
    ends = subst (λ (n : ℕ). Ends n s.rest (later_end (length (frame call)) end)) (sym (length-append (frame call) (frames calls))) (ends_later (length (frame call)) (length (frames calls)) s.rest end s.ends);
  },
)

nil_or_not : (bytes : List ℕ) → (bytes ≡ []) ⊎ (bytes ≢ [])
nil_or_not [] = inl refl
nil_or_not (b ∷ bs) = inr (λ e. cc)

broken_reading : (bytes : List ℕ) (part : Part) (at : ℕ) → BreaksFirst Calls bytes part at → HasReading bytes
unfolding Breaks
broken_reading bytes Status at h = absurd (omega (arith, h.breaks.1.0))
broken_reading bytes TextLength at h = no_calls bytes (Fault BadPathLength at) (at, h, omega arith)
broken_reading bytes Text at h = no_calls bytes (Fault BadPath at) (at, h, omega arith)
broken_reading bytes Flag at h = no_calls bytes (Fault BadFlag at) (at, h, omega arith)
broken_reading bytes BodyLength at h = no_calls bytes (Fault TooLong at) (at, h, omega arith)
broken_reading bytes Missing at h = absurd h.breaks

bounded_reading : (n : ℕ) (bytes : List ℕ) → length bytes ≤ n → IsBytes bytes → HasReading bytes
bounded_reading zero bytes few fits = no_calls bytes Clean (nil_of_length bytes few)
bounded_reading (suc n) bytes few fits =
    elim (nil_or_not bytes) [
      | inl none ↦ no_calls bytes Clean none
      | inr some ↦ elim (breaks_or_not Calls bytes) [
        | inl broken ↦ broken_reading bytes broken.0 broken.1 broken.2
        | inr unbroken ↦ elim (short_or_begins Calls bytes fits unbroken) [
          | inl short ↦ no_calls bytes Open (some, is_unfinished Calls bytes unbroken short)
          | inr begins ↦
              let rest : List ℕ = begins.1 in
              let len : length bytes ≡ length (frame begins.0) + length rest = ap length begins.3 ∙ length-append (frame begins.0) rest in
              let behind : drop (length (frame begins.0)) bytes ≡ rest = ap (λ (x : List ℕ). drop (length (frame begins.0)) x) begins.3 ∙ drop_at (frame begins.0) rest (length (frame begins.0)) refl in
              let more : HasReading rest = bounded_reading n rest (omega (arith, length-spelling Calls begins.0)) (subst IsBytes behind (IsBytes-drop (length (frame begins.0)) bytes fits)) in
              subst HasReading (sym begins.3) (one_call_more begins.0 rest begins.2 more)
        ]
      ]
    ]

pub some_reading : (bytes : List ℕ) → All (λ byte. byte < 256) bytes → HasReading bytes
some_reading bytes each =
    bounded_reading (length bytes) bytes (omega arith) (λ i. elim (cases_lt i (length bytes)) [ inl lt ↦ each i 0 lt | inr le ↦ rw (get_or_past bytes i 0 le) (omega arith) ])
