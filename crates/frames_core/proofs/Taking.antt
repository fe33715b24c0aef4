-- The bytes of a piece that a framer takes.
use Rattle.std.proofs.Common.{◌≡◌, ℕ, ◌+◌, ◌-◌, ◌<◌, ◌≤◌, List, [], ◌++◌, length, take, drop, get_or, Some, None, refl, sym, ap, subst, ◌∙◌, arith, length-append, append_assoc, inl, inr, ◌⊎◌}
use Rattle.std.specs.Prelude.{Bool, IsTrue, false, min, true, ◌≢◌}
use Rattle.std.proofs.lemmas.List.{take-append-drop, length-take, length-drop, take-take, take_at, append-nil}
use Rattle.std.proofs.lemmas.Bool.{cases_lt}
use Rattle.std.proofs.Math.Seq.{take-append-add, take-add}
use Rattle.envelope.specs.declared.kind.FrameKind.{FrameKind}
use Rattle.envelope.specs.declared.kind.Part.{Part}
use Rattle.envelope.specs.declared.kind.Part.TheVariants.{Status, TextLength, Text, Flag, BodyLength, Missing}
use Rattle.envelope.specs.declared.head.Flaw.{Flaw}
use Rattle.envelope.specs.Grammar.{lead, text_length, body_length, Breaks, IsUnbroken, BreaksFirst, IsUnfinished}
use Rattle.envelope.specs.Head.{IsWhole, IsShort, BrokenPrefix, WholePrefix, most_head, most_frame}
use Rattle.frames_core.specs.Prefix.{TakesPrefix, Misses}
use Rattle.envelope.specs.facts.Breaking.{Breaks-longer, Breaks-shorter, text_length-append, body_length-append}
use Rattle.envelope.specs.facts.Fronts.{prefix_unbroken, front_unfinished, whole_unfinished, broken_unfinished}
use Rattle.envelope.specs.facts.Frames.{is_unfinished, Parts_of, short_room, text_short_of, head_fits, frame_fits, head_within}

-- a prefix of the bytes that were held and the piece
front_of : (old piece : List ℕ) (k n : ℕ) → k ≤ n → old ++ take n piece ≡ (old ++ take k piece) ++ drop k (take n piece)
front_of old piece k n le =
    let e : take k (take n piece) ++ drop k (take n piece) ≡ take n piece = take-append-drop k (take n piece) in
    let f : take k (take n piece) ≡ take k piece = take-take k n piece le in
    ap (λ (x : List ℕ). old ++ x) (sym (ap (λ (x : List ℕ). x ++ drop k (take n piece)) (sym f) ∙ e)) ∙ sym (append_assoc old (take k piece) (drop k (take n piece)))

back_some : (piece : List ℕ) (k n : ℕ) → k < n → n ≤ length piece → 0 < length (drop k (take n piece))
back_some piece k n lt le = omega (arith, length-drop k (take n piece), length-take n piece)

pub least_short : (kind : FrameKind) (old piece : List ℕ) (n : ℕ) → IsUnfinished kind (old ++ take n piece) → (k : ℕ) → k < n → IsUnfinished kind (old ++ take k piece)
least_short kind old piece n h k lt = front_unfinished kind (old ++ take k piece) (drop k (take n piece)) (subst (λ (x : List ℕ). IsUnfinished kind x) (front_of old piece k n (omega arith)) h)

pub least_whole : (kind : FrameKind) (old piece : List ℕ) (n : ℕ) → n ≤ length piece → IsUnbroken kind (old ++ take n piece) → IsWhole kind (old ++ take n piece) → (k : ℕ) → k < n → IsUnfinished kind (old ++ take k piece)
least_whole kind old piece n within unbroken whole k lt =
    let e = front_of old piece k n (omega arith) in
    whole_unfinished kind (old ++ take k piece) (drop k (take n piece)) (back_some piece k n lt within) (subst (IsUnbroken kind) e unbroken) (subst (IsWhole kind) e whole)

-- the prefix that was seen to be right ends one byte before the prefix that is broken
pub least_broken : (kind : FrameKind) (old piece : List ℕ) (n : ℕ) (why : Part) (at : ℕ) → 0 < n → n ≤ length piece → IsUnbroken kind (old ++ take (n - 1) piece) → BreaksFirst kind (old ++ take n piece) why at → (k : ℕ) → k < n → IsUnfinished kind (old ++ take k piece)
least_broken kind old piece n why at some within before h k lt =
    let e = front_of old piece k n (omega arith) in
    let f = front_of old piece k (n - 1) (omega arith) in
    broken_unfinished kind (old ++ take k piece) (drop k (take n piece)) why at
    (prefix_unbroken kind (old ++ take k piece) (drop k (take (n - 1) piece)) (subst (IsUnbroken kind) f before))
    (subst (λ (x : List ℕ). BreaksFirst kind x why at) e h)

-- a prefix of the held bytes and the head of the piece, as the held bytes and a prefix of the piece
pub cut_piece : (old piece : List ℕ) (h n : ℕ) → length old ≤ n → n ≤ length (old ++ take h piece) → take n (old ++ take h piece) ≡ old ++ take (n - length old) piece
cut_piece old piece h n above within =
    let e : n ≡ length old + (n - length old) = omega arith in
    let small : n - length old ≤ h = omega (arith, length-append old (take h piece), length-take h piece) in
    ap (λ (k : ℕ). take k (old ++ take h piece)) e ∙ (take-append-add old (take h piece) (n - length old) ∙ ap (λ (x : List ℕ). old ++ x) (take-take (n - length old) h piece small))

-- a break isn't within the prefix that is right
pub broken_later : (kind : FrameKind) (old all : List ℕ) (f : Flaw) (n : ℕ) → take (length old) all ≡ old → length old ≤ length all → IsUnbroken kind old → BrokenPrefix kind all f n → length old < n
unfolding IsUnbroken
broken_later kind old all f n prefix fits unbroken b =
    elim (cases_lt (length old) n) [
      | inl lt ↦ lt
      | inr le ↦
          let e : take n all ≡ take n old = sym (take-take n (length old) all le) ∙ ap (λ (x : List ℕ). take n x) prefix in
          let h : Breaks kind (take n old) f.part f.at = subst (λ (x : List ℕ). Breaks kind x f.part f.at) e b.breaks.breaks in
          absurd (unbroken f.part f.at (subst (λ (x : List ℕ). Breaks kind x f.part f.at) (take-append-drop n old) (Breaks-longer kind (take n old) (drop n old) f.part f.at h)))
    ]

-- a whole frame is not within a prefix that is short of one
pub whole_later : (kind : FrameKind) (old all : List ℕ) (n : ℕ) → take (length old) all ≡ old → IsShort kind old → WholePrefix kind all n → length old < n
unfolding IsShort IsWhole
whole_later kind old all n prefix short w =
    elim (cases_lt (length old) n) [
      | inl lt ↦ lt
      | inr le ↦
          let e : take n all ≡ take n old = sym (take-take n (length old) all le) ∙ ap (λ (x : List ℕ). take n x) prefix in
          let len : length (take n all) ≡ n = omega (arith, length-take n all, w.within) in
          let whole : IsWhole kind (take n old) = subst (IsWhole kind) e w.whole in
          let joined = take-append-drop n old in
          let ln : length (take n old) ≡ n = omega (arith, ap length e) in
          let p : text_length kind (take n old) ≡ text_length kind old = sym (text_length-append kind (take n old) (drop n old) (omega (arith, whole.0))) ∙ ap (text_length kind) joined in
          let m : body_length kind (take n old) ≡ body_length kind old = sym (body_length-append kind (take n old) (drop n old) (omega (arith, whole.0)) whole.0) ∙ ap (body_length kind) joined in
          absurd (short (omega (arith, whole.0)) (omega (arith, whole.1)))
    ]

pub takes_broken : (kind : FrameKind) (old piece all new : List ℕ) (h n count : ℕ) (f : Flaw) → all ≡ old ++ take h piece → IsUnbroken kind old → BrokenPrefix kind all f n → new ≡ take n all → count ≡ n - length old → TakesPrefix kind old piece new (record { count = count; flaw = Some f; whole = false })
takes_broken kind old piece all new h n count f is unbroken b new-is count-is =
    let prefix : take (length old) all ≡ old = ap (λ (x : List ℕ). take (length old) x) is ∙ take_at old (take h piece) (length old) refl in
    let len : length all ≡ length old + length (take h piece) = ap length is ∙ length-append old (take h piece) in
    let later = broken_later kind old all f n prefix (omega arith) unbroken b in
    let b2 : BrokenPrefix kind (old ++ take h piece) f n = rw is at b in
    let there : n ≤ length (old ++ take h piece) = b2.within in
    let cut : take n (old ++ take h piece) ≡ old ++ take count piece = cut_piece old piece h n (omega arith) there ∙ ap (λ (k : ℕ). old ++ take k piece) (sym count-is) in
    let same : n - 1 - length old ≡ count - 1 = omega arith in
    let cut-1 : take (n - 1) (old ++ take h piece) ≡ old ++ take (count - 1) piece = cut_piece old piece h (n - 1) (omega arith) (omega arith) ∙ ap (λ (k : ℕ). old ++ take k piece) same in
    let within : count ≤ length piece = omega (arith, b.within, length-take h piece) in
    let held : new ≡ old ++ take count piece = new-is ∙ (ap (λ (x : List ℕ). take n x) is ∙ cut) in
    let breaks : BreaksFirst kind (old ++ take count piece) f.part f.at = subst (λ (x : List ℕ). BreaksFirst kind x f.part f.at) cut b2.breaks in
    record {
      within = within;
      held = held;
      least = least_broken kind old piece count f.part f.at (omega arith) within (subst (IsUnbroken kind) cut-1 b2.before) breaks;
      stands = subst (λ (x : List ℕ). BreaksFirst kind x f.part f.at) (sym held) breaks;
      all = λ less. inr refl;
      marks = record { whole = λ on. absurd cc; short = λ off none. absurd cc };
      idle = λ none. absurd (omega arith);
    }

pub takes_whole : (kind : FrameKind) (old piece all new : List ℕ) (h n count : ℕ) → all ≡ old ++ take h piece → IsShort kind old → WholePrefix kind all n → new ≡ take n all → count ≡ n - length old → TakesPrefix kind old piece new (record { count = count; flaw = None; whole = true })
takes_whole kind old piece all new h n count is short w new-is count-is =
    let prefix : take (length old) all ≡ old = ap (λ (x : List ℕ). take (length old) x) is ∙ take_at old (take h piece) (length old) refl in
    let len : length all ≡ length old + length (take h piece) = ap length is ∙ length-append old (take h piece) in
    let later = whole_later kind old all n prefix short w in
    let w2 : WholePrefix kind (old ++ take h piece) n = rw is at w in
    let there : n ≤ length (old ++ take h piece) = w2.within in
    let cut : take n (old ++ take h piece) ≡ old ++ take count piece = cut_piece old piece h n (omega arith) there ∙ ap (λ (k : ℕ). old ++ take k piece) (sym count-is) in
    let within : count ≤ length piece = omega (arith, w.within, length-take h piece) in
    let held : new ≡ old ++ take count piece = new-is ∙ (ap (λ (x : List ℕ). take n x) is ∙ cut) in
    let unbroken : IsUnbroken kind (old ++ take count piece) = subst (IsUnbroken kind) cut w2.unbroken in
    let whole : IsWhole kind (old ++ take count piece) = subst (IsWhole kind) cut w2.whole in
    record {
      within = within;
      held = held;
      least = least_whole kind old piece count within unbroken whole;
      stands = rw held (unbroken, inr whole);
      all = λ less. inl (rw held whole);
      marks = record { whole = λ on. (refl, rw held whole); short = λ off none. absurd cc };
      idle = λ none. refl;
    }

-- after a whole head any bytes may follow
unbroken_longer : (kind : FrameKind) (bytes more : List ℕ) → IsUnbroken kind bytes → lead kind + 7 + text_length kind bytes ≤ length bytes → IsUnbroken kind (bytes ++ more)
unfolding IsUnbroken Breaks
unbroken_longer kind bytes more unbroken all Status at h = unbroken Status at (Breaks-shorter kind bytes more Status at h (omega arith))
unbroken_longer kind bytes more unbroken all TextLength at h = unbroken TextLength at (Breaks-shorter kind bytes more TextLength at h (omega arith))
unbroken_longer kind bytes more unbroken all Text at h = let t = text_length-append kind bytes more (omega arith) in unbroken Text at (Breaks-shorter kind bytes more Text at h (omega (arith, h.1)))
unbroken_longer kind bytes more unbroken all Flag at h = let t = text_length-append kind bytes more (omega arith) in unbroken Flag at (Breaks-shorter kind bytes more Flag at h (omega (arith, h.0)))
unbroken_longer kind bytes more unbroken all BodyLength at h = let t = text_length-append kind bytes more (omega arith) in unbroken BodyLength at (Breaks-shorter kind bytes more BodyLength at h (omega (arith, h.0)))
unbroken_longer kind bytes more unbroken all Missing at h = h

-- there is room for the missing bytes
pub missing_room : (kind : FrameKind) (bytes : List ℕ) (miss n : ℕ) → IsUnbroken kind bytes → IsShort kind bytes → Misses kind bytes miss → n ≤ miss → length bytes + n ≤ most_frame kind
missing_room kind bytes miss n unbroken short misses few =
    elim (cases_lt (length bytes) (lead kind + 7 + text_length kind bytes)) [
      | inl less ↦ omega (arith, misses.head less, short_room kind bytes unbroken short)
      | inr all ↦ let parts = Parts_of kind bytes unbroken all in omega (arith, misses.body all, parts.text_short, parts.body_short, frame_fits kind (get_or bytes 0 0))
    ]

longer_or_whole : (kind : FrameKind) (bytes more : List ℕ) (miss : ℕ) → lead kind + 7 + text_length kind bytes ≤ length bytes → Misses kind bytes miss → length more ≤ miss → (length more < miss → IsShort kind (bytes ++ more)) × (length more ≡ miss → IsWhole kind (bytes ++ more))
unfolding IsShort IsWhole
longer_or_whole kind bytes more miss all misses few =
    let len = length-append bytes more in
    let p = text_length-append kind bytes more (omega arith) in
    let m = body_length-append kind bytes more (omega arith) all in
    let e = misses.body all in
    (λ less a b. omega arith, λ same. (omega arith, omega arith))

-- the held bytes, with more of the message
pub record Longer (kind : FrameKind) (new : List ℕ) (last less : Type 0) : Type 0 where
  pub unbroken : IsUnbroken kind new
  pub or : IsShort kind new ⊎ IsWhole kind new
  pub whole : last → IsWhole kind new
  pub short : less → IsShort kind new

-- if the head is whole and the frame is not, some of the body is missing
some_missing : (kind : FrameKind) (bytes : List ℕ) (miss : ℕ) → lead kind + 7 + text_length kind bytes ≤ length bytes
    → IsShort kind bytes → Misses kind bytes miss → 0 < miss
unfolding IsShort
some_missing kind bytes miss all short misses =
    elim (cases_lt 0 miss) [
      | inl some ↦ some
      | inr none ↦ absurd (short all (omega (arith, misses.body all)))
    ]

longer : (kind : FrameKind) (bytes more : List ℕ) (miss : ℕ) → IsUnbroken kind bytes → IsShort kind bytes → Misses kind bytes miss → length more ≤ miss → (length bytes < lead kind + 7 + text_length kind bytes → more ≡ [])
    → Longer kind (bytes ++ more) ((lead kind + 7 + text_length kind bytes ≤ length bytes) × (length more ≡ miss))
    (0 < miss → length more < miss)
longer kind bytes more miss unbroken short misses few none =
    elim (cases_lt (length bytes) (lead kind + 7 + text_length kind bytes)) [
      | inl less ↦
          let e : bytes ++ more ≡ bytes = ap (λ (x : List ℕ). bytes ++ x) (none less) ∙ append-nil bytes in
          record {
            unbroken = subst (IsUnbroken kind) (sym e) unbroken;
            or = inl (subst (IsShort kind) (sym e) short);
            whole = λ last. absurd (omega (arith, last.0));
            short = λ less. subst (IsShort kind) (sym e) short;
          }
      | inr all ↦
          let l = longer_or_whole kind bytes more miss all misses few in
          record {
            unbroken = unbroken_longer kind bytes more unbroken all;
            or = elim (cases_lt (length more) miss) [ inl less ↦ inl (l.0 less) | inr enough ↦ inr (l.1 (omega arith)) ];
            whole = λ last. l.1 last.1;
            short = λ less. l.0 (less (some_missing kind bytes miss all short misses));
          }
    ]

least_longer : (kind : FrameKind) (old piece : List ℕ) (n : ℕ) → n ≤ length piece → IsUnbroken kind (old ++ take n piece) → IsShort kind (old ++ take n piece) ⊎ IsWhole kind (old ++ take n piece) → (k : ℕ) → k < n → IsUnfinished kind (old ++ take k piece)
least_longer kind old piece n within unbroken or k lt =
    elim or [
      | inl short ↦ least_short kind old piece n (is_unfinished kind (old ++ take n piece) unbroken short) k lt
      | inr whole ↦ least_whole kind old piece n within unbroken whole k lt
    ]

pub takes_short : (kind : FrameKind) (old piece all new : List ℕ) (h j miss count : ℕ) (whole : Bool)
    → all ≡ old ++ take h piece → h ≡ min (length piece) (most_head kind - length old) → IsUnbroken kind all → IsShort kind all → Misses kind all miss → j ≡ min (length (drop h piece)) miss → new ≡ all ++ take j (drop h piece)
    → count ≡ h + j → (IsTrue whole → (0 < miss) × (j ≡ miss)) → (whole ≡ false → 0 < miss → j ≢ miss)
    → TakesPrefix kind old piece new (record { count = count; flaw = None; whole = whole })
takes_short kind old piece all new h j miss count whole is h-is unbroken short misses j-is new-is count-is on off =
    let more = take j (drop h piece) in
    let long : length more ≡ j = omega (arith, length-take j (drop h piece)) in
    let rest = length-drop h piece in
    let room = head_within kind in
    let enough = room.0 in
    let len : length all ≡ length old + h = omega (arith, ap length is, length-append old (take h piece), length-take h piece) in
    let within : count ≤ length piece = omega arith in
    let held : new ≡ old ++ take count piece = new-is ∙ (ap (λ (x : List ℕ). x ++ more) is ∙ (append_assoc old (take h piece) more ∙ ap (λ (x : List ℕ). old ++ x) (sym (take-add h j piece) ∙ ap (λ (k : ℕ). take k piece) (sym count-is)))) in
    let same : all ++ more ≡ old ++ take count piece = sym new-is ∙ held in
    let l = longer kind all more miss unbroken short misses (omega arith) (λ less. let e : j ≡ 0 = omega (arith, misses.head less) in ap (λ (k : ℕ). take k (drop h piece)) e) in
    record {
      within = within;
      held = held;
      least = least_longer kind old piece count within (subst (IsUnbroken kind) same l.unbroken) (subst (λ (x : List ℕ). IsShort kind x ⊎ IsWhole kind x) same l.or);
      stands = subst (λ (x : List ℕ). IsUnbroken kind x × (IsShort kind x ⊎ IsWhole kind x)) (sym new-is) (l.unbroken, l.or);
      all = λ less. inl (subst (IsWhole kind) (sym new-is) (l.whole (
        elim (cases_lt (length all) (lead kind + 7 + text_length kind all)) [ inl few ↦ absurd (omega (arith, text_short_of kind all unbroken (omega arith), head_fits kind (get_or all 0 0))) | inr enough ↦ enough ],
        omega arith,
      )));
      marks = record {
        whole = λ is-whole. (
          refl,
          subst (IsWhole kind) (sym new-is) (l.whole (
            elim (cases_lt (length all) (lead kind + 7 + text_length kind all)) [
              | inl few ↦ absurd (omega (arith, misses.head few, (on is-whole).0))
              | inr enough ↦ enough
            ],
            omega (arith, (on is-whole).1),
          )),
        );
        short = λ not-whole none. subst (IsShort kind) (sym new-is) (l.short (λ some.
            elim (cases_lt (length more) miss) [
              | inl lt ↦ lt
              | inr le ↦ absurd (off not-whole some (omega arith))
            ]));
      };
      idle = λ none. refl;
    }
