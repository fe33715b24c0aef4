-- One feed of a framer: the bytes read and written after it, for every service.
use Rattle.std.proofs.Common.{◌≡◌, ◌≢◌, ℕ, ◌+◌, ◌-◌, ◌<◌, ◌≤◌, List, [], ◌∷◌, ◌++◌, length, take, drop, Option, Some, None, Result, Ok, Err, OnOk, refl, sym, ap, subst, ◌∙◌, append_assoc, append-nil, length-append, length-drop, arith, inl, inr}
use Rattle.std.specs.List.{flat_map}
use Rattle.std.specs.Io.KnownBytes.{Appends}
use Rattle.std.specs.Result.{IsOk}
use Rattle.std.proofs.KnownBytes.{Appends-kept, Appends-nil, Appends-trans}
use Rattle.std.proofs.lemmas.Grind.{flat_map-append}
use Rattle.std.proofs.lemmas.List.{take_all}
use Rattle.std.proofs.lemmas.List.Elements.{All-push, All-nil}
use Rattle.envelope.specs.declared.fault.FrameFault.{FrameFault}
use Rattle.envelope.specs.declared.fault.FrameWhy.TheVariants.{EndOfInput}
use Rattle.envelope.specs.declared.kind.FrameKind.TheVariants.{Calls}
use Rattle.envelope.specs.Envelope.{CallBytes, ReplyBytes, IsCall, IsReply, frame, reply}
use Rattle.envelope.specs.Faults.{part, place}
use Rattle.envelope.specs.Stream.{Stream, Clean, Open, IsUnfinished, frames, part_of}
use Rattle.frames_core.specs.Feeding.{Fed}
use Rattle.frames_core.specs.Framer.{FramerState, start}
use Rattle.frames_core.specs.facts.Feeding.{all_of, fault_of, known_break, not_at_end, some_fed, taken_of}
use Rattle.frames_core.specs.Writing.{WrotePrefix}
use Rattle.csi_server.specs.Live.{Finishes, IsReady, Refuses, Replying}
use Rattle.csi_server.specs.Serving.{Broken, HasFault, HasNoFault, IsPrompt, Replied, Wrote, fault_frame}
use Rattle.csi_server.specs.declared.end.RunEnd.{RunEnd}
use Rattle.csi_server.specs.declared.end.RunEnd.TheVariants.{Done, Malformed, ReadFailed, TurnsSpent, WriteFailed, NoMemory}
use Rattle.csi_server.proofs.Feeding.{open_or_clean}
use Rattle.csi_server.proofs.Runs.{fault_in, frames-append, frames-one, stream_of}

replies_push : (rs : List ReplyBytes) (r : ReplyBytes) → flat_map reply (rs ++ r ∷ []) ≡ flat_map reply rs ++ reply r
replies_push rs r = flat_map-append reply rs (r ∷ []) ∙ ap (λ (x : List ℕ). flat_map reply rs ++ x) (append-nil (reply r))

calls_push : (calls : List CallBytes) (call : CallBytes) → frames (calls ++ call ∷ []) ≡ frames calls ++ frame call
calls_push calls call = frames-append calls (call ∷ []) ∙ ap (λ (x : List ℕ). frames calls ++ x) (frames-one call)

-- the bytes read have no fault
no_fault : (read : List ℕ) (s : FramerState) (held holds : Option (List ℕ)) → (h : Replying read s held holds) → HasNoFault read h.calls
no_fault read s held holds h =
    elim (open_or_clean s.held h.unfinished) [
      | inl none ↦ inl (stream_of h.given s.held read h.calls h.each h.given_is Clean h.whole none)
      | inr some ↦ inr (stream_of h.given s.held read h.calls h.each h.given_is Open h.whole some)
    ]

prompt_in : (read piece : List ℕ) (s : FramerState) (held holds : Option (List ℕ)) → Replying read s held holds → length piece ≤ 4096 → IsPrompt (read ++ piece)
prompt_in read piece s held holds h one = record { before = read; piece = piece; whole = refl; one = one; calls = h.calls; faultless = no_fault read s held holds h }

-- ---- one feed

pub replying_start : (s : FramerState) (held : Option (List ℕ)) → s ≡ start → IsUnfinished s.held → Replying [] s held held
replying_start s held e open_ = subst (λ (x : FramerState). Replying [] x held held) (sym e) (record {
  given = [];
  calls = [];
  rs = [];
  each = All-nil IsCall;
  given_is = refl;
  replied = record { one_each = refl; formed = All-nil IsReply };
  whole = refl;
  past = refl;
  unknown = refl;
  unfinished = subst (λ (x : FramerState). IsUnfinished x.held) e open_;
  written = Appends-nil held;
})

pub replying_open : (read : List ℕ) (old new : FramerState) (rest : List ℕ) (n : ℕ) (held holds : Option (List ℕ)) → Replying read old held holds → Fed old new rest n → IsReady new → Replying (read ++ take n rest) new held holds
replying_open read old new rest n held holds h fed ready = record {
  given = h.given;
  calls = h.calls;
  rs = h.rs;
  each = h.each;
  given_is = h.given_is;
  replied = h.replied;
  whole = taken_of Calls part place read h.given old new rest n h.whole fed;
  past = fed.past ∙ h.past;
  unknown = ready.0;
  unfinished = ready.1;
  written = h.written;
}

pub replying_fault : (read : List ℕ) (old new : FramerState) (rest : List ℕ) (n : ℕ) (held holds : Option (List ℕ)) (f : FrameFault) → Replying read old held holds → Fed old new rest n → length rest ≤ 4096 → new.fault ≡ Some f
    → (f.why ≢ EndOfInput) × Replied held holds (λ calls. HasFault (read ++ rest) calls f.why f.at) [] × IsPrompt (read ++ rest)
replying_fault read old new rest n held holds f h fed one is =
    let k = known_break Calls part place old new rest n f h.unknown fed is in
    let longer = fault_of Calls new.past new.held (drop n rest) (part f) f.at k in
    let same : length h.given + (f.at - new.past) ≡ f.at = omega (arith, k.0, fed.past, h.past) in
    let fault = fault_in h.given (new.held ++ drop n rest) (read ++ rest) h.calls h.each h.given_is (all_of Calls part place read h.given old new rest n h.whole fed) f.why (f.at - new.past) longer.1 in (
      (λ e. not_at_end Calls new.past new.held (part f) f.at k (ap part_of e)),
      record {
        calls = h.calls;
        rs = h.rs;
        ended = subst (λ (p : ℕ). HasFault (read ++ rest) h.calls f.why p) same fault;
        replied = h.replied;
        written = subst (λ (x : List ℕ). Appends held holds x) (sym (append-nil (flat_map reply h.rs))) h.written;
      },
      prompt_in read rest old held holds h one,
    )

-- the reply to the whole call was written in part
pub replying_cut : (read : List ℕ) (old new : FramerState) (rest : List ℕ) (n : ℕ) (call : CallBytes) (r : ReplyBytes) (held holds then_ : Option (List ℕ)) → Replying read old held holds → Fed old new rest n → 0 < length rest → length rest ≤ 4096
    → IsCall call → new.held ≡ frame call → IsReply r → WrotePrefix holds then_ (reply r) → Broken (read ++ rest) ⊥ held then_
replying_cut read old new rest n call r held holds then_ h fed some one good is formed w =
    let all : read ++ rest ≡ h.given ++ (new.held ++ drop n rest) = all_of Calls part place read h.given old new rest n h.whole fed in
    let prefix : h.given ++ new.held ≡ frames (h.calls ++ call ∷ []) = ap (λ (x : List ℕ). x ++ new.held) h.given_is ∙ (ap (λ (x : List ℕ). frames h.calls ++ x) is ∙ sym (calls_push h.calls call)) in
    record {
      calls = h.calls;
      rs = h.rs;
      replied = h.replied;
      part = w.0;
      cut = inl (record {
        call = call;
        rest = drop n rest;
        whole = all ∙ (sym (append_assoc h.given new.held (drop n rest)) ∙ ap (λ (x : List ℕ). x ++ drop n rest) prefix);
        each = All-push IsCall h.calls call h.each good;
        few = omega (arith, one, length-drop n rest, some_fed Calls part place old new rest n h.unknown h.unfinished fed some);
        r = r;
        formed = formed;
        prefix = w.1;
      });
      written = Appends-trans held holds then_ (flat_map reply h.rs) w.0 h.written w.2;
    }

pub replying_more : (read : List ℕ) (old new next : FramerState) (rest : List ℕ) (n : ℕ) (call : CallBytes) (r : ReplyBytes) (held holds then_ : Option (List ℕ)) → Replying read old held holds → Fed old new rest n → IsCall call → new.held ≡ frame call → IsReply r → Appends holds then_ (reply r)
    → next ≡ record { past = new.past + length new.held; held = []; fault = None } → IsUnfinished next.held → Replying (read ++ take n rest) next held then_
replying_more read old new next rest n call r held holds then_ h fed good is formed w e open_ =
    subst (λ (s : FramerState). Replying (read ++ take n rest) s held then_) (sym e) (record {
      given = h.given ++ new.held;
      calls = h.calls ++ call ∷ [];
      rs = h.rs ++ r ∷ [];
      each = All-push IsCall h.calls call h.each good;
      given_is = ap (λ (x : List ℕ). x ++ new.held) h.given_is ∙ (ap (λ (x : List ℕ). frames h.calls ++ x) is ∙ sym (calls_push h.calls call));
      replied = record {
        one_each = omega (arith, h.replied.one_each, length-append h.rs (r ∷ []), length-append h.calls (call ∷ []));
        formed = All-push IsReply h.rs r h.replied.formed formed;
      };
      whole = taken_of Calls part place read h.given old new rest n h.whole fed ∙ sym (append-nil (h.given ++ new.held));
      past = omega (arith, fed.past, h.past, length-append h.given new.held);
      unknown = refl;
      unfinished = subst (λ (s : FramerState). IsUnfinished s.held) e open_;
      written = subst (λ (x : List ℕ). Appends held then_ x) (sym (replies_push h.rs r)) (Appends-trans held holds then_ (flat_map reply h.rs) (reply r) h.written w);
    })

-- a fact after the whole reply was put
pub whole_put : {V E : Type 0} {P : Type 0} (put : Result V E) → OnOk put P → IsOk put → P
whole_put (Ok v) all ok = all
whole_put (Err e) all ok = absurd (cc)

-- ---- the ends of a run

pub replied_so_far : (read : List ℕ) (s : FramerState) (held holds : Option (List ℕ)) → Replying read s held holds → Replied held holds (HasNoFault read) []
replied_so_far read s held holds h = record {
  calls = h.calls;
  rs = h.rs;
  ended = no_fault read s held holds h;
  replied = h.replied;
  written = subst (λ (x : List ℕ). Appends held holds x) (sym (append-nil (flat_map reply h.rs))) h.written;
}

-- the bytes of the fault's frame are written after all replies
after_replies : (held holds then_ : Option (List ℕ)) (rs : List ReplyBytes) (last : List ℕ) → Appends held holds (flat_map reply rs ++ []) → Appends holds then_ last → Appends held then_ (flat_map reply rs ++ last)
after_replies held holds then_ rs last h w =
    subst (λ (x : List ℕ). Appends held then_ x) (ap (λ (x : List ℕ). x ++ last) (append-nil (flat_map reply rs))) (Appends-trans held holds then_ (flat_map reply rs ++ []) last h w)

pub refusal_ends : (read : List ℕ) (AtEnd : Type 0) (f : FrameFault) (held holds then_ : Option (List ℕ)) (end : RunEnd) → Replied held holds (λ calls. HasFault read calls f.why f.at) [] → IsPrompt read → (f.why ≡ EndOfInput → AtEnd) → Refuses f holds then_ end → Wrote read AtEnd held then_ end
refusal_ends read AtEnd f held holds then_ (Malformed g) h prompt at_end r =
    subst (λ (k : FrameFault). Replied held then_ (λ calls. HasFault read calls k.why k.at) (fault_frame k) × (k.why ≡ EndOfInput → AtEnd) × IsPrompt read) (sym r.0) (
      record { calls = h.calls; rs = h.rs; ended = h.ended; replied = h.replied; written = after_replies held holds then_ h.rs (fault_frame f) h.written r.1 },
      at_end,
      prompt,
    )
refusal_ends read AtEnd f held holds then_ WriteFailed h prompt at_end r = record {
  calls = h.calls;
  rs = h.rs;
  replied = h.replied;
  part = r.0;
  cut = inr (record { fault = f; has = h.ended; at_end = at_end; prompt = prompt; prefix = r.1 });
  written = after_replies held holds then_ h.rs r.0 h.written r.2;
}
refusal_ends read AtEnd f held holds then_ Done h prompt at_end r = absurd r
refusal_ends read AtEnd f held holds then_ ReadFailed h prompt at_end r = absurd r
refusal_ends read AtEnd f held holds then_ TurnsSpent h prompt at_end r = absurd r
refusal_ends read AtEnd f held holds then_ NoMemory h prompt at_end r = absurd r

-- a run that broke before the end of the input is also a broken run if the end may have been found
pub broken_at : (read : List ℕ) (held holds : Option (List ℕ)) (AtEnd : Type 0) → Broken read ⊥ held holds → Broken read AtEnd held holds
broken_at read held holds AtEnd h = record {
  calls = h.calls;
  rs = h.rs;
  replied = h.replied;
  part = h.part;
  cut = elim h.cut [ inl last ↦ inl last | inr f ↦ inr (record { fault = f.fault; has = f.has; at_end = λ e. absurd (f.at_end e); prompt = f.prompt; prefix = f.prefix }) ];
  written = h.written;
}

finished_at : (read : List ℕ) (AtEnd : Type 0) (s : FramerState) (left : List ℕ) (held holds then_ : Option (List ℕ)) (end : RunEnd) → s.held ≡ left → Replying read s held holds → AtEnd → Finishes s holds then_ end → Wrote read AtEnd held then_ end
finished_at read AtEnd s [] held holds then_ end e h at_end f =
    let d = f.0 h.unfinished h.unknown e in
    let done : Replied held then_ (λ calls. Stream read calls Clean) [] = record {
      calls = h.calls;
      rs = h.rs;
      ended = stream_of h.given s.held read h.calls h.each h.given_is Clean h.whole e;
      replied = h.replied;
      written = Appends-kept held holds then_ (flat_map reply h.rs ++ []) (subst (λ (x : List ℕ). Appends held holds x) (sym (append-nil (flat_map reply h.rs))) h.written) d.1;
    } in
    subst (λ (r : RunEnd). Wrote read AtEnd held then_ r) (sym d.0) (done, at_end)
finished_at read AtEnd s (b ∷ bs) held holds then_ end e h at_end f =
    let some : s.held ≢ [] = λ none. absurd cc in
    let fault : FrameFault = record { why = EndOfInput; at = s.past + length s.held } in
    let stream = stream_of h.given s.held read h.calls h.each h.given_is Open h.whole (some, h.unfinished) in
    let place : s.past + length s.held ≡ length read = omega (arith, h.past, ap length h.whole, length-append h.given s.held) in
    let replied : Replied held holds (λ calls. HasFault read calls EndOfInput (s.past + length s.held)) [] = record {
      calls = h.calls;
      rs = h.rs;
      ended = (stream, place);
      replied = h.replied;
      written = subst (λ (x : List ℕ). Appends held holds x) (sym (append-nil (flat_map reply h.rs))) h.written;
    } in
    let prompt : IsPrompt read = subst IsPrompt (append-nil read) (prompt_in read [] s held holds h (omega arith)) in
    refusal_ends read AtEnd fault held holds then_ end replied prompt (λ e. at_end) (f.1 h.unfinished h.unknown some)

pub finish_writes : (read : List ℕ) (AtEnd : Type 0) (s : FramerState) (held holds then_ : Option (List ℕ)) (end : RunEnd) → Replying read s held holds → AtEnd → Finishes s holds then_ end → Wrote read AtEnd held then_ end
finish_writes read AtEnd s held holds then_ end h at_end f = finished_at read AtEnd s s.held held holds then_ end refl h at_end f
