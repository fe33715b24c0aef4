-- A run after one feed of a framer.
use Rattle.std.proofs.Common.{◌≡◌, ◌≢◌, ℕ, ◌+◌, ◌-◌, List, [], ◌∷◌, ◌++◌, length, take, drop, Option, Some, None, Result, Ok, Err, OnOk, refl, sym, ap, subst, ◌∙◌, append-nil, length-append, arith, inl, inr, ◌⊎◌}
use Rattle.std.specs.Result.{IsOk}
use Rattle.std.specs.Io.KnownBytes.{Appends}
use Rattle.std.proofs.lemmas.List.{take_all}
use Rattle.envelope.specs.declared.fault.FrameFault.{FrameFault}
use Rattle.envelope.specs.Envelope.{CallBytes, IsCall, IsReply, frame, reply}
use Rattle.envelope.specs.declared.kind.FrameKind.TheVariants.{Calls}
use Rattle.envelope.specs.Faults.{part, place}
use Rattle.envelope.specs.Stream.{IsUnfinished, part_of}
use Rattle.frames_core.specs.Framer.{FramerState, start}
use Rattle.frames_core.specs.Feeding.{Fed}
use Rattle.frames_core.specs.facts.Feeding.{all_of, fault_of, fed_count, known_break, not_at_end, taken_of}
use Rattle.frames_core.specs.Writing.{WrotePrefix}
use Rattle.csi_keeper.specs.Model.{Model}
use Rattle.csi_server.specs.Machine.{Machine, Answers, Runs}
use Rattle.csi_server.specs.Service.{reply_of}
use Rattle.csi_server.specs.declared.refused.Refusal.{Refusal}
use Rattle.csi_server.specs.Serving.{Answered, CutOff, HasFault, AnswersCall}
use Rattle.envelope.specs.declared.fault.FrameWhy.TheVariants.{EndOfInput}
use Rattle.envelope.specs.Stream.{Stream, Ends, Clean, Open}
use Rattle.csi_server.specs.declared.end.RunEnd.{RunEnd}
use Rattle.csi_server.specs.declared.end.RunEnd.TheVariants.{Done, Malformed, ReadFailed, TurnsSpent, WriteFailed, NoMemory}
use Rattle.csi_server.specs.Serving.{HasNoFault, Ended, fault_frame}
use Rattle.std.specs.Io.KnownBytes.{Consumes, Keeps}
use Rattle.std.proofs.KnownBytes.{Consumes-trans}
use Rattle.csi_server.specs.Live.{Live, IsReady, Advances, Refuses, Finishes}
use Rattle.csi_server.proofs.Runs.{runs_start, so_far_start, so_far_push, cut_call, cut_fault, answered, answered_then, answered_kept, answered_fault, stream_ends}

-- the bytes taken from the first piece on, after one more feed
pub advanced_open : (first old new : FramerState) (at : ℕ) (rest : List ℕ) (n : ℕ) → Advances first old at → Fed old new rest n → IsReady new → Advances first new (at + n)
advanced_open first old new at rest n a f ready = record {
  count = omega (arith, a.count, fed_count Calls part place old new rest n f);
  ready = ready;
}

pub advanced : (first old new next : FramerState) (at : ℕ) (rest : List ℕ) (n : ℕ) → Advances first old at → Fed old new rest n → next ≡ record { past = new.past + length new.held; held = []; fault = None } → IsUnfinished next.held → Advances first next (at + n)
advanced first old new next at rest n a f e open_ = record {
  count = omega (arith, a.count, fed_count Calls part place old new rest n f, ap (λ (s : FramerState). s.past + length s.held) e);
  ready = (ap (λ (s : FramerState). s.fault) e, open_);
}

pub fed_open : {S : Type 0} (m : Machine S) (begin now : Model S) (s : S) (read : List ℕ) (old new : FramerState) (rest : List ℕ) (n : ℕ) (held holds : Option (List ℕ)) → Live m begin now s read old held holds → Fed old new rest n → IsReady new → Live m begin now s (read ++ take n rest) new held holds
fed_open m begin now s read old new rest n held holds h fed ready = record {
  given = h.given;
  so_far = h.so_far;
  whole = taken_of Calls part place read h.given old new rest n h.whole fed;
  past = fed.past ∙ h.past;
  unknown = ready.0;
  unfinished = ready.1;
}

pub fed_fault : {S : Type 0} (m : Machine S) (begin now : Model S) (s : S) (read : List ℕ) (old new : FramerState) (rest : List ℕ) (n : ℕ) (held holds : Option (List ℕ)) (f : FrameFault) → Live m begin now s read old held holds → Fed old new rest n → new.fault ≡ Some f
    → (f.why ≢ EndOfInput) × Answered m begin now s (read ++ rest) held holds (λ calls. HasFault (read ++ rest) calls f.why f.at) []
fed_fault m begin now s read old new rest n held holds f h fed is =
    let k = known_break Calls part place old new rest n f h.unknown fed is in
    let longer = fault_of Calls new.past new.held (drop n rest) (part f) f.at k in
    let same : length h.given + (f.at - new.past) ≡ f.at = omega (arith, k.0, fed.past, h.past) in (
      (λ e. not_at_end Calls new.past new.held (part f) f.at k (ap part_of e)),
      subst (λ (p : ℕ). Answered m begin now s (read ++ rest) held holds (λ calls. HasFault (read ++ rest) calls f.why p) []) same
          (answered_fault m begin now s h.given (new.held ++ drop n rest) (read ++ rest) held holds h.so_far (all_of Calls part place read h.given old new rest n h.whole fed) f.why (f.at - new.past) longer.1),
    )

-- a call that was answered, and the bytes of its reply that were written
pub answered_call : {S U V E : Type 0} (m : Machine S) (old new : Model S) (s : S) (call : CallBytes) (answer : Result U Refusal) (buffer : List ℕ) (held holds : Option (List ℕ)) (put : Result V E)
    → Answers m old new s call (reply_of answer buffer) → IsReply (reply_of answer buffer)
    → OnOk put (Appends held holds (reply (reply_of answer buffer))) → WrotePrefix held holds (reply (reply_of answer buffer)) → AnswersCall m old new s call held holds (IsOk put)
answered_call m old new s call answer buffer held holds put is formed all part = record { r = reply_of answer buffer; answers = is; formed = formed; all = whole put all; part = part }
  where
    whole : {V E : Type 0} {P : Type 0} (put : Result V E) → OnOk put P → IsOk put → P
    whole (Ok v) all ok = all
    whole (Err e) all ok = absurd (cc)

pub fed_cut : {S : Type 0} (m : Machine S) (begin mid now : Model S) (s : S) (read : List ℕ) (old new : FramerState) (rest : List ℕ) (n : ℕ) (call : CallBytes) (held holds then_ : Option (List ℕ)) (Whole : Type 0) → Live m begin mid s read old held holds → Fed old new rest n → IsCall call → new.held ≡ frame call → ((t : S) → mid.holds t → AnswersCall m mid now t call holds then_ Whole)
    → CutOff m begin now s (read ++ rest) ⊥ held then_
fed_cut m begin mid now s read old new rest n call held holds then_ Whole h fed good is a =
    cut_call m begin mid now s h.given new.held (drop n rest) (read ++ rest) call held holds then_ Whole h.so_far good is (all_of Calls part place read h.given old new rest n h.whole fed) a

pub fed_answered : {S : Type 0} (m : Machine S) (begin mid now : Model S) (s : S) (read : List ℕ) (old new next : FramerState) (rest : List ℕ) (n : ℕ) (call : CallBytes) (held holds then_ : Option (List ℕ)) → Live m begin mid s read old held holds → Fed old new rest n → IsCall call → new.held ≡ frame call → (Whole : Type 0) → Whole → ((t : S) → mid.holds t → AnswersCall m mid now t call holds then_ Whole)
    → next ≡ record { past = new.past + length new.held; held = []; fault = None } → IsUnfinished next.held → Live m begin now s (read ++ take n rest) next held then_
fed_answered {S} m begin mid now s read old new next rest n call held holds then_ h fed good is Whole done a e open_ =
    subst (λ (fr : FramerState). Live m begin now s (read ++ take n rest) fr held then_) (sym e) (record {
      given = h.given ++ new.held;
      so_far = so_far_push m begin mid now s h.given new.held call held holds then_ h.so_far good is Whole done a;
      whole = taken_of Calls part place read h.given old new rest n h.whole fed ∙ sym (append-nil (h.given ++ new.held));
      past = omega (arith, fed.past, h.past, length-append h.given new.held);
      unknown = refl;
      unfinished = subst (λ (fr : FramerState). IsUnfinished fr.held) e open_;
    })

-- ---- the ends of a run

pub open_or_clean : (m : List ℕ) → IsUnfinished m → Ends 0 m Clean ⊎ Ends 0 m Open
open_or_clean [] u = inl refl
open_or_clean (b ∷ bs) u = inr ((λ e. absurd cc), u)

pub live_ends : {S : Type 0} (m : Machine S) (begin now : Model S) (s : S) (read : List ℕ) (fr : FramerState) (held holds : Option (List ℕ)) → Live m begin now s read fr held holds → Answered m begin now s read held holds (HasNoFault read) []
live_ends m begin now s read fr held holds h =
    elim (open_or_clean fr.held h.unfinished) [
      | inl none ↦ answered m begin now s h.given read held holds (HasNoFault read) h.so_far (inl (stream_ends m begin now s h.given fr.held read held holds h.so_far Clean h.whole none))
      | inr some ↦ answered m begin now s h.given read held holds (HasNoFault read) h.so_far (inr (stream_ends m begin now s h.given fr.held read held holds h.so_far Open h.whole some))
    ]

pub refuse_ends : {S : Type 0} (m : Machine S) (begin now : Model S) (s : S) (read : List ℕ) (AtEnd : Type 0) (f : FrameFault) (held holds then_ : Option (List ℕ)) (end : RunEnd) → Answered m begin now s read held holds (λ calls. HasFault read calls f.why f.at) [] → (f.why ≡ EndOfInput → AtEnd) → Refuses f holds then_ end → Ended m begin now s read AtEnd held then_ end
refuse_ends m begin now s read AtEnd f held holds then_ (Malformed g) h at_end r =
    subst (λ (k : FrameFault). Answered m begin now s read held then_ (λ calls. HasFault read calls k.why k.at) (fault_frame k) × (k.why ≡ EndOfInput → AtEnd)) (sym r.0) (answered_then m begin now s read held holds then_ (λ calls. HasFault read calls f.why f.at) (fault_frame f) h r.1, at_end)
refuse_ends m begin now s read AtEnd f held holds then_ WriteFailed h at_end r = cut_fault m begin now s read held holds then_ AtEnd f h at_end r
refuse_ends m begin now s read AtEnd f held holds then_ Done h at_end r = absurd r
refuse_ends m begin now s read AtEnd f held holds then_ ReadFailed h at_end r = absurd r
refuse_ends m begin now s read AtEnd f held holds then_ TurnsSpent h at_end r = absurd r
refuse_ends m begin now s read AtEnd f held holds then_ NoMemory h at_end r = absurd r

finish_at : {S : Type 0} (m : Machine S) (begin now : Model S) (s : S) (read : List ℕ) (AtEnd : Type 0) (fr : FramerState) (left : List ℕ) (held holds then_ : Option (List ℕ)) (end : RunEnd) → fr.held ≡ left → Live m begin now s read fr held holds → AtEnd → Finishes fr holds then_ end → Ended m begin now s read AtEnd held then_ end
finish_at m begin now s read AtEnd fr [] held holds then_ end e h at_end f =
    let d = f.0 h.unfinished h.unknown e in
    let a = answered m begin now s h.given read held holds (λ calls. Stream read calls Clean) h.so_far (stream_ends m begin now s h.given fr.held read held holds h.so_far Clean h.whole e) in
    subst (λ (r : RunEnd). Ended m begin now s read AtEnd held then_ r) (sym d.0) (answered_kept m begin now s read held holds then_ (λ calls. Stream read calls Clean) [] a d.1, at_end)
finish_at m begin now s read AtEnd fr (b ∷ bs) held holds then_ end e h at_end f =
    let some : fr.held ≢ [] = λ none. absurd cc in
    let fault : FrameFault = record { why = EndOfInput; at = fr.past + length fr.held } in
    let stream = stream_ends m begin now s h.given fr.held read held holds h.so_far Open h.whole (some, h.unfinished) in
    let place : fr.past + length fr.held ≡ length read = omega (arith, h.past, ap length h.whole, length-append h.given fr.held) in
    refuse_ends m begin now s read AtEnd fault held holds then_ end (answered m begin now s h.given read held holds (λ calls. HasFault read calls EndOfInput (fr.past + length fr.held)) h.so_far (stream, place)) (λ e. at_end) (f.1 h.unfinished h.unknown some)

pub finish_ends : {S : Type 0} (m : Machine S) (begin now : Model S) (s : S) (read : List ℕ) (AtEnd : Type 0) (fr : FramerState) (held holds then_ : Option (List ℕ)) (end : RunEnd) → Live m begin now s read fr held holds → AtEnd → Finishes fr holds then_ end → Ended m begin now s read AtEnd held then_ end
finish_ends m begin now s read AtEnd fr held holds then_ end h at_end f = finish_at m begin now s read AtEnd fr fr.held held holds then_ end refl h at_end f

pub Keeps-refl : (a : Option (List ℕ)) → Keeps a a
Keeps-refl None = tt
Keeps-refl (Some xs) = refl

pub nothing_ends : {S : Type 0} (m : Machine S) (now : Model S) (s : S) (held : Option (List ℕ)) → now.holds s → Runs m now now s [] × Keeps held held
nothing_ends m now s held h = (runs_start m now s h, Keeps-refl held)

pub live_start : {S : Type 0} (m : Machine S) (now : Model S) (s : S) (f : FramerState) (held : Option (List ℕ)) → now.holds s → f ≡ start → IsUnfinished f.held → Live m now now s [] f held held
live_start m now s f held h e open_ = subst (λ (x : FramerState). Live m now now s [] x held held) (sym e) (record {
  given = [];
  so_far = so_far_start m now s held h;
  whole = refl;
  past = refl;
  unknown = refl;
  unfinished = subst (λ (x : FramerState). IsUnfinished x.held) e open_;
})

pub ready_start : (f : FramerState) → f ≡ start → IsUnfinished f.held → IsReady f
ready_start f e open_ = (ap (λ (x : FramerState). x.fault) e, open_)

pub consumes_none : (a b : Option (List ℕ)) (buf : List ℕ) (n : ℕ) → n ≡ 0 → Consumes a b (take n buf) → Consumes a b []
consumes_none a b buf n e h = subst (λ (x : List ℕ). Consumes a b x) (ap (λ (k : ℕ). take k buf) e) h

pub consumes_same : (a b c : Option (List ℕ)) (read : List ℕ) → Consumes a b read → Consumes b c [] → Consumes a c read
consumes_same a b c read h k = subst (λ (x : List ℕ). Consumes a c x) (append-nil read) (Consumes-trans a b c read [] h k)
