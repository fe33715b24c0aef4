-- A run that goes on by one call.
use Rattle.std.proofs.Common.{◌≡◌, ◌≢◌, Bool, true, false, ◌||◌, ℕ, ◌+◌, List, [], ◌∷◌, ◌++◌, length, Option, refl, sym, ap, subst, ◌∙◌, append_assoc, append-nil, arith, All, inl, inr, ◌⊎◌}
use Rattle.std.specs.List.{AllByRecursion}
use Rattle.std.proofs.lemmas.List.{map-append, length-append}
use Rattle.std.proofs.lemmas.List.Elements.{All-push, All-nil}
use Rattle.std.specs.Io.KnownBytes.{Appends, Keeps}
use Rattle.std.proofs.KnownBytes.{Appends-kept, Appends-nil, Appends-trans}
use Rattle.envelope.specs.declared.fault.FrameWhy.{FrameWhy}
use Rattle.envelope.specs.declared.fault.FrameWhy.TheVariants.{BadPathLength, BadPath, BadFlag, TooLong, EndOfInput}
use Rattle.envelope.specs.declared.fault.FrameFault.{FrameFault}
use Rattle.envelope.specs.Envelope.{CallBytes, ReplyBytes, IsCall, IsReply, frame, reply}
use Rattle.envelope.specs.Stream.{Stream, End, Ends, Fault, Open, frames, FaultAt}
use Rattle.frames_core.specs.Writing.{IsPrefix, WrotePrefix}
use Rattle.csi_keeper.specs.Model.{Model}
use Rattle.csi_server.specs.Machine.{Machine, Mark, Unmarked, OutOfMemory, StoreRefused, StoreDown, Event, Runs, Answers, IsDue, Leaves, RoseBy, IsAllowed, IsIdle, KnowsDown, StaysDown, is_down_after, reported_down, may_leave, done, replies, state_after, store_mark, store_marks, step, calls_of, AreReplies}
use Rattle.csi_server.specs.Live.{SoFar}
use Rattle.csi_server.specs.Serving.{Answered, CutOff, HasFault, BeginsWithCalls, AnswersCall, fault_frame}

pub frames-append : (xs ys : List CallBytes) → frames (xs ++ ys) ≡ frames xs ++ frames ys
frames-append [] ys = refl
frames-append (x ∷ xs) ys = ap (λ (b : List ℕ). frame x ++ b) (frames-append xs ys) ∙ sym (append_assoc (frame x) (frames xs) (frames ys))

pub frames-one : (call : CallBytes) → frames (call ∷ []) ≡ frame call
frames-one call = append-nil (frame call)

pub replies-push : {S : Type 0} (m : Machine S) (s : S) (es : List Event) (e : Event) → replies m s (es ++ e ∷ []) ≡ replies m s es ++ reply (step m (state_after m s es) e).0
unfolding replies state_after
replies-push m s [] e = append-nil (reply (step m s e).0)
replies-push m s (x ∷ xs) e =
    ap (λ (b : List ℕ). reply (step m s x).0 ++ b) (replies-push m (step m s x).1 xs e)
    ∙ sym (append_assoc (reply (step m s x).0) (replies m (step m s x).1 xs) (reply (step m (state_after m (step m s x).1 xs) e).0))

formed_push : {S : Type 0} (m : Machine S) (s : S) (es : List Event) (e : Event) → AreReplies m s es → IsReply (step m (state_after m s es) e).0 → AreReplies m s (es ++ e ∷ [])
unfolding AreReplies state_after
formed_push m s [] e h k = (k, tt)
formed_push m s (x ∷ xs) e h k = (h.0, formed_push m (step m s x).1 xs e h.1 k)

pub state_after-push : {S : Type 0} (m : Machine S) (s : S) (es : List Event) (e : Event) → state_after m s (es ++ e ∷ []) ≡ (step m (state_after m s es) e).1
unfolding state_after
state_after-push m s [] e = refl
state_after-push m s (x ∷ xs) e = state_after-push m (step m s x).1 xs e

allowed-push : {S : Type 0} (m : Machine S) (es : List Event) (e : Event) → AllByRecursion (IsAllowed m) es → IsAllowed m e → AllByRecursion (IsAllowed m) (es ++ e ∷ [])
allowed-push m [] e h k = (k, tt)
allowed-push m (x ∷ xs) e h k = (h.0, allowed-push m xs e h.1 k)

-- ---- states, counts and survivors with one call more

state_after-append : {S : Type 0} (m : Machine S) (s : S) (es fs : List Event) → state_after m s (es ++ fs) ≡ state_after m (state_after m s es) fs
unfolding state_after
state_after-append m s [] fs = refl
state_after-append m s (x ∷ xs) fs = state_after-append m (step m s x).1 xs fs

marks-push : (es : List Event) (e : Event) → store_marks (es ++ e ∷ []) ≡ store_marks es + store_mark e.mark
unfolding store_marks
marks-push [] e = omega arith
marks-push (x ∷ xs) e = omega (arith, marks-push xs e)

rose-more : (a b c n k : ℕ) → RoseBy a b n → RoseBy b c k → RoseBy a c (n + k)
rose-more a b c n k (inl p) (inl q) = inl (omega (arith, p.0, q.0), q.1 ∙ p.1)
rose-more a b c n k (inl p) (inr q) = inr (omega (arith, q.0), omega (arith, p.0, p.1, q.1))
rose-more a b c n k (inr p) (inl q) = inr (omega (arith, p.0), omega (arith, p.1, q.0, q.1))
rose-more a b c n k (inr p) (inr q) = inr (omega (arith, p.0), omega (arith, p.1, q.1))

marked_keeps : {S : Type 0} (m : Machine S) (s : S) (call : CallBytes) (mark : Mark) → mark ≢ Unmarked → (step m s (record { call = call; mark = mark })).1 ≡ s
marked_keeps m s call Unmarked h = absurd (h refl)
marked_keeps m s call OutOfMemory h = refl
marked_keeps m s call StoreRefused h = refl
marked_keeps m s call StoreDown h = refl

-- a call that may leave something was refused
pub left_marks : (mark : Mark) → may_leave mark ≡ true → mark ≢ Unmarked
left_marks Unmarked h e = absurd (cc)
left_marks OutOfMemory h e = absurd (cc)
left_marks StoreRefused h e = absurd (cc)
left_marks StoreDown h e = absurd (cc)

abbrev Stays : {S : Type 0} → Machine S → S → Event → Type 0
Stays m s e = (step m s e).1 ≡ s

stays_push : {S : Type 0} (m : Machine S) (s : S) (es : List Event) (e : Event) → AllByRecursion (Stays m s) es → Stays m s e → AllByRecursion (Stays m s) (es ++ e ∷ [])
stays_push m s [] e h k = (k, tt)
stays_push m s (x ∷ xs) e h k = (h.0, stays_push m s xs e h.1 k)

stays_all : {S : Type 0} (m : Machine S) (s : S) (es : List Event) → AllByRecursion (Stays m s) es → state_after m s es ≡ s
unfolding state_after
stays_all m s [] h = refl
stays_all {S} m s (x ∷ xs) h = ap (λ (t : S). state_after m t xs) h.0 ∙ stays_all m s xs h.1

after_refused : {S : Type 0} (m : Machine S) (s : S) (e : Event) (es : List Event) → e.mark ≢ Unmarked → AllByRecursion (Stays m s) es → state_after m s (e ∷ es) ≡ s
unfolding state_after
after_refused {S} m s e es marked still = ap (λ (t : S). state_after m t es) (marked_keeps m s e.call e.mark marked) ∙ stays_all m s es still

-- the state after the run is the state in which the refused call was made
pub due_state : {S : Type 0} (m : Machine S) (s : S) (es : List Event) (t : S) (d : IsDue m s es t) → state_after m s es ≡ state_after m s d.before
due_state m s es t d =
    ap (λ (xs : List Event). state_after m s xs) d.whole
    ∙ (state_after-append m s d.before (d.refused ∷ d.after) ∙ after_refused m (state_after m s d.before) d.refused d.after (left_marks d.refused.mark d.is_left) d.still)

due_kept : {S : Type 0} (m : Machine S) (s : S) (es : List Event) (e : Event) (t : S) → IsDue m s es t → Stays m (state_after m s es) e → IsDue m s (es ++ e ∷ []) t
due_kept {S} m s es e t d keeps = record {
  before = d.before;
  refused = d.refused;
  after = d.after ++ e ∷ [];
  whole = ap (λ (xs : List Event). xs ++ e ∷ []) d.whole ∙ append_assoc d.before (d.refused ∷ d.after) (e ∷ []);
  is_left = d.is_left;
  still = stays_push m (state_after m s d.before) d.after e d.still (subst (λ (x : S). Stays m x e) (due_state m s es t d) keeps);
  is = d.is;
}

-- the state after the run, or the state that a refused call would have made
abbrev Left : {S : Type 0} → Machine S → S → List Event → S → Type 0
Left m s es t = (t ≡ state_after m s es) ⊎ IsDue m s es t

left_stays : {S : Type 0} (m : Machine S) (s : S) (es : List Event) (e : Event) (t : S) → Left m s es t → Stays m (state_after m s es) e → Left m s (es ++ e ∷ []) t
left_stays m s es e t (inl is) keeps = inl (is ∙ (sym keeps ∙ sym (state_after-push m s es e)))
left_stays m s es e t (inr due) keeps = inr (due_kept m s es e t due keeps)

-- a call that was refused for lack of memory or by the store adds the state that it would have made
left_marked : {S : Type 0} (m : Machine S) (s : S) (es : List Event) (e : Event) (t : S) (Old : Type 0) → may_leave e.mark ≡ true → (Old → Left m s es t) → Old ⊎ (t ≡ done m (state_after m s es) e.call) → Left m s (es ++ e ∷ []) t
left_marked m s es e t Old marked u (inl old) = left_stays m s es e t (u old) (marked_keeps m (state_after m s es) e.call e.mark (left_marks e.mark marked))
left_marked m s es e t Old marked u (inr is) = inr (record { before = es; refused = e; after = []; whole = refl; is_left = marked; still = tt; is = is })

left_push : {S : Type 0} (m : Machine S) (s : S) (es : List Event) (call : CallBytes) (mark : Mark) (old new : S → Type 0) → ((t : S) → old t → Left m s es t) → Leaves m old new (state_after m s es) call mark → (t : S) → new t → Left m s (es ++ record { call = call; mark = mark } ∷ []) t
left_push m s es call Unmarked old new u (inl kept) t h = left_stays m s es (record { call = call; mark = Unmarked }) t (u t (kept.1 t h)) kept.0
left_push m s es call Unmarked old new u (inr made) t h = inl (made t h ∙ sym (state_after-push m s es (record { call = call; mark = Unmarked })))
left_push m s es call OutOfMemory old new u l t h = left_marked m s es (record { call = call; mark = OutOfMemory }) t (old t) refl (u t) (l t h)
left_push m s es call StoreRefused old new u l t h = left_marked m s es (record { call = call; mark = StoreRefused }) t (old t) refl (u t) (l t h)
left_push m s es call StoreDown old new u l t h = left_stays m s es (record { call = call; mark = StoreDown }) t (u t (l t h)) (marked_keeps m (state_after m s es) call StoreDown (λ e. absurd cc))

-- ---- a store that is down, with one call more

stays_down_push : {S : Type 0} (m : Machine S) (down : Bool) (es : List Event) (e : Event) → StaysDown m down es → (is_down_after down es ≡ true → IsIdle m e.call e.mark) → StaysDown m down (es ++ e ∷ [])
unfolding StaysDown is_down_after
stays_down_push m down [] e h k = (k, tt)
stays_down_push m down (x ∷ xs) e h k = (h.0, stays_down_push m (down || reported_down x.mark) xs e h.1 k)

down_after_push : (down : Bool) (es : List Event) (e : Event) → is_down_after down (es ++ e ∷ []) ≡ (is_down_after down es || reported_down e.mark)
unfolding is_down_after
down_after_push down [] e = refl
down_after_push down (x ∷ xs) e = down_after_push (down || reported_down x.mark) xs e

-- a call over a store that is down
idle_by : {S : Type 0} (m : Machine S) (old new : Model S) (call : CallBytes) (r : ReplyBytes) (mark : Mark) → KnowsDown (λ t. m.respond t call) old new r mark → old.is_down ≡ true → IsIdle m call mark
idle_by m old new call r Unmarked k is = (r, k.unasked is refl)
idle_by m old new call r OutOfMemory k is = tt
idle_by m old new call r StoreRefused k is = absurd (cc (k.refused refl, is))
idle_by m old new call r StoreDown k is = tt

shut_by : {S : Type 0} (f : S → ReplyBytes × S) (old new : Model S) (r : ReplyBytes) (mark : Mark) (b : Bool) → KnowsDown f old new r mark → (b ≡ true → old.is_down ≡ true) → (b || reported_down mark) ≡ true → new.is_down ≡ true
shut_by f old new r mark true k was is = k.stays (was refl)
shut_by f old new r Unmarked false k was is = absurd (cc)
shut_by f old new r OutOfMemory false k was is = absurd (cc)
shut_by f old new r StoreRefused false k was is = absurd (cc)
shut_by f old new r StoreDown false k was is = k.stays (k.down refl)

pub runs_start : {S : Type 0} (m : Machine S) (now : Model S) (s : S) → now.holds s → Runs m now now s []
unfolding state_after store_marks AreReplies StaysDown is_down_after
runs_start m now s h = record {
  allowed = tt;
  formed = tt;
  held = h;
  counted = inl (refl, refl);
  survive = λ only t k. inl (only t k);
  ties = λ k. k;
  down = tt;
  shut = λ is. is;
}

-- the run with one call more
runs_push : {S : Type 0} (m : Machine S) (start mid new : Model S) (s : S) (es : List Event) (call : CallBytes) (r : ReplyBytes) → Runs m start mid s es → (a : Answers m mid new (state_after m s es) call r) → IsReply r → Runs m start new s (es ++ record { call = call; mark = a.mark } ∷ [])
runs_push {S} m start mid new s es call r run a good =
    let e : Event = record { call = call; mark = a.mark } in
    record {
      allowed = allowed-push m es e run.allowed a.allowed;
      formed = formed_push m s es e run.formed (subst (λ (x : ReplyBytes). IsReply x) a.reply good);
      held = subst new.holds (sym (state_after-push m s es e)) a.held;
      counted = subst (λ (n : ℕ). RoseBy start.refusals new.refusals n) (sym (marks-push es e)) (rose-more start.refusals mid.refusals new.refusals (store_marks es) (store_mark a.mark) run.counted a.counted);
      survive = λ only t h. left_push m s es call a.mark mid.survivors new.survivors (run.survive only) a.left t h;
      ties = λ h. a.ties (run.ties h);
      down = stays_down_push m start.is_down es e run.down (λ is. idle_by m mid new call r a.mark a.knows (run.shut is));
      shut = λ is. shut_by (λ t. m.respond t call) mid new r a.mark (is_down_after start.is_down es) a.knows run.shut (sym (down_after_push start.is_down es e) ∙ is);
    }

pub so_far_start : {S : Type 0} (m : Machine S) (now : Model S) (s : S) (held : Option (List ℕ)) → now.holds s → SoFar m now now s [] held held
unfolding replies
so_far_start m now s held h = record {
  events = [];
  run = runs_start m now s h;
  each = All-nil IsCall;
  whole = refl;
  written = Appends-nil held;
}

calls_push : (es : List Event) (e : Event) → calls_of (es ++ e ∷ []) ≡ calls_of es ++ e.call ∷ []
calls_push es e = map-append (λ (x : Event). x.call) es (e ∷ [])

frames_push : (es : List Event) (e : Event) → frames (calls_of (es ++ e ∷ [])) ≡ frames (calls_of es) ++ frame e.call
frames_push es e = ap frames (calls_push es e) ∙ (frames-append (calls_of es) (e.call ∷ []) ∙ ap (λ (x : List ℕ). frames (calls_of es) ++ x) (frames-one e.call))

calls_push_good : (es : List Event) (e : Event) → All IsCall (calls_of es) → IsCall e.call → All IsCall (calls_of (es ++ e ∷ []))
calls_push_good es e each good = subst (λ (cs : List CallBytes). All IsCall cs) (sym (calls_push es e)) (All-push IsCall (calls_of es) e.call each good)

pub so_far_push : {S : Type 0} (m : Machine S) (start mid new : Model S) (s : S) (bytes more : List ℕ) (call : CallBytes) (held holds then_ : Option (List ℕ)) → SoFar m start mid s bytes held holds → IsCall call → more ≡ frame call
    → (Whole : Type 0) → Whole → ((t : S) → mid.holds t → AnswersCall m mid new t call holds then_ Whole) → SoFar m start new s (bytes ++ more) held then_
so_far_push {S} m start mid new s bytes more call held holds then_ h good is Whole done from =
    let a = from (state_after m s h.events) h.run.held in
    let e : Event = record { call = call; mark = a.answers.mark } in
    record {
      events = h.events ++ e ∷ [];
      run = runs_push m start mid new s h.events call a.r h.run a.answers a.formed;
      each = calls_push_good h.events e h.each good;
      whole = ap (λ (x : List ℕ). x ++ more) h.whole ∙ (ap (λ (x : List ℕ). frames (calls_of h.events) ++ x) is ∙ sym (frames_push h.events e));
      written = subst (λ (x : List ℕ). Appends held then_ x) (ap (λ (r : ReplyBytes). replies m s h.events ++ reply r) a.answers.reply ∙ sym (replies-push m s h.events e)) (Appends-trans held holds then_ (replies m s h.events) (reply a.r) h.written (a.all done));
    }

pub cut_call : {S : Type 0} (m : Machine S) (start mid new : Model S) (s : S) (bytes more rest read : List ℕ) (call : CallBytes) (held holds then_ : Option (List ℕ)) (Whole : Type 0) → SoFar m start mid s bytes held holds → IsCall call → more ≡ frame call → read ≡ bytes ++ (more ++ rest)
    → ((t : S) → mid.holds t → AnswersCall m mid new t call holds then_ Whole) → CutOff m start new s read ⊥ held then_
cut_call {S} m start mid new s bytes more rest read call held holds then_ Whole h good is e from =
    let a = from (state_after m s h.events) h.run.held in
    let ev : Event = record { call = call; mark = a.answers.mark } in
    let prefix : bytes ++ more ≡ frames (calls_of (h.events ++ ev ∷ [])) = ap (λ (x : List ℕ). x ++ more) h.whole ∙ (ap (λ (x : List ℕ). frames (calls_of h.events) ++ x) is ∙ sym (frames_push h.events ev)) in
    record {
      events = h.events ++ ev ∷ [];
      begins = record { rest = rest; whole = e ∙ (sym (append_assoc bytes more rest) ∙ ap (λ (x : List ℕ). x ++ rest) prefix); each = calls_push_good h.events ev h.each good };
      run = runs_push m start mid new s h.events call a.r h.run a.answers a.formed;
      earlier = h.events;
      part = a.part.0;
      cut = inl (ev, refl, subst (λ (r : ReplyBytes). IsPrefix a.part.0 (reply r)) a.answers.reply a.part.1);
      written = Appends-trans held holds then_ (replies m s h.events) a.part.0 h.written a.part.2;
    }

-- the rest of the stream gives the stream its end
pub stream_of : (bytes rest read : List ℕ) (calls : List CallBytes) → All IsCall calls → bytes ≡ frames calls → (end : End) → read ≡ bytes ++ rest → Ends (length bytes) rest end → Stream read calls end
stream_of bytes rest read calls each whole end e ends = record {
  rest = rest;
  whole = e ∙ ap (λ (x : List ℕ). x ++ rest) whole;
  each = each;
  ends = subst (λ (x : List ℕ). Ends (length x) rest end) whole ends;
}

pub stream_ends : {S : Type 0} (m : Machine S) (start now : Model S) (s : S) (bytes rest read : List ℕ) (held holds : Option (List ℕ)) (h : SoFar m start now s bytes held holds) (end : End) → read ≡ bytes ++ rest → Ends (length bytes) rest end → Stream read (calls_of h.events) end
stream_ends m start now s bytes rest read held holds h end e ends = stream_of bytes rest read (calls_of h.events) h.each h.whole end e ends

pub answered : {S : Type 0} (m : Machine S) (start now : Model S) (s : S) (bytes read : List ℕ) (held holds : Option (List ℕ)) (IsEnd : List CallBytes → Type 0) (h : SoFar m start now s bytes held holds) → IsEnd (calls_of h.events) → Answered m start now s read held holds IsEnd []
answered m start now s bytes read held holds IsEnd h end = record {
  events = h.events;
  ended = end;
  run = h.run;
  written = subst (λ (x : List ℕ). Appends held holds x) (sym (append-nil (replies m s h.events))) h.written;
}

pub fault_in : (bytes rest read : List ℕ) (calls : List CallBytes) → All IsCall calls → bytes ≡ frames calls → read ≡ bytes ++ rest → (why : FrameWhy) (at : ℕ) → FaultAt rest why at → HasFault read calls why (length bytes + at)
fault_in bytes rest read calls each whole e EndOfInput at f = (stream_of bytes rest read calls each whole Open e f.1, omega (arith, f.0, ap length e, length-append bytes rest))
fault_in bytes rest read calls each whole e BadPathLength at f = stream_of bytes rest read calls each whole (Fault BadPathLength (length bytes + at)) e (at, f, refl)
fault_in bytes rest read calls each whole e BadPath at f = stream_of bytes rest read calls each whole (Fault BadPath (length bytes + at)) e (at, f, refl)
fault_in bytes rest read calls each whole e BadFlag at f = stream_of bytes rest read calls each whole (Fault BadFlag (length bytes + at)) e (at, f, refl)
fault_in bytes rest read calls each whole e TooLong at f = stream_of bytes rest read calls each whole (Fault TooLong (length bytes + at)) e (at, f, refl)

pub answered_fault : {S : Type 0} (m : Machine S) (start now : Model S) (s : S) (bytes rest read : List ℕ) (held holds : Option (List ℕ)) → SoFar m start now s bytes held holds → read ≡ bytes ++ rest → (why : FrameWhy) (at : ℕ) → FaultAt rest why at → Answered m start now s read held holds (λ calls. HasFault read calls why (length bytes + at)) []
answered_fault m start now s bytes rest read held holds h e why at f = answered m start now s bytes read held holds (λ calls. HasFault read calls why (length bytes + at)) h (fault_in bytes rest read (calls_of h.events) h.each h.whole e why at f)

-- ---- the end of a run

fault_begins : (read : List ℕ) (calls : List CallBytes) (why : FrameWhy) (at : ℕ) → HasFault read calls why at → BeginsWithCalls read calls
fault_begins read calls EndOfInput at h = record { rest = h.0.rest; whole = h.0.whole; each = h.0.each }
fault_begins read calls BadPathLength at h = record { rest = h.rest; whole = h.whole; each = h.each }
fault_begins read calls BadPath at h = record { rest = h.rest; whole = h.whole; each = h.each }
fault_begins read calls BadFlag at h = record { rest = h.rest; whole = h.whole; each = h.each }
fault_begins read calls TooLong at h = record { rest = h.rest; whole = h.whole; each = h.each }

pub cut_fault : {S : Type 0} (m : Machine S) (start now : Model S) (s : S) (read : List ℕ) (held holds then_ : Option (List ℕ)) (AtEnd : Type 0) (f : FrameFault) → Answered m start now s read held holds (λ calls. HasFault read calls f.why f.at) [] → (f.why ≡ EndOfInput → AtEnd) → WrotePrefix holds then_ (fault_frame f) → CutOff m start now s read AtEnd held then_
cut_fault m start now s read held holds then_ AtEnd f h at_end w = record {
  events = h.events;
  begins = fault_begins read (calls_of h.events) f.why f.at h.ended;
  run = h.run;
  earlier = h.events;
  part = w.0;
  cut = inr (f, refl, h.ended, at_end, w.1);
  written = subst (λ (x : List ℕ). Appends held then_ x) (ap (λ (x : List ℕ). x ++ w.0) (append-nil (replies m s h.events))) (Appends-trans held holds then_ (replies m s h.events ++ []) w.0 h.written w.2);
}

-- a cut before the end of the input is also a cut if the end may have been found
pub cut_at : {S : Type 0} (m : Machine S) (start now : Model S) (s : S) (read : List ℕ) (held holds : Option (List ℕ)) (AtEnd : Type 0) → CutOff m start now s read ⊥ held holds → CutOff m start now s read AtEnd held holds
cut_at m start now s read held holds AtEnd h = record {
  events = h.events;
  begins = h.begins;
  run = h.run;
  earlier = h.earlier;
  part = h.part;
  cut = elim h.cut [ inl last ↦ inl last | inr fault ↦ inr (fault.0, fault.1, fault.2, (λ e. absurd (fault.3 e)), fault.4) ];
  written = h.written;
}

pub answered_then : {S : Type 0} (m : Machine S) (start now : Model S) (s : S) (read : List ℕ) (held holds then_ : Option (List ℕ)) (IsEnd : List CallBytes → Type 0) (last : List ℕ) → Answered m start now s read held holds IsEnd [] → Appends holds then_ last → Answered m start now s read held then_ IsEnd last
answered_then m start now s read held holds then_ IsEnd last h w = record {
  events = h.events;
  ended = h.ended;
  run = h.run;
  written = subst (λ (x : List ℕ). Appends held then_ x) (ap (λ (x : List ℕ). x ++ last) (append-nil (replies m s h.events))) (Appends-trans held holds then_ (replies m s h.events ++ []) last h.written w);
}

pub answered_kept : {S : Type 0} (m : Machine S) (start now : Model S) (s : S) (read : List ℕ) (held holds then_ : Option (List ℕ)) (IsEnd : List CallBytes → Type 0) (last : List ℕ) → Answered m start now s read held holds IsEnd last → Keeps holds then_ → Answered m start now s read held then_ IsEnd last
answered_kept m start now s read held holds then_ IsEnd last h k = record {
  events = h.events;
  ended = h.ended;
  run = h.run;
  written = Appends-kept held holds then_ (replies m s h.events ++ last) h.written k;
}

adds_nothing_at : (before after : List Event) (e : Event) → AllByRecursion (λ x. may_leave x.mark ≡ false) (before ++ e ∷ after) → may_leave e.mark ≡ false
adds_nothing_at [] after e h = h.0
adds_nothing_at (x ∷ xs) after e h = adds_nothing_at xs after e h.1

left_settled : {S : Type 0} (m : Machine S) (s : S) (es : List Event) (t : S) → Left m s es t → AllByRecursion (λ x. may_leave x.mark ≡ false) es → t ≡ state_after m s es
left_settled m s es t (inl is) none = is
left_settled m s es t (inr due) none =
    let not_left : may_leave due.refused.mark ≡ false = adds_nothing_at due.before due.after due.refused (subst (λ (xs : List Event). AllByRecursion (λ x. may_leave x.mark ≡ false) xs) due.whole none) in
    let left : may_leave due.refused.mark ≡ true = due.is_left in
    absurd (cc)

pub run_settled : {S : Type 0} (m : Machine S) (old new : Model S) (s : S) (es : List Event) → Runs m old new s es → AllByRecursion (λ x. may_leave x.mark ≡ false) es → ((t : S) → old.survivors t → t ≡ s) → (t : S) → new.survivors t → t ≡ state_after m s es
run_settled m old new s es run none only t h = left_settled m s es t (run.survive only t h) none
