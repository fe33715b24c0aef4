-- A run that shows replies, after one step.
use Rattle.std.proofs.Common.{◌≡◌, ◌≢◌, ℕ, ◌+◌, Bool, List, [], ◌∷◌, ◌++◌, ◌<◌, ◌≤◌, length, take, drop, Option, Some, None, refl, sym, ap, subst, ◌∙◌, append_assoc, append-nil, length-append, length-drop, arith, inr, Err, Ok}
use Rattle.std.specs.Prelude.{IfSome, IsNone, ◌||◌, true, false, ⊤}
use Rattle.std.specs.Io.KnownBytes.{Appends, Keeps}
use Rattle.std.proofs.KnownBytes.{Appends-kept, Appends-nil, Appends-trans}
use Rattle.std.proofs.lemmas.Grind.{flat_map-append}
use Rattle.std.proofs.lemmas.List.{take_all}
use Rattle.std.proofs.lemmas.List.Elements.{All-push, All-nil}
use Rattle.std.proofs.lemmas.List.Folds.{list_any-append}
use Rattle.csi_types.specs.declared.code.Code.TheVariants as code
use Rattle.csi_types.specs.declared.method.Method.{Method}
use Rattle.envelope.specs.Envelope.{ReplyBytes, IsReply, reply}
use Rattle.envelope.specs.declared.reply_fault.ReplyFault.{ReplyFault}
use Rattle.envelope.specs.declared.reply_fault.ReplyWhy.TheVariants.{EndOfInput}
use Rattle.frames_core.specs.Framer.{ReplyFramerState, IsReplyCutShort, IsReplyFaultOf, reply_cut_short, reply_start}
use Rattle.frames_core.specs.Feeding.{ReplyFed}
use Rattle.frames_core.specs.facts.Feeding.{all_of, fault_of, fed_count, known_break, not_at_end, some_fed, taken_of}
use Rattle.envelope.specs.declared.kind.FrameKind.TheVariants.{Replies}
use Rattle.envelope.specs.Faults.{reply_part, reply_place}
use Rattle.envelope.specs.Replies.{reply_part_of}
use Rattle.envelope.specs.ReplyStream.{IsUnfinished}
use Rattle.csi_client.specs.declared.showing.Halt.{Halt}
use Rattle.csi_client.specs.declared.showing.Halt.TheVariants as halt
use Rattle.csi_client.specs.declared.showing.ShowEnd.{ShowEnd}
use Rattle.csi_client.specs.declared.showing.ShowEnd.TheVariants.{Done, Malformed, BadBody, ReadFailed, WriteFailed, NoMemory}
use Rattle.csi_client.specs.Replies.{first_line}
use Rattle.csi_client.specs.Showing.{IsShown, AreShown, IsPrompt, Wrote, Ended, frames, has_refusal, is_refusal}
use Rattle.csi_client.specs.Live.{ShowsOne, end_of, Live, IsReady, Advances}

-- ---- lines of replies

shown_push : (method : Option Method) (rs : List ReplyBytes) (lines : List ℕ) (r : ReplyBytes) (more : List ℕ) → AreShown method rs lines → IsShown method r more → AreShown method (rs ++ r ∷ []) (lines ++ more)
shown_push method [] lines r more h k = (more, [], k, refl, ap (λ (x : List ℕ). x ++ more) h ∙ sym (append-nil more))
shown_push method (q ∷ qs) lines r more h k =
    (h.0, h.1 ++ more, h.2, shown_push method qs h.1 r more h.3 k, ap (λ (x : List ℕ). x ++ more) h.4 ∙ append_assoc h.0 h.1 more)

frames_push : (rs : List ReplyBytes) (r : ReplyBytes) → frames (rs ++ r ∷ []) ≡ frames rs ++ reply r
frames_push rs r = flat_map-append reply rs (r ∷ []) ∙ ap (λ (x : List ℕ). frames rs ++ x) (append-nil (reply r))

or_false : (b : Bool) → (b || false) ≡ b
or_false true = refl
or_false false = refl

refusal_push : (rs : List ReplyBytes) (r : ReplyBytes) → has_refusal (rs ++ r ∷ []) ≡ (has_refusal rs || is_refusal r)
refusal_push rs r = list_any-append is_refusal rs (r ∷ []) ∙ ap (λ (b : Bool). has_refusal rs || b) (or_false (is_refusal r))

-- ---- the output for the input read so far

re_read : (method : Option Method) (read : List ℕ) (a b : Option (List ℕ)) (rs : List ReplyBytes) (rest last : List ℕ) → Wrote method read a b rs rest last → (more left : List ℕ) → more ≡ frames rs ++ left → Wrote method more a b rs left last
re_read method read a b rs rest last w more left e = record {
  lines = w.lines;
  shown = record { whole = e; each = w.shown.each; shown = w.shown.shown };
  written = w.written;
}

pub wrote_then : (method : Option Method) (read : List ℕ) (a b c : Option (List ℕ)) (rs : List ReplyBytes) (rest last : List ℕ) → Wrote method read a b rs rest [] → Appends b c last → Wrote method read a c rs rest last
wrote_then method read a b c rs rest last w k = record {
  lines = w.lines;
  shown = w.shown;
  written = subst (λ (x : List ℕ). Appends a c (x ++ last)) (append-nil w.lines) (Appends-trans a b c (w.lines ++ []) last w.written k);
}

pub wrote_kept : (method : Option Method) (read : List ℕ) (a b c : Option (List ℕ)) (rs : List ReplyBytes) (rest last : List ℕ) → Wrote method read a b rs rest last → Keeps b c → Wrote method read a c rs rest last
wrote_kept method read a b c rs rest last w k = record { lines = w.lines; shown = w.shown; written = Appends-kept a b c (w.lines ++ last) w.written k }

wrote_push : (method : Option Method) (read : List ℕ) (a b c : Option (List ℕ)) (rs : List ReplyBytes) (rest : List ℕ) (r : ReplyBytes) (lines : List ℕ) → Wrote method read a b rs rest [] → IsReply r → IsShown method r lines → Appends b c lines
    → (more left : List ℕ) → more ≡ frames (rs ++ r ∷ []) ++ left → Wrote method more a c (rs ++ r ∷ []) left []
wrote_push method read a b c rs rest r lines w good k j more left e =
    record {
      lines = w.lines ++ lines;
      shown = record { whole = e; each = All-push IsReply rs r w.shown.each good; shown = shown_push method rs w.lines r lines w.shown.shown k };
      written = subst (λ (x : List ℕ). Appends a c x) (sym (append-nil (w.lines ++ lines))) (subst (λ (x : List ℕ). Appends a c (x ++ lines)) (append-nil w.lines) (Appends-trans a b c (w.lines ++ []) lines w.written j));
    }

-- ---- one feed

-- the input read so far is the frames, then the held bytes, then the bytes not fed yet
split : (method : Option Method) (read : List ℕ) (old new : ReplyFramerState) (rest : List ℕ) (n : ℕ) (a b : Option (List ℕ)) (refused : Bool) → (h : Live method read old a b refused) → ReplyFed old new rest n → read ++ rest ≡ frames h.replies ++ (new.held ++ drop n rest)
split method read old new rest n a b refused h f = all_of Replies reply_part reply_place read (frames h.replies) old new rest n h.wrote.shown.whole f

split_taken : (method : Option Method) (read : List ℕ) (old new : ReplyFramerState) (rest : List ℕ) (n : ℕ) (a b : Option (List ℕ)) (refused : Bool) → (h : Live method read old a b refused) → ReplyFed old new rest n → read ++ take n rest ≡ frames h.replies ++ new.held
split_taken method read old new rest n a b refused h f = taken_of Replies reply_part reply_place read (frames h.replies) old new rest n h.wrote.shown.whole f

-- the input before this piece is replies and a prefix of a reply
prompt_in : (method : Option Method) (read piece : List ℕ) (s : ReplyFramerState) (a b : Option (List ℕ)) (refused : Bool) → Live method read s a b refused → length piece ≤ 4096 → IsPrompt (read ++ piece)
prompt_in method read piece s a b refused h one = record {
  before = read;
  piece = piece;
  whole = refl;
  one = one;
  replies = h.replies;
  rest = s.held;
  each = h.wrote.shown.each;
  parts = h.wrote.shown.whole;
  unfinished = h.unfinished;
}

-- after the whole reply there is less than a piece
few_left : (old new : ReplyFramerState) (rest : List ℕ) (n : ℕ) → old.fault ≡ None → IsUnfinished old.held → ReplyFed old new rest n → 0 < length rest → length rest ≤ 4096 → length (drop n rest) < 4096
few_left old new rest n none open_ f some one = omega (arith, one, length-drop n rest, some_fed Replies reply_part reply_place old new rest n none open_ f some)

pub fed_fault : (method : Option Method) (read : List ℕ) (old new : ReplyFramerState) (rest : List ℕ) (n : ℕ) (a b : Option (List ℕ)) (refused : Bool) (f : ReplyFault) → Live method read old a b refused → ReplyFed old new rest n → length rest ≤ 4096 → new.fault ≡ Some f → Ended method (read ++ rest) ⊥ a b (Malformed f)
fed_fault method read old new rest n a b refused f h fed one is =
    let k = known_break Replies reply_part reply_place old new rest n f h.unknown fed is in (
      h.replies,
      new.held ++ drop n rest,
      re_read method read a b h.replies old.held [] h.wrote (read ++ rest) (new.held ++ drop n rest) (split method read old new rest n a b refused h fed),
      subst (λ (past : ℕ). IsReplyFaultOf past (new.held ++ drop n rest) f) (fed.past ∙ h.past) (fault_of Replies new.past new.held (drop n rest) (reply_part f) f.at k),
      (λ e. not_at_end Replies new.past new.held (reply_part f) f.at k (ap reply_part_of e)),
      prompt_in method read rest old a b refused h one,
    )

-- these lines of the whole reply were written, after all replies before it
wrote_last : (method : Option Method) (read : List ℕ) (old new : ReplyFramerState) (rest : List ℕ) (n : ℕ) (a b c : Option (List ℕ)) (refused : Bool) (r : ReplyBytes) (last : List ℕ) → (h : Live method read old a b refused) → ReplyFed old new rest n → new.held ≡ reply r
    → Appends b c last → Wrote method (read ++ rest) a c h.replies (reply r ++ drop n rest) last
wrote_last method read old new rest n a b c refused r last h fed is k =
    wrote_then method (read ++ rest) a b c h.replies (reply r ++ drop n rest) last
    (re_read method read a b h.replies old.held [] h.wrote (read ++ rest) (reply r ++ drop n rest) (split method read old new rest n a b refused h fed ∙ ap (λ (x : List ℕ). frames h.replies ++ (x ++ drop n rest)) is)) k

-- the whole reply was not shown, or shown in part, or its body is bad
pub fed_halted : (X : Type 0) (method : Option Method) (read : List ℕ) (old new : ReplyFramerState) (rest : List ℕ) (n : ℕ) (a b c : Option (List ℕ)) (refused : Bool) (r : ReplyBytes) (why : Halt) → Live method read old a b refused → ReplyFed old new rest n → 0 < length rest → length rest ≤ 4096
    → IsReply r → new.held ≡ reply r → ShowsOne {X = X} method r b c (Err why) → Ended method (read ++ rest) ⊥ a c (end_of why)
fed_halted X method read old new rest n a b c refused r halt.BadBody h fed some one good is k =
    (h.replies, r, reply r ++ drop n rest, (drop n rest, good, refl, few_left old new rest n h.unknown h.unfinished fed some one), k.0, wrote_last method read old new rest n a b c refused r (first_line code.Ok r) h fed is k.1)
fed_halted X method read old new rest n a b c refused r halt.WriteFailed h fed some one good is k =
    (h.replies, r, reply r ++ drop n rest, k.0, k.2.0, (drop n rest, good, refl, few_left old new rest n h.unknown h.unfinished fed some one), k.1, k.2.1, wrote_last method read old new rest n a b c refused r k.2.0 h fed is k.2.2)
fed_halted X method read old new rest n a b c refused r halt.NoMemory h fed some one good is k = (
  h.replies,
  new.held ++ drop n rest,
  wrote_kept method (read ++ rest) a b c h.replies (new.held ++ drop n rest) []
      (re_read method read a b h.replies old.held [] h.wrote (read ++ rest) (new.held ++ drop n rest) (split method read old new rest n a b refused h fed)) k,
  inr (r, (drop n rest, good, ap (λ (x : List ℕ). x ++ drop n rest) is, few_left old new rest n h.unknown h.unfinished fed some one)),
)

pub fed_shown : {X : Type 0} (method : Option Method) (read : List ℕ) (old new next : ReplyFramerState) (rest : List ℕ) (n : ℕ) (a b c : Option (List ℕ)) (refused then_ : Bool) (r : ReplyBytes) (x : X) → Live method read old a b refused → ReplyFed old new rest n → IsReply r → new.held ≡ reply r
    → ShowsOne {X = X} method r b c (Ok x) → then_ ≡ (refused || is_refusal r) → next ≡ record { past = new.past + length new.held; held = []; fault = None } → IsUnfinished next.held → Live method (read ++ take n rest) next a c then_
fed_shown method read old new next rest n a b c refused then_ r x h fed good is k t e open_ =
    let whole : read ++ take n rest ≡ frames (h.replies ++ r ∷ []) =
    split_taken method read old new rest n a b refused h fed ∙ (ap (λ (y : List ℕ). frames h.replies ++ y) is ∙ sym (frames_push h.replies r)) in
    subst (λ (s : ReplyFramerState). Live method (read ++ take n rest) s a c then_) (sym e) (record {
      replies = h.replies ++ r ∷ [];
      wrote = wrote_push method read a b c h.replies old.held r k.0 h.wrote good k.1 k.2 (read ++ take n rest) [] (whole ∙ sym (append-nil (frames (h.replies ++ r ∷ []))));
      refusals = t ∙ (ap (λ (b : Bool). b || is_refusal r) h.refusals ∙ sym (refusal_push h.replies r));
      past = omega (arith, fed.past, h.past, ap length is, ap length (frames_push h.replies r), length-append (frames h.replies) (reply r));
      unknown = refl;
      unfinished = subst (λ (s : ReplyFramerState). IsUnfinished s.held) e open_;
    })

pub advanced : (old new next : ReplyFramerState) (rest : List ℕ) (n : ℕ) → IsReady old → ReplyFed old new rest n → next ≡ record { past = new.past + length new.held; held = []; fault = None } → IsUnfinished next.held → Advances old next (length rest) n
advanced old new next rest n ready f e open_ =
    subst (λ (s : ReplyFramerState). Advances old s (length rest) n) (sym e) (record {
      count = (let same = fed_count Replies reply_part reply_place old new rest n f in omega (arith, same));
      within = f.within;
      some = some_fed Replies reply_part reply_place old new rest n ready.0 ready.1 f;
      ready = (refl, subst (λ (s : ReplyFramerState). IsUnfinished s.held) e open_);
    })

-- ---- the method that a run has

pub live_as : (read : List ℕ) (s : ReplyFramerState) (a b : Option (List ℕ)) (refused : Bool) (m n : Option Method) → m ≡ n → Live m read s a b refused → Live n read s a b refused
live_as read s a b refused m n e h = subst (λ (x : Option Method). Live x read s a b refused) e h

pub ended_as : (read : List ℕ) (AtEnd : Type 0) (a b : Option (List ℕ)) (end : ShowEnd) (m n : Option Method) → m ≡ n → Ended m read AtEnd a b end → Ended n read AtEnd a b end
ended_as read AtEnd a b end m n e h = subst (λ (x : Option Method). Ended x read AtEnd a b end) e h

-- ---- the ends of a run

pub live_start : (method : Option Method) (s : ReplyFramerState) (a : Option (List ℕ)) → s ≡ reply_start → IsUnfinished s.held → Live method [] s a a false
live_start method s a e open_ = subst (λ (x : ReplyFramerState). Live method [] x a a false) (sym e) (record {
  replies = [];
  wrote = record { lines = []; shown = record { whole = refl; each = All-nil IsReply; shown = refl }; written = Appends-nil a };
  refusals = refl;
  past = refl;
  unknown = refl;
  unfinished = subst (λ (x : ReplyFramerState). IsUnfinished x.held) e open_;
})

pub read_failed : (method : Option Method) (read : List ℕ) (AtEnd : Type 0) (s : ReplyFramerState) (a b : Option (List ℕ)) (refused : Bool) → Live method read s a b refused → Ended method read AtEnd a b ReadFailed
read_failed method read AtEnd s a b refused h = (h.replies, s.held, h.wrote, h.unfinished)

-- the end of a run stays true with a weaker statement about the end of the input
pub ended_at : (method : Option Method) (read : List ℕ) (Was AtEnd : Type 0) (a b : Option (List ℕ)) (end : ShowEnd) → (Was → AtEnd) → Ended method read Was a b end → Ended method read AtEnd a b end
ended_at method read Was AtEnd a b (Done refused) f h = (h.0, h.1, h.2, f h.3)
ended_at method read Was AtEnd a b (Malformed x) f h = (h.0, h.1, h.2, h.3, (λ e. f (h.4 e)), h.5)
ended_at method read Was AtEnd a b BadBody f h = h
ended_at method read Was AtEnd a b ReadFailed f h = h
ended_at method read Was AtEnd a b WriteFailed f h = h
ended_at method read Was AtEnd a b NoMemory f h = h

-- the input ends after a reply
end_clean : (method : Option Method) (read : List ℕ) (s : ReplyFramerState) (a b : Option (List ℕ)) (refused : Bool) → Live method read s a b refused → s.held ≡ [] → Ended method read ⊤ a b (Done refused)
end_clean method read s a b refused h e = (
  h.replies,
  re_read method read a b h.replies s.held [] h.wrote read [] (h.wrote.shown.whole ∙ ap (λ (x : List ℕ). frames h.replies ++ x) e),
  h.refusals,
  tt,
)

is_cut : (s : ReplyFramerState) → s.fault ≡ None → IsUnfinished s.held → s.held ≢ [] → IsReplyCutShort s
is_cut s none open_ some = (subst (λ (o : Option ReplyFault). IsNone o) (sym none) (search), some, λ f. open_.frameless (f.0, [], f.1, f.2 ∙ sym (append-nil (reply f.0))))

no_fault : (o : Option ReplyFault) (f : ReplyFault) → o ≡ None → o ≡ Some f → ⊥
no_fault None f none some = absurd cc
no_fault (Some g) f none some = absurd cc

end_in : (method : Option Method) (read : List ℕ) (s t : ReplyFramerState) (left : List ℕ) (a b : Option (List ℕ)) (refused : Bool) → s.held ≡ left → Live method read s a b refused → (IsReplyCutShort s → t ≡ reply_cut_short s) → (¬ IsReplyCutShort s → t ≡ s) → t.fault ≡ None → Ended method read ⊤ a b (Done refused)
end_in method read s t [] a b refused e h ends kept none = end_clean method read s a b refused h e
end_in method read s t (x ∷ xs) a b refused e h ends kept none =
    let some : s.held ≢ [] = λ k. (let bad : x ∷ xs ≡ [] = sym e ∙ k in absurd cc) in
    let cut = ends (is_cut s h.unknown h.unfinished some) in
    absurd (no_fault t.fault (record { why = EndOfInput; at = s.past + length s.held }) none (ap (λ (y : ReplyFramerState). y.fault) cut))

pub end_done : (method : Option Method) (read : List ℕ) (s t : ReplyFramerState) (a b : Option (List ℕ)) (refused : Bool) → Live method read s a b refused → (IsReplyCutShort s → t ≡ reply_cut_short s) → (¬ IsReplyCutShort s → t ≡ s) → t.fault ≡ None → Ended method read ⊤ a b (Done refused)
end_done method read s t a b refused h ends kept none = end_in method read s t s.held a b refused refl h ends kept none

cut_at : (method : Option Method) (read : List ℕ) (s t : ReplyFramerState) (left : List ℕ) (a b : Option (List ℕ)) (refused : Bool) (f : ReplyFault) → s.held ≡ left → Live method read s a b refused → (IsReplyCutShort s → t ≡ reply_cut_short s) → (¬ IsReplyCutShort s → t ≡ s) → t.fault ≡ Some f → Ended method read ⊤ a b (Malformed f)
cut_at method read s t [] a b refused f e h ends kept is = absurd (no_fault t.fault f (ap (λ (y : ReplyFramerState). y.fault) (kept (λ short. short.1 e)) ∙ h.unknown) is)
cut_at method read s t (x ∷ xs) a b refused f e h ends kept is =
    let some : s.held ≢ [] = λ k. (let bad : x ∷ xs ≡ [] = sym e ∙ k in absurd cc) in
    let cut = ap (λ (y : ReplyFramerState). y.fault) (ends (is_cut s h.unknown h.unfinished some)) in
    let fault : IsReplyFaultOf (length (frames h.replies)) s.held f =
    subst (λ (o : Option ReplyFault). IfSome o (λ g. IsReplyFaultOf (length (frames h.replies)) s.held g)) (sym cut ∙ is) (omega (arith, h.past), (omega (arith, h.past), (some, h.unfinished))) in
    let prompt : IsPrompt read = subst IsPrompt (append-nil read) (prompt_in method read [] s a b refused h (omega arith)) in
    (h.replies, s.held, h.wrote, fault, (λ why. tt), prompt)

pub end_cut : (method : Option Method) (read : List ℕ) (s t : ReplyFramerState) (a b : Option (List ℕ)) (refused : Bool) (f : ReplyFault) → Live method read s a b refused → (IsReplyCutShort s → t ≡ reply_cut_short s) → (¬ IsReplyCutShort s → t ≡ s) → t.fault ≡ Some f → Ended method read ⊤ a b (Malformed f)
end_cut method read s t a b refused f h ends kept is = cut_at method read s t s.held a b refused f refl h ends kept is

pub live_whole : (method : Option Method) (read piece : List ℕ) (n : ℕ) (s : ReplyFramerState) (a b : Option (List ℕ)) (refused : Bool) → n ≡ length piece → Live method (read ++ take n piece) s a b refused → Live method (read ++ piece) s a b refused
live_whole method read piece n s a b refused e h = subst (λ (x : List ℕ). Live method (read ++ x) s a b refused) (take_all n piece (omega (arith, e))) h
