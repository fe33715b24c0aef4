-- The results of waiting for the reply to a call, read by read.
use Rattle.std.proofs.Common.{◌≡◌, ◌≢◌, ℕ, ◌-◌, ◌≤◌, ◌<◌, List, [], ◌∷◌, ◌++◌, length, take, drop, Option, Some, None, refl, sym, ap, subst, ◌∙◌, append-nil, length-drop, arith, inl, inr}
use Rattle.std.specs.Prelude.{IsNone, IfSome}
use Rattle.std.specs.Io.KnownBytes.{Consumes}
use Rattle.std.proofs.KnownBytes.{Consumes-trans}
use Rattle.std.proofs.lemmas.List.{take_all}
use Rattle.envelope.specs.Envelope.{ReplyBytes, IsReply, reply}
use Rattle.envelope.specs.declared.kind.FrameKind.TheVariants.{Replies}
use Rattle.envelope.specs.declared.limits.TheConstants.{MAX_REPLY_BYTES}
use Rattle.envelope.specs.declared.reply_fault.ReplyFault.{ReplyFault}
use Rattle.envelope.specs.facts.Breaking.{nil_unbroken}
use Rattle.envelope.specs.facts.Frames.{is_unfinished, nil_short}
use Rattle.envelope.specs.Faults.{reply_part, reply_place}
use Rattle.envelope.specs.Replies.{reply_part_of}
use Rattle.frames_core.specs.Feeding.{ReplyFed}
use Rattle.frames_core.specs.facts.Feeding.{all_of, fault_of, known_break, none_some, not_at_end, some_fed, took_all}
use Rattle.frames_core.specs.Framer.{ReplyFramerState, IsReplyFrame, IsReplySettled, IsReplyCutShort, reply_cut_short, reply_start}
use Rattle.envelope.specs.ReplyStream.{FaultAt, IsUnfinished, BeginsReply}
use Rattle.csi_client.specs.Receiving.{BeginsWith, HasFault, Gathered, IsGathering, IsPrompt}

pub gathering_start : (s : ReplyFramerState) → s ≡ reply_start → IsGathering [] s
gathering_start s e = record {
  past = ap (λ (x : ReplyFramerState). x.past) e;
  held = ap (λ (x : ReplyFramerState). x.held) e;
  unknown = ap (λ (x : ReplyFramerState). x.fault) e;
  short = (is_unfinished Replies [] (nil_unbroken Replies) (nil_short Replies), omega arith);
}

fault_from_0 : (bytes : List ℕ) (f : ReplyFault) (past : ℕ) → past ≡ 0 → FaultAt bytes f.why (f.at - past) → FaultAt bytes f.why f.at
fault_from_0 bytes f past e h = subst (λ (at : ℕ). FaultAt bytes f.why at) (omega (arith, e)) h

-- ---- the end of the input

no_fault : (o : Option ReplyFault) (f : ReplyFault) → o ≡ None → o ≡ Some f → ⊥
no_fault None f none some = absurd cc
no_fault (Some g) f none some = absurd cc

prompt_at_end : (read : List ℕ) → IsUnfinished read → IsPrompt read
prompt_at_end read open_ = record { before = read; piece = []; whole = sym (append-nil read); unfinished = open_; one = omega arith }

ended_at : (read : List ℕ) (AtEnd : Type 0) (s t : ReplyFramerState) → IsGathering read s → (IsReplyCutShort s → t ≡ reply_cut_short s) → (¬ IsReplyCutShort s → t ≡ s) → AtEnd → Gathered read AtEnd t
ended_at [] AtEnd s t g ends kept at_end =
    let same : t ≡ s = kept (λ short. short.1 g.held) in
    subst (λ (x : ReplyFramerState). Gathered [] AtEnd x) (sym same) (record {
      rest = [];
      few = omega arith;
      prompt = prompt_at_end [] g.short.0;
      whole = ap (λ (x : List ℕ). x ++ []) (sym g.held);
      faulty = λ f e. absurd (no_fault s.fault f g.unknown e);
      nothing = λ none whole. (refl, at_end);
    })
ended_at (b ∷ bs) AtEnd s t g ends kept at_end =
    let none : IsNone s.fault = subst (λ (o : Option ReplyFault). IsNone o) (sym g.unknown) (search) in
    let some : s.held ≢ [] = λ e. (let bad : b ∷ bs ≡ [] = sym g.held ∙ e in absurd cc) in
    let open_ : IsUnfinished s.held = subst IsUnfinished (sym g.held) g.short.0 in
    let cut : t ≡ reply_cut_short s = ends (none, some, λ f. open_.frameless (f.0, [], f.1, f.2 ∙ sym (append-nil (reply f.0)))) in
    subst (λ (x : ReplyFramerState). Gathered (b ∷ bs) AtEnd x) (sym cut) (record {
      rest = [];
      few = omega arith;
      prompt = prompt_at_end (b ∷ bs) g.short.0;
      whole = sym (append-nil s.held ∙ g.held);
      faulty = λ f e. subst (λ (o : Option ReplyFault). IfSome o (λ x. HasFault (b ∷ bs) AtEnd x)) e ((omega (arith, g.past, ap length g.held), ((λ none. absurd cc), g.short.0)), λ why. at_end);
      nothing = λ known whole. absurd cc;
    })

pub ended : (read : List ℕ) (AtEnd : Type 0) (s t : ReplyFramerState) → IsGathering read s → (IsReplyCutShort s → t ≡ reply_cut_short s) → (¬ IsReplyCutShort s → t ≡ s) → AtEnd → Gathered read AtEnd t
ended read AtEnd s t g ends kept at_end = ended_at read AtEnd s t g ends kept at_end

-- ---- one piece more

held_all : (read bytes : List ℕ) (s t : ReplyFramerState) (n : ℕ) → IsGathering read s → ReplyFed s t bytes n → read ++ bytes ≡ t.held ++ drop n bytes
held_all read bytes s t n g f = all_of Replies reply_part reply_place read [] s t bytes n (sym g.held) f

pub settled : (read bytes : List ℕ) (AtEnd : Type 0) (s t : ReplyFramerState) (n : ℕ) → IsGathering read s → ReplyFed s t bytes n → 0 < length bytes → length bytes ≤ 4096 → (t.fault ≡ None → ¬ IsReplyFrame t.held → ⊥) → Gathered (read ++ bytes) AtEnd t
settled read bytes AtEnd s t n g f any small some = record {
  rest = drop n bytes;
  few = omega (arith, small, length-drop n bytes, some_fed Replies reply_part reply_place s t bytes n g.unknown (subst IsUnfinished (sym g.held) g.short.0) f any);
  prompt = record { before = read; piece = bytes; whole = refl; unfinished = g.short.0; one = omega (arith, small) };
  whole = held_all read bytes s t n g f;
  faulty = λ x e.
      let k = known_break Replies reply_part reply_place s t bytes n x g.unknown f e in (
        fault_from_0 (read ++ bytes) x t.past (f.past ∙ g.past) (subst (λ (b : List ℕ). FaultAt b x.why (x.at - t.past)) (sym (held_all read bytes s t n g f)) (fault_of Replies t.past t.held (drop n bytes) (reply_part x) x.at k).1),
        λ why. absurd (not_at_end Replies t.past t.held (reply_part x) x.at k (ap reply_part_of why)),
      );
  nothing = λ none whole. absurd (some none whole);
}

pub one_more : (read bytes : List ℕ) (s t : ReplyFramerState) (n : ℕ) → IsGathering read s → ReplyFed s t bytes n → t.fault ≡ None → IsUnfinished t.held → length t.held < MAX_REPLY_BYTES → IsGathering (read ++ bytes) t
one_more read bytes s t n g f none open_ few =
    let all : n ≡ length bytes = took_all Replies reply_part reply_place s t bytes n none open_ f in
    let held : t.held ≡ read ++ bytes = f.held ∙ (ap (λ (x : List ℕ). x ++ take n bytes) g.held ∙ ap (λ (x : List ℕ). read ++ x) (take_all n bytes (omega (arith, all)))) in
    record {
      past = f.past ∙ g.past;
      held = held;
      unknown = none;
      short = (subst IsUnfinished held open_, omega (arith, few, ap length held));
    }

pub settled_some : (t : ReplyFramerState) → IsReplySettled t → t.fault ≡ None → ¬ IsReplyFrame t.held → ⊥
settled_some t (inl f) none frameless = frameless f
settled_some t (inr some) none frameless = absurd (none_some t.fault none some)

-- a read that gives nothing
pub nothing_more : (a b c : Option (List ℕ)) (read buf : List ℕ) (n : ℕ) → Consumes a b read → n ≡ 0 → Consumes b c (take n buf) → Consumes a c read
nothing_more a b c read buf n h e k =
    subst (λ (x : List ℕ). Consumes a c x) (append-nil read)
    (Consumes-trans a b c read [] h (subst (λ (x : List ℕ). Consumes b c x) (ap (λ (m : ℕ). take m buf) e) k))

-- ---- the result

pub nothing_came : (read : List ℕ) (AtEnd : Type 0) (s : ReplyFramerState) → Gathered read AtEnd s → s.fault ≡ None → ¬ BeginsReply s.held → (read ≡ []) × AtEnd
nothing_came read AtEnd s g none frameless = g.nothing none (λ f. frameless (f.0, [], f.1, f.2 ∙ sym (append-nil (reply f.0))))

pub reply_came : (read : List ℕ) (AtEnd : Type 0) (s : ReplyFramerState) (r : ReplyBytes) → Gathered read AtEnd s → IsReply r → s.held ≡ reply r → BeginsWith read r
reply_came read AtEnd s r g good e = (g.rest, good, g.whole ∙ ap (λ (x : List ℕ). x ++ g.rest) e, g.few)
