-- Replies among which no call is refused for lack of memory.
use Rattle.std.proofs.Common.{◌≡◌, ◌≢◌, ◌∙◌, ℕ, true, false, List, [], ◌∷◌, ◌++◌, length, drop, inl, inr, refl, ap, subst, append_assoc}
use Rattle.std.specs.List.{AllByRecursion, flat_map}
use Rattle.std.proofs.Math.Seq.{drop-append_seam}
use Rattle.csi_config.specs.declared.config.Config.{Config}
use Rattle.csi_keeper.specs.State.{State, first_state}
use Rattle.csi_types.specs.declared.reason.Reason.TheVariants as reason
use Rattle.envelope.specs.declared.reply.Reply.{Reply}
use Rattle.envelope.specs.declared.taken_reply.TakenReply.{TakenReply}
use Rattle.envelope.specs.declared.taken_reply.TakenReply.TheVariants.{Nothing, Frame, Fault}
use Rattle.envelope.specs.Envelope.{ReplyBytes, IsReply, reply, reply_bytes_of}
use Rattle.envelope.specs.TakenReply.{IsTakenReply, TakesFirstReply}
use Rattle.csi_server.specs.Machine.{AreReplies, Event, Mark, Unmarked, marked, refused, replies, step}
use Rattle.csi_server.specs.Volumes.{volumes}
use Rattle.csi_vectors.specs.Judging.{IsAnswered, IsUnrefused, IsWritten}

-- ---- the replies in order

abbrev pub ReadsBack : Type 0
ReadsBack = (r : ReplyBytes) (more : List ℕ) (taken : TakenReply) → IsReply r → TakesFirstReply (reply r ++ more) taken → IsTakenReply r taken

-- a reply at the start of the bytes is the reply taken from them
first_is : (bytes : List ℕ) (taken : TakenReply) (r : ReplyBytes) (rs : List ReplyBytes) (last : List ℕ) → ReadsBack → TakesFirstReply bytes taken → IsReply r → bytes ≡ (reply r ++ flat_map reply rs) ++ last → IsTakenReply r taken
first_is bytes taken r rs last back takes is e =
    back r (flat_map reply rs ++ last) taken is (subst (λ (b : List ℕ). TakesFirstReply b taken) (e ∙ append_assoc (reply r) (flat_map reply rs) last) takes)

pub one_more : (bytes rest : List ℕ) (q : Reply) (size : ℕ) → ReadsBack → TakesFirstReply bytes (Frame q size) → reply_bytes_of q ≢ refused reason.OutOfMemory → rest ≡ drop size bytes → IsUnrefused rest → IsUnrefused bytes
one_more bytes rest q size back takes other d after [] last all e = tt
one_more bytes rest q size back takes other d after (r ∷ rs) last all e =
    let is = first_is bytes (Frame q size) r rs last back takes all.0 e in
    let seam : rest ≡ flat_map reply rs ++ last =
    d ∙ ap (λ (n : ℕ). drop n bytes) is.1 ∙ ap (drop (length (reply r))) (e ∙ append_assoc (reply r) (flat_map reply rs) last) ∙ drop-append_seam (reply r) (flat_map reply rs ++ last) in
    (subst (λ (x : ReplyBytes). x ≢ refused reason.OutOfMemory) is.0 other, after rs last all.1 seam)

not_taken : (taken : TakenReply) → ((q : Reply) (size : ℕ) → taken ≡ Frame q size → ⊥) → (r : ReplyBytes) → IsTakenReply r taken → ⊥
not_taken Nothing none r is = absurd is
not_taken (Frame q size) none r is = none q size refl
not_taken (Fault f) none r is = absurd is

-- no further bytes are a reply
pub none_more : (bytes : List ℕ) (taken : TakenReply) → ReadsBack → TakesFirstReply bytes taken → ((q : Reply) (size : ℕ) → taken ≡ Frame q size → ⊥) → IsUnrefused bytes
none_more bytes taken back takes none [] last all e = tt
none_more bytes taken back takes none (r ∷ rs) last all e = absurd (not_taken taken none r (first_is bytes taken r rs last back takes all.0 e))

-- ---- the replies of a run

said : Config → State → List Event → List ReplyBytes
said config s [] = []
said config s (e ∷ es) = (step (volumes config) s e).0 ∷ said config (step (volumes config) s e).1 es

said_bytes : (config : Config) (s : State) (events : List Event) → replies (volumes config) s events ≡ flat_map reply (said config s events)
unfolding replies said
said_bytes config s [] = refl
said_bytes config s (e ∷ es) = ap (λ (x : List ℕ). reply (step (volumes config) s e).0 ++ x) (said_bytes config (step (volumes config) s e).1 es)

said_formed : (config : Config) (s : State) (events : List Event) → AreReplies (volumes config) s events → AllByRecursion IsReply (said config s events)
unfolding AreReplies said
said_formed config s [] h = tt
said_formed config s (e ∷ es) h = (h.0, said_formed config (step (volumes config) s e).1 es h.1)

unmarked : (config : Config) (s : State) (events : List Event) → AllByRecursion (IsAnswered config) events → AllByRecursion (λ r. r ≢ refused reason.OutOfMemory) (said config s events) → AllByRecursion (λ e. e.mark ≡ Unmarked) events
unfolding said
unmarked config s [] h none = tt
unmarked config s (e ∷ es) h none =
    let first : e.mark ≡ Unmarked = elim h.0 [
      | inl is ↦ is
      | inr marked_so ↦ absurd (none.0 (ap (λ (m : Mark). (marked s ((volumes config).respond s e.call) m).0) marked_so.0))
    ] in
    (first, unmarked config (step (volumes config) s e).1 es h.1 none.1)

pub all_answered : (config : Config) (input written : List ℕ) → IsWritten config false input written → IsUnrefused written → IsWritten config true input written
all_answered config input written h none =
    let s = first_state 1 in
    let rs = said config s h.events in
    record {
      events = h.events;
      answered = unmarked config s h.events h.answered (none rs h.last (said_formed config s h.events h.formed) (h.all ∙ ap (λ (x : List ℕ). x ++ h.last) (said_bytes config s h.events)));
      formed = h.formed;
      read = h.read;
      left = h.left;
      whole = h.whole;
      last = h.last;
      ended = h.ended;
      all = h.all;
    }

pub no_call_refused : (config : Config) (given input slice items : List ℕ) → given ≡ input → slice ≡ items → IsWritten config false given items → IsUnrefused slice → IsWritten config true input items
no_call_refused config given input slice items i s h none =
    subst (λ (x : List ℕ). IsWritten config true x items) i (all_answered config given items h (subst (λ (x : List ℕ). IsUnrefused x) s none))
