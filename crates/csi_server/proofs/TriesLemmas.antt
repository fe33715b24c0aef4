-- Calls of the volume machine are tries of the requests that they ask for.
use Rattle.std.proofs.Common.{◌≡◌, ◌∙◌, inl, inr, ap, sym, subst, refl, ℕ, Bool, true, false, List, [], ◌∷◌, ◌++◌, append_assoc, map, Option, Some, None, Result, Ok, Err}
use Rattle.std.proofs.lemmas.List.{map-append}
use Rattle.std.proofs.lemmas.List.Concat.{flat_map-append}
use Rattle.std.specs.List.{AllByRecursion}
use Rattle.envelope.specs.Envelope.{CallBytes, ReplyBytes}
use Rattle.csi_types.specs.declared.method.Method.{Method}
use Rattle.csi_types.specs.declared.method.Method.TheVariants as method
use Rattle.csi_types.specs.declared.reason.Reason.{Reason}
use Rattle.csi_types.specs.declared.reason.Reason.TheVariants as reason
use Rattle.csi_types.specs.declared.requests.Request.{Request}
use Rattle.csi_types.specs.Checks.{checked}
use Rattle.csi_types.specs.Methods.{method_at, path_of}
use Rattle.csi_codec.specs.Methods.{FitsRequest, MeansRequest, request_bytes, request_method}
use Rattle.csi_codec.specs.Reading.{read_request}
use Rattle.csi_config.specs.declared.config.Config.{Config}
use Rattle.csi_keeper.specs.Invariant.{IsInvariant}
use Rattle.csi_keeper.specs.State.{State}
use Rattle.csi_machine.specs.Retry.{Try, Ending, Marked, Down, Unanswered, Answered, after_try, reported_by, reported_of, IsDue, IsOfFirst, Leaves, IsLife, AreTriesOf, all_tries, reported_once, after_once, still_open, state_after as after_tries}
use Rattle.csi_machine.specs.Step.{step}
use Rattle.csi_machine.specs.Verdicts.{Report}
use Rattle.csi_server.specs.Machine.{Event, Mark, Unmarked, OutOfMemory, StoreRefused, StoreDown, marked, may_leave, refused, state_after}
use Rattle.csi_server.specs.Machine.{step as call_step}
use Rattle.csi_server.specs.Requests.{after_check, after_path, after_read, malformed, reported}
use Rattle.csi_server.specs.Tries.{Exchange, Asks, asked, asked_in, asked_of, spelled_call, unless_refused, ending, events_of, heard_by, heard_of, tries_for, tries_in, tries_of, IsLeft, IsLifeOfCalls}
use Rattle.csi_server.specs.Volumes.{volumes, IsPending}

all_append : (P : Try → Type 0) (ts us : List Try) → AllByRecursion P ts → AllByRecursion P us → AllByRecursion P (ts ++ us)
all_append P [] us h k = k
all_append P (t ∷ ts) us h k = (h.0, all_append P ts us h.1 k)

all_first : (P : Try → Type 0) (ts us : List Try) → AllByRecursion P (ts ++ us) → AllByRecursion P ts
all_first P [] us h = tt
all_first P (t ∷ ts) us h = (h.0, all_first P ts us h.1)

all_last : (P : Try → Type 0) (ts us : List Try) → AllByRecursion P (ts ++ us) → AllByRecursion P us
all_last P [] us h = h
all_last P (t ∷ ts) us h = all_last P ts us h.1

-- ---- what a call asks for

pub asked_is : (call : CallBytes) (r : Request) → asked call ≡ Some r → Asks call r
asked_is call r = by_path (method_at call.path) refl
  where
    by_check : (m : Method) (q : Request) (o : Option Reason) → method_at call.path ≡ Some m → read_request m call.message ≡ Ok q → checked q ≡ o → unless_refused q o ≡ Some r → Asks call r
    by_check m q None called read passed e = let same : q ≡ r = cc in subst (Asks call) same (record { method = m; called = called; read = read; passed = passed })
    by_check m q (Some why) called read passed e = absurd (cc)

    by_read : (m : Method) (x : Result Request ℕ) → method_at call.path ≡ Some m → read_request m call.message ≡ x → asked_in x ≡ Some r → Asks call r
    by_read m (Ok q) called read e = by_check m q (checked q) called read refl e
    by_read m (Err at) called read e = absurd (cc)

    by_path : (p : Option Method) → method_at call.path ≡ p → asked_of p call.message ≡ Some r → Asks call r
    by_path None called e = absurd (cc)
    by_path (Some m) called e = by_read m (read_request m call.message) called refl e

pub is_asked : (call : CallBytes) (r : Request) → Asks call r → asked call ≡ Some r
is_asked call r a = ap (λ (p : Option Method). asked_of p call.message) a.called ∙ (ap asked_in a.read ∙ ap (unless_refused r) a.passed)

-- a path names its method
known_path : (m : Method) → method_at (path_of m) ≡ Some m
unfolding method_at
known_path method.GetPluginInfo = refl
known_path method.GetPluginCapabilities = refl
known_path method.Probe = refl
known_path method.CreateVolume = refl
known_path method.DeleteVolume = refl
known_path method.ControllerPublishVolume = refl
known_path method.ControllerUnpublishVolume = refl
known_path method.ValidateVolumeCapabilities = refl
known_path method.ListVolumes = refl
known_path method.GetCapacity = refl
known_path method.ControllerGetCapabilities = refl
known_path method.ControllerModifyVolume = refl

-- the call that encodes a request asks for it
pub spelled_asks : ((r : Request) → FitsRequest r → MeansRequest (request_method r) (request_bytes r) r) → ((m : Method) (bytes : List ℕ) (r : Request) → MeansRequest m bytes r → read_request m bytes ≡ Ok r)
    → (r : Request) → FitsRequest r → checked r ≡ None → Asks (spelled_call r) r
spelled_asks means reads r fits passed = record {
  method = request_method r;
  called = known_path (request_method r);
  read = reads (request_method r) (request_bytes r) r (means r fits);
  passed = passed;
}

-- a call that asks for no request has the same refusal in each State
pub unasked_stays : (call : CallBytes) → asked call ≡ None → (reply : ReplyBytes) × ((config : Config) (s : State) → (volumes config).respond s call ≡ (reply, s))
unasked_stays call = by_path (method_at call.path)
  where
    by_check : (r : Request) (o : Option Reason) → unless_refused r o ≡ None → (reply : ReplyBytes) × ((config : Config) (s : State) → after_check (step config) s r o ≡ (reply, s))
    by_check r None e = absurd (cc)
    by_check r (Some why) e = (refused why, λ config s. refl)

    by_read : (x : Result Request ℕ) → asked_in x ≡ None → (reply : ReplyBytes) × ((config : Config) (s : State) → after_read (step config) s x ≡ (reply, s))
    by_read (Ok r) e = by_check r (checked r) e
    by_read (Err at) e = (malformed at, λ config s. refl)

    by_path : (p : Option Method) → asked_of p call.message ≡ None → (reply : ReplyBytes) × ((config : Config) (s : State) → after_path (step config) s p call.message ≡ (reply, s))
    by_path None e = (refused reason.UnknownMethod, λ config s. refl)
    by_path (Some m) e = by_read (read_request m call.message) e

module _ (config : Config) where
  abbrev answer_to : State → Request → ReplyBytes × State
  answer_to s r = (reported (step config s r).0, (step config s r).1)

  -- a call that asks for a request is answered as the request
  pub asked_answers : (s : State) (call : CallBytes) (r : Request) → asked call ≡ Some r → (volumes config).respond s call ≡ answer_to s r
  asked_answers s call r = by_path (method_at call.path)
    where
      by_check : (q : Request) (o : Option Reason) → unless_refused q o ≡ Some r → after_check (step config) s q o ≡ answer_to s r
      by_check q None e = let same : q ≡ r = cc in ap (answer_to s) same
      by_check q (Some why) e = absurd (cc)

      by_read : (x : Result Request ℕ) → asked_in x ≡ Some r → after_read (step config) s x ≡ answer_to s r
      by_read (Ok q) e = by_check q (checked q) e
      by_read (Err at) e = absurd (cc)

      by_path : (p : Option Method) → asked_of p call.message ≡ Some r → after_path (step config) s p call.message ≡ answer_to s r
      by_path None e = absurd (cc)
      by_path (Some m) e = by_read (read_request m call.message) e

  -- ---- one call

  -- the State after a call and the reply that its client heard, as for its tries
  record Moves (s : State) (x : Exchange) : Type 0 where
    pub after : (call_step (volumes config) s x.event).1 ≡ after_tries config s (tries_in x)
    pub heard : heard_by (asked x.event.call) x.event.mark x.is_heard (call_step (volumes config) s x.event).0 ≡ map reported (reported_of config s (tries_in x))

  moves_by : (s : State) (call : CallBytes) (mark : Mark) (is_heard : Bool) (o : Option Request) → asked call ≡ o
      → ((marked s ((volumes config).respond s call) mark).1 ≡ after_tries config s (tries_for o (ending mark is_heard)))
      × (heard_by o mark is_heard (marked s ((volumes config).respond s call) mark).0 ≡ map reported (reported_of config s (tries_for o (ending mark is_heard))))
  moves_by s call Unmarked true (Some r) e =
      let is : (volumes config).respond s call ≡ answer_to s r = asked_answers s call r e in
      (ap (λ (y : ReplyBytes × State). y.1) is, ap (λ (y : ReplyBytes × State). y.0 ∷ []) is)
  moves_by s call Unmarked false (Some r) e = (ap (λ (y : ReplyBytes × State). y.1) (asked_answers s call r e), refl)
  moves_by s call OutOfMemory is_heard (Some r) e = (refl, refl)
  moves_by s call StoreRefused is_heard (Some r) e = (refl, refl)
  moves_by s call StoreDown is_heard (Some r) e = (refl, refl)
  moves_by s call Unmarked is_heard None e = (ap (λ (y : ReplyBytes × State). y.1) ((unasked_stays call e).1 config s), refl)
  moves_by s call OutOfMemory is_heard None e = (refl, refl)
  moves_by s call StoreRefused is_heard None e = (refl, refl)
  moves_by s call StoreDown is_heard None e = (refl, refl)

  moves : (s : State) (x : Exchange) → Moves s x
  moves s x =
      let both = moves_by s x.event.call x.event.mark x.is_heard (asked x.event.call) refl in
      record { after = both.0; heard = both.1 }

  -- ---- tries, in order

  after_append : (s : State) (ts us : List Try) → after_tries config s (ts ++ us) ≡ after_tries config (after_tries config s ts) us
  after_append s [] us = refl
  after_append s (t ∷ ts) us = after_append (after_try config s t) ts us

  reported_append : (s : State) (ts us : List Try) → reported_of config s (ts ++ us) ≡ reported_of config s ts ++ reported_of config (after_tries config s ts) us
  reported_append s [] us = refl
  reported_append s (t ∷ ts) us =
      ap (λ (l : List Report). reported_by config s t.request t.end ++ l) (reported_append (after_try config s t) ts us)
      ∙ sym (append_assoc (reported_by config s t.request t.end) (reported_of config (after_try config s t) ts) (reported_of config (after_tries config (after_try config s t) ts) us))

  -- ---- a session

  pub session_after : (s : State) (session : List Exchange) → state_after (volumes config) s (events_of session) ≡ after_tries config s (tries_of session)
  unfolding state_after
  session_after s [] = refl
  session_after s (x ∷ xs) =
      session_after (call_step (volumes config) s x.event).1 xs
      ∙ (ap (λ (z : State). after_tries config z (tries_of xs)) (moves s x).after ∙ sym (after_append s (tries_in x) (tries_of xs)))

  pub session_heard : (s : State) (session : List Exchange) → heard_of config s session ≡ map reported (reported_of config s (tries_of session))
  session_heard s [] = refl
  session_heard s (x ∷ xs) =
      let first = (moves s x).heard in
      let next = session_heard (call_step (volumes config) s x.event).1 xs ∙ ap (λ (z : State). map reported (reported_of config z (tries_of xs))) (moves s x).after in
      ap (λ (l : List ReplyBytes). l ++ heard_of config (call_step (volumes config) s x.event).1 xs) first
      ∙ (ap (λ (l : List ReplyBytes). map reported (reported_of config s (tries_in x)) ++ l) next
      ∙ (sym (map-append reported (reported_of config s (tries_in x)) (reported_of config (after_tries config s (tries_in x)) (tries_of xs)))
      ∙ ap (map reported) (sym (reported_append s (tries_in x) (tries_of xs)))))

  -- ---- the States that a session leaves

  still_by : (s : State) (x : Exchange) (o : Option Request) → (call_step (volumes config) s x.event).1 ≡ after_tries config s (tries_for o (ending x.event.mark x.is_heard)) → (call_step (volumes config) s x.event).1 ≡ s
      → AllByRecursion (λ u. after_try config s u ≡ s) (tries_for o (ending x.event.mark x.is_heard))
  still_by s x None after stays = tt
  still_by s x (Some r) after stays = (sym after ∙ stays, tt)

  -- calls that keep the State are tries that keep it
  still : (s : State) (xs : List Exchange) → AllByRecursion (λ e. (call_step (volumes config) s e).1 ≡ s) (events_of xs) → AllByRecursion (λ u. after_try config s u ≡ s) (tries_of xs)
  still s [] h = tt
  still s (x ∷ xs) h = all_append (λ u. after_try config s u ≡ s) (tries_in x) (tries_of xs) (still_by s x (asked x.event.call) (moves s x).after h.0) (still s xs h.1)

-- a session, divided at one of its events or of its tries; two functions give the events or tries of one
-- exchange and of several
record IsAroundOne {X : Type 0} (in_one : Exchange → List X) (in_all : List Exchange → List X) (session : List Exchange) (before : List X) (e : X) (after : List X) : Type 0 where
  pub first : List Exchange
  pub middle : Exchange
  pub last : List Exchange
  pub whole : session ≡ first ++ middle ∷ last
  pub is_before : in_all first ≡ before
  pub is : in_one middle ≡ e ∷ []
  pub is_after : in_all last ≡ after

-- as above, with one more exchange before it
around_more : {X : Type 0} (in_one : Exchange → List X) (in_all : List Exchange → List X) (x : Exchange) → ((xs : List Exchange) → in_all (x ∷ xs) ≡ in_one x ++ in_all xs)
    → (xs : List Exchange) (before rest : List X) (e : X) (after : List X) → before ≡ in_one x ++ rest → IsAroundOne in_one in_all xs rest e after → IsAroundOne in_one in_all (x ∷ xs) before e after
around_more {X} in_one in_all x parts xs before rest e after is a = record {
  first = x ∷ a.first;
  middle = a.middle;
  last = a.last;
  whole = ap (λ (l : List Exchange). x ∷ l) a.whole;
  is_before = parts a.first ∙ ap (λ (l : List X). in_one x ++ l) a.is_before ∙ sym is;
  is = a.is;
  is_after = a.is_after;
}

abbrev event_in : Exchange → List Event
event_in x = x.event ∷ []

abbrev IsAround : List Exchange → List Event → Event → List Event → Type 0
IsAround session before e after = IsAroundOne event_in events_of session before e after

abbrev IsAroundTry : List Exchange → List Try → Try → List Try → Type 0
IsAroundTry session before t after = IsAroundOne tries_in tries_of session before t after

around : (session : List Exchange) (before : List Event) (e : Event) (after : List Event) → events_of session ≡ before ++ e ∷ after → IsAround session before e after
around [] [] e after h = absurd (cc)
around [] (b ∷ bs) e after h = absurd (cc)
around (x ∷ xs) [] e after h = let is : x.event ≡ e = cc in record { first = []; middle = x; last = xs; whole = refl; is_before = refl; is = ap (λ (f : Event). f ∷ []) is; is_after = cc }
around (x ∷ xs) (b ∷ bs) e after h = let is : x.event ≡ b = cc in around_more event_in events_of x (λ ys. refl) xs (b ∷ bs) bs e after (ap (λ (f : Event). f ∷ bs) (sym is)) (around xs bs e after (cc))

-- the first call of a session is no try, or it is the marked try, or it is a try before the marked one
around_by : (x : Exchange) (xs : List Exchange) (before : List Try) (t : Try) (after : List Try) → ((rest : List Try) → tries_of xs ≡ rest ++ t ∷ after → IsAroundTry xs rest t after)
    → (own : List Try) → tries_in x ≡ own → (o : Option Request) → own ≡ tries_for o (ending x.event.mark x.is_heard) → own ++ tries_of xs ≡ before ++ t ∷ after → IsAroundTry (x ∷ xs) before t after
around_by x xs before t after next own is None none h =
    let nothing : tries_in x ≡ [] = is ∙ none in
    around_more tries_in tries_of x (λ ys. refl) xs before before t after (ap (λ (l : List Try). l ++ before) (sym nothing)) (next before (ap (λ (l : List Try). l ++ tries_of xs) (sym none) ∙ h))
around_by x xs [] t after next own is (Some r) one h =
    let both : record { request = r; end = ending x.event.mark x.is_heard } ∷ tries_of xs ≡ t ∷ after = ap (λ (l : List Try). l ++ tries_of xs) (sym one) ∙ h in
    record { first = []; middle = x; last = xs; whole = refl; is_before = refl; is = is ∙ (one ∙ ap (λ (u : Try). u ∷ []) (cc both)); is_after = cc both }
around_by x xs (b ∷ bs) t after next own is (Some r) one h =
    let both : record { request = r; end = ending x.event.mark x.is_heard } ∷ tries_of xs ≡ b ∷ (bs ++ t ∷ after) = ap (λ (l : List Try). l ++ tries_of xs) (sym one) ∙ h in
    let same : record { request = r; end = ending x.event.mark x.is_heard } ≡ b = cc in
    around_more tries_in tries_of x (λ ys. refl) xs (b ∷ bs) bs t after (ap (λ (u : Try). u ∷ bs) (sym same) ∙ ap (λ (l : List Try). l ++ bs) (sym (is ∙ one))) (next bs (cc))

around_try : (session : List Exchange) (before : List Try) (t : Try) (after : List Try) → tries_of session ≡ before ++ t ∷ after → IsAroundTry session before t after
around_try [] [] t after h = absurd (cc)
around_try [] (b ∷ bs) t after h = absurd (cc)
around_try (x ∷ xs) before t after h = around_by x xs before t after (λ rest k. around_try xs rest t after k) (tries_in x) refl (asked x.event.call) refl h

-- the try of a call
try_of : (call : CallBytes) (end : Ending) (o : Option Request) (t : Try) → asked call ≡ o → tries_for o end ≡ t ∷ [] → (asked call ≡ Some t.request) × (t.end ≡ end)
try_of call end None t e h = absurd (cc)
try_of call end (Some r) t e h =
    let same : record { request = r; end = end } ≡ t = cc in
    (e ∙ ap (λ (u : Try). Some u.request) same, ap (λ (u : Try). u.end) (sym same))

ends_marked : (mark : Mark) (is_heard : Bool) → ending mark is_heard ≡ Marked → may_leave mark ≡ true
ends_marked Unmarked true h = absurd (cc)
ends_marked Unmarked false h = absurd (cc)
ends_marked OutOfMemory is_heard h = refl
ends_marked StoreRefused is_heard h = refl
ends_marked StoreDown is_heard h = absurd (cc)

marked_ends : (mark : Mark) (is_heard : Bool) → may_leave mark ≡ true → ending mark is_heard ≡ Marked
marked_ends Unmarked is_heard h = absurd (cc)
marked_ends OutOfMemory is_heard h = refl
marked_ends StoreRefused is_heard h = refl
marked_ends StoreDown is_heard h = absurd (cc)

module _ (config : Config) where
  due : (s t : State) (session : List Exchange) → IsPending config s (events_of session) t → IsDue config s (tries_of session) t
  due s t session p = record {
    before = tries_of a.first;
    refused = record { request = p.request; end = ending a.middle.event.mark a.middle.is_heard };
    after = tries_of a.last;
    whole = ap tries_of a.whole ∙ (flat_map-append tries_in a.first (a.middle ∷ a.last) ∙ ap (λ (o : Option Request). tries_of a.first ++ (tries_for o (ending a.middle.event.mark a.middle.is_heard) ++ tries_of a.last)) asks);
    is_marked = marked_ends a.middle.event.mark a.middle.is_heard (subst (λ (e : Event). may_leave e.mark ≡ true) (sym same) p.is_left);
    still = still config (after_tries config s (tries_of a.first)) a.last (subst (λ (l : List Event). AllByRecursion (λ e. (call_step (volumes config) (after_tries config s (tries_of a.first)) e).1 ≡ after_tries config s (tries_of a.first)) l) (sym a.is_after)
        (subst (λ (z : State). AllByRecursion (λ e. (call_step (volumes config) z e).1 ≡ z) p.after) at p.still));
    is = p.is ∙ ap (λ (z : State). (step config z p.request).1) at;
  }
    where
      a : IsAround session p.before p.refused p.after
      a = around session p.before p.refused p.after p.whole

      same : a.middle.event ≡ p.refused
      same = cc (a.is)

      -- the State in which the refused call was made
      at : state_after (volumes config) s p.before ≡ after_tries config s (tries_of a.first)
      at = ap (λ (l : List Event). state_after (volumes config) s l) (sym a.is_before) ∙ session_after config s a.first

      asks : asked a.middle.event.call ≡ Some p.request
      asks = ap (λ (e : Event). asked e.call) same ∙ is_asked p.refused.call p.request (record { method = p.method; called = p.called; read = p.read; passed = p.passed })

  pub session_leaves : (s t : State) (session : List Exchange) → IsLeft config s (events_of session) t → Leaves config s (tries_of session) t
  session_leaves s t session (inl is) = inl (is ∙ session_after config s session)
  session_leaves s t session (inr p) = inr (due s t session p)

  -- ---- the States that tries leave are left by their calls

  -- the tries of a call keep the State, and so does the call
  stays_by : (s : State) (x : Exchange) (o : Option Request) → (call_step (volumes config) s x.event).1 ≡ after_tries config s (tries_for o (ending x.event.mark x.is_heard))
      → AllByRecursion (λ u. after_try config s u ≡ s) (tries_for o (ending x.event.mark x.is_heard)) → (call_step (volumes config) s x.event).1 ≡ s
  stays_by s x None after h = after
  stays_by s x (Some r) after h = after ∙ h.0

  stays : (s : State) (xs : List Exchange) → AllByRecursion (λ u. after_try config s u ≡ s) (tries_of xs) → AllByRecursion (λ e. (call_step (volumes config) s e).1 ≡ s) (events_of xs)
  stays s [] h = tt
  stays s (x ∷ xs) h =
      (stays_by s x (asked x.event.call) (moves config s x).after (all_first (λ u. after_try config s u ≡ s) (tries_in x) (tries_of xs) h), stays s xs (all_last (λ u. after_try config s u ≡ s) (tries_in x) (tries_of xs) h))

  pending : (s t : State) (session : List Exchange) → IsDue config s (tries_of session) t → IsPending config s (events_of session) t
  pending s t session d = record {
    before = events_of a.first;
    refused = a.middle.event;
    after = events_of a.last;
    whole = ap events_of a.whole ∙ map-append (λ (x : Exchange). x.event) a.first (a.middle ∷ a.last);
    is_left = ends_marked a.middle.event.mark a.middle.is_heard (sym tried.1 ∙ d.is_marked);
    still = stays (state_after (volumes config) s (events_of a.first)) a.last (subst (λ (l : List Try). AllByRecursion (λ u. after_try config (state_after (volumes config) s (events_of a.first)) u ≡ state_after (volumes config) s (events_of a.first)) l) (sym a.is_after)
        (subst (λ (z : State). AllByRecursion (λ u. after_try config z u ≡ z) d.after) (sym at) d.still));
    method = asks.method;
    request = d.refused.request;
    called = asks.called;
    read = asks.read;
    passed = asks.passed;
    is = d.is ∙ ap (λ (z : State). (step config z d.refused.request).1) (sym at);
  }
    where
      a : IsAroundTry session d.before d.refused d.after
      a = around_try session d.before d.refused d.after d.whole

      tried : (asked a.middle.event.call ≡ Some d.refused.request) × (d.refused.end ≡ ending a.middle.event.mark a.middle.is_heard)
      tried = try_of a.middle.event.call (ending a.middle.event.mark a.middle.is_heard) (asked a.middle.event.call) d.refused refl a.is

      asks : Asks a.middle.event.call d.refused.request
      asks = asked_is a.middle.event.call d.refused.request tried.0

      -- the State in which the marked try was made
      at : state_after (volumes config) s (events_of a.first) ≡ after_tries config s d.before
      at = session_after config s a.first ∙ ap (λ (l : List Try). after_tries config s l) a.is_before

  pub tries_leave : (s t : State) (session : List Exchange) → Leaves config s (tries_of session) t → IsLeft config s (events_of session) t
  tries_leave s t session (inl is) = inl (is ∙ sym (session_after config s session))
  tries_leave s t session (inr d) = inr (pending s t session d)

  -- ---- a life

  -- the life of the tries, and the answers in it
  record IsOfTries (s : State) (sessions : List (List Exchange)) (heard : List ReplyBytes) (t : State) : Type 0 where
    pub said : List Report
    pub life : IsLife config s (map tries_of sessions) said t
    pub hears : heard ≡ map reported said

  life_tries : (s : State) (sessions : List (List Exchange)) (heard : List ReplyBytes) (t : State) → IsLifeOfCalls config s sessions heard t → IsOfTries s sessions heard t
  life_tries s [] heard t l = record { said = []; life = (refl, l.1); hears = l.0 }
  life_tries s (session ∷ sessions) heard t (u, rest, left, hears, more) =
      let o = life_tries u sessions rest t more in
      record {
        said = reported_of config s (tries_of session) ++ o.said;
        life = (u, o.said, session_leaves s u session left, refl, o.life);
        hears = hears
            ∙ (ap (λ (l : List ReplyBytes). l ++ rest) (session_heard config s session)
            ∙ (ap (λ (l : List ReplyBytes). map reported (reported_of config s (tries_of session)) ++ l) o.hears ∙ sym (map-append reported (reported_of config s (tries_of session)) o.said)));
      }

-- ---- requests that are asked for pass the checks

abbrev Passes : Try → Type 0
Passes t = checked t.request ≡ None

call_passes : (call : CallBytes) (end : Ending) (o : Option Request) → asked call ≡ o → AllByRecursion Passes (tries_for o end)
call_passes call end None e = tt
call_passes call end (Some r) e = ((asked_is call r e).passed, tt)

session_passes : (session : List Exchange) → AllByRecursion Passes (tries_of session)
session_passes [] = tt
session_passes (x ∷ xs) = all_append Passes (tries_in x) (tries_of xs) (call_passes x.event.call (ending x.event.mark x.is_heard) (asked x.event.call) refl) (session_passes xs)

life_passes : (sessions : List (List Exchange)) → AllByRecursion Passes (all_tries (map tries_of sessions))
life_passes [] = tt
life_passes (session ∷ sessions) = all_append Passes (tries_of session) (all_tries (map tries_of sessions)) (session_passes session) (life_passes sessions)

-- the first of the requests is asked for by the call that it is answered in
first_passes : (t : Try) (ts : List Try) (rs : List Request) → Passes t → ((qs : List Request) → AreTriesOf qs ts → AllByRecursion (λ q. checked q ≡ None) qs) → IsOfFirst rs t → AreTriesOf (still_open rs t.end) ts
    → AllByRecursion (λ r. checked r ≡ None) rs
first_passes t ts [] passes next first rest = absurd first
first_passes t ts (r ∷ rs) passes next first rest = by_end t.end rest
  where
    by_end : (e : Ending) → AreTriesOf (still_open (r ∷ rs) e) ts → AllByRecursion (λ q. checked q ≡ None) (r ∷ rs)
    by_end Marked more = next (r ∷ rs) more
    by_end Down more = next (r ∷ rs) more
    by_end Unanswered more = next (r ∷ rs) more
    by_end Answered more = (subst (λ (q : Request). checked q ≡ None) first passes, next rs more)

-- each request is tried to its end, so each is asked for
requests_pass : (ts : List Try) (rs : List Request) → AllByRecursion Passes ts → AreTriesOf rs ts → AllByRecursion (λ r. checked r ≡ None) rs
requests_pass [] rs h none = subst (λ (l : List Request). AllByRecursion (λ r. checked r ≡ None) l) (sym none) tt
requests_pass (t ∷ ts) rs h tries = elim tries as (λ _. AllByRecursion (λ r. checked r ≡ None) rs) [
  | inl mine ↦ first_passes t ts rs h.0 (λ qs more. requests_pass ts qs h.1 more) mine.0 mine.1
  | inr other ↦ requests_pass ts rs h.1 other.1
]

module _ (config : Config) where
  -- the law of tries, over requests
  abbrev pub Retried : Type 0
  Retried = (s t : State) (requests : List Request) (sessions : List (List Try)) (reported : List Report) → IsInvariant config s → AllByRecursion (λ r. checked r ≡ None) requests → AreTriesOf requests (all_tries sessions)
      → IsLife config s sessions reported t → (reported ≡ reported_once config s requests) × (t ≡ after_once config s requests)

  pub calls_retried : Retried → (s t : State) (requests : List Request) (sessions : List (List Exchange)) (heard : List ReplyBytes) → IsInvariant config s → AreTriesOf requests (all_tries (map tries_of sessions))
      → IsLifeOfCalls config s sessions heard t → (heard ≡ map reported (reported_once config s requests)) × (t ≡ after_once config s requests)
  calls_retried law s t requests sessions heard inv tries l =
      let o = life_tries config s sessions heard t l in
      let once = law s t requests (map tries_of sessions) o.said inv (requests_pass (all_tries (map tries_of sessions)) requests (life_passes sessions) tries) tries o.life in
      (o.hears ∙ ap (map reported) once.0, once.1)

  -- ---- the same call again

  -- the law of one request that is taken again
  abbrev pub Repeated : Type 0
  Repeated = (s : State) (r : Request) → IsInvariant config s → checked r ≡ None → step config (step config s r).1 r ≡ step config s r

  pub call_repeated : Repeated → (s : State) (call : CallBytes) → IsInvariant config s → (volumes config).respond ((volumes config).respond s call).1 call ≡ (volumes config).respond s call
  call_repeated law s call inv = by_asked (asked call) refl
    where
      by_asked : (o : Option Request) → asked call ≡ o → (volumes config).respond ((volumes config).respond s call).1 call ≡ (volumes config).respond s call
      by_asked None e =
          let u = unasked_stays call e in
          u.1 config ((volumes config).respond s call).1 ∙ (ap (λ (y : ReplyBytes × State). (u.0, y.1)) (u.1 config s) ∙ sym (u.1 config s))
      by_asked (Some r) e =
          let is : (volumes config).respond s call ≡ answer_to config s r = asked_answers config s call r e in
          let again : answer_to config (step config s r).1 r ≡ answer_to config s r = ap (λ (y : Report × State). (reported y.0, y.1)) (law s r inv ((asked_is call r e).passed)) in
          asked_answers config ((volumes config).respond s call).1 call r e
          ∙ (ap (λ (y : ReplyBytes × State). answer_to config y.1 r) is ∙ (again ∙ sym is))
