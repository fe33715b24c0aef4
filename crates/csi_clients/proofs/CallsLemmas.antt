-- Calls of several clients are tries of their requests.
use Rattle.std.proofs.Common.{◌≡◌, ◌∙◌, ap, ap₂, sym, subst, refl, cond, ℕ, ◌==◌, Bool, true, false, List, [], ◌∷◌, ◌++◌, append-nil, map, Option, Some, None}
use Rattle.std.proofs.lemmas.List.{map-append}
use Rattle.envelope.specs.Envelope.{ReplyBytes}
use Rattle.csi_types.specs.declared.requests.Request.{Request}
use Rattle.csi_config.specs.declared.config.Config.{Config}
use Rattle.csi_keeper.specs.State.{State}
use Rattle.csi_machine.specs.Retry.{Ending, Try, after_try, reported_by, reported_of, Leaves, state_after as after_tries}
use Rattle.csi_machine.specs.Verdicts.{Report}
use Rattle.csi_server.specs.Machine.{state_after}
use Rattle.csi_server.specs.Machine.{step as call_step}
use Rattle.csi_server.specs.Requests.{reported}
use Rattle.csi_server.specs.Tries.{Exchange, asked, ending, events_of, heard_by, heard_of, tries_for, tries_in, tries_of, IsLeft}
use Rattle.csi_server.specs.Volumes.{volumes}
use Rattle.csi_clients.specs.Clients.{Clients, ClientTry, tries_made, clients_after}
use Rattle.csi_clients.specs.Histories.{IsHistory, heard_of as heard_of_client, heard_if}
use Rattle.csi_clients.specs.Calls.{ClientExchange, exchanges, try_of, client_tries_of, heard_from, heard_in_calls, IsHistoryOfCalls}

-- the tries of calls are the same with and without their clients
made_by : (o : Option ℕ) (b : Bool) (ts : List Try) → tries_made (map (try_of o b) ts) ≡ ts
made_by o b [] = refl
made_by o b (t ∷ ts) = ap (λ l. t ∷ l) (made_by o b ts)

tries_are : (xs : List ClientExchange) → tries_made (client_tries_of xs) ≡ tries_of (exchanges xs)
tries_are [] = refl
tries_are (x ∷ xs) =
    map-append (λ (t : ClientTry). t.made) (map (try_of x.client x.is_last) (tries_in x.exchange)) (client_tries_of xs)
    ∙ ap₂ (λ (a b : List Try). a ++ b) (made_by x.client x.is_last (tries_in x.exchange)) (tries_are xs)

-- the law `csi_server::laws::tries`
pub record OfCalls (config : Config) : Type 0 where
  pub after : (s : State) (session : List Exchange) → state_after (volumes config) s (events_of session) ≡ after_tries config s (tries_of session)
  pub heard : (s : State) (session : List Exchange) → heard_of config s session ≡ map reported (reported_of config s (tries_of session))
  pub left : (s t : State) (session : List Exchange) → IsLeft config s (events_of session) t → Leaves config s (tries_of session) t

module _ (config : Config) (laws : OfCalls config) where
  after_call : (s : State) (x : Exchange) → (call_step (volumes config) s x.event).1 ≡ after_tries config s (tries_in x)
  unfolding state_after
  after_call s x = laws.after s (x ∷ []) ∙ ap (after_tries config s) (append-nil (tries_in x))

  heard_call : (s : State) (x : Exchange) → heard_by (asked x.event.call) x.event.mark x.is_heard (call_step (volumes config) s x.event).0 ≡ map reported (reported_of config s (tries_in x))
  heard_call s x = sym (append-nil _) ∙ laws.heard s (x ∷ []) ∙ ap (λ (ts : List Try). map reported (reported_of config s ts)) (append-nil (tries_in x))

  -- ---- one call of a client
  if_mine : (b : Bool) (l : List Report) → cond b (map reported l) [] ≡ map reported (heard_if b l)
  if_mine true l = refl
  if_mine false l = refl

  by_tries : (s : State) (c : ℕ) (o : Option ℕ) (l : Bool) (ts : List ClientTry) (r : Option Request) (e : Ending)
      → heard_from c o (map reported (reported_of config s (tries_for r e))) ++ map reported (heard_of_client config (after_tries config s (tries_for r e)) c ts)
      ≡ map reported (heard_of_client config s c (map (try_of o l) (tries_for r e) ++ ts))
  by_tries s c None b ts None e = refl
  by_tries s c (Some d) b ts None e = ap (λ (l : List ReplyBytes). l ++ map reported (heard_of_client config s c ts)) (none (c == d))
    where
      none : (b : Bool) → cond {A = List ReplyBytes} b [] [] ≡ []
      none true = refl
      none false = refl
  by_tries s c None b ts (Some r) e = refl
  by_tries s c (Some d) b ts (Some r) e =
      let t : Try = record { request = r; end = e } in
      let rest = heard_of_client config (after_try config s t) c ts in
      ap (λ (l : List ReplyBytes). l ++ map reported rest) (ap (λ (l : List Report). cond (c == d) (map reported l) []) (append-nil (reported_by config s r e)) ∙ if_mine (c == d) (reported_by config s r e))
      ∙ sym (map-append reported (heard_if (c == d) (reported_by config s r e)) rest)

  heard_are : (xs : List ClientExchange) (s : State) (c : ℕ) → heard_in_calls config s c xs ≡ map reported (heard_of_client config s c (client_tries_of xs))
  heard_are [] s c = refl
  heard_are (x ∷ xs) s c =
      ap₂ (λ (l : List ReplyBytes) (y : State). heard_from c x.client l ++ heard_in_calls config y c xs) (heard_call s x.exchange) (after_call s x.exchange)
      ∙ ap (λ (l : List ReplyBytes). heard_from c x.client (map reported (reported_of config s (tries_in x.exchange))) ++ l) (heard_are xs (after_tries config s (tries_in x.exchange)) c)
      ∙ by_tries s c x.client x.is_last (client_tries_of xs) (asked x.exchange.event.call) (ending x.exchange.event.mark x.exchange.is_heard)

  -- ---- a history in calls is a history of tries
  pub record AsTries (s : State) (cs : Clients) (sessions : List (List ClientTry)) (heard : ℕ → List ReplyBytes) (t : State) : Type 0 where
    pub answers : ℕ → List Report
    pub history : IsHistory config s cs sessions answers t
    pub same : (c : ℕ) → heard c ≡ map reported (answers c)

  pub lived : (sessions : List (List ClientExchange)) (s : State) (cs : Clients) (heard : ℕ → List ReplyBytes) (t : State) → IsHistoryOfCalls config s cs sessions heard t
      → AsTries s cs (map client_tries_of sessions) heard t
  lived [] s cs heard t l = record { answers = λ c. []; history = (λ c. refl, l.1); same = l.0 }
  lived (session ∷ sessions) s cs heard t l =
      let more = lived sessions l.0 (clients_after cs (client_tries_of session)) l.1 t l.5 in
      let left : Leaves config s (tries_made (client_tries_of session)) l.0 = subst (λ (ts : List Try). Leaves config s ts l.0) (sym (tries_are session)) (laws.left s l.0 (exchanges session) l.3) in
      record {
        answers = λ c. heard_of_client config s c (client_tries_of session) ++ more.answers c;
        history = (l.0, more.answers, l.2, left, λ c. refl, more.history);
        same = λ c. l.4 c ∙ ap₂ (λ (a b : List ReplyBytes). a ++ b) (heard_are session s c) (more.same c)
            ∙ sym (map-append reported (heard_of_client config s c (client_tries_of session)) (more.answers c));
      }
