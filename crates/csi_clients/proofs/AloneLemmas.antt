-- A single client, and tries that change nothing, as a history of several clients.
use Rattle.std.proofs.Common.{◌≡◌, ◌≢◌, ◌∙◌, inl, inr, ap, ap₂, sym, subst, cond, refl, ℕ, ◌==◌, List, [], ◌∷◌, ◌++◌, Bool, true, false, Some, None, eq-eqb, eqb-true}
use Rattle.std.specs.List.{AllByRecursion}
use Rattle.csi_types.specs.Checks.{checked}
use Rattle.csi_types.specs.declared.requests.Request.{Request}
use Rattle.csi_config.specs.declared.config.Config.{Config}
use Rattle.csi_keeper.specs.Invariant.{IsInvariant}
use Rattle.csi_keeper.specs.State.{State}
use Rattle.csi_machine.specs.Retry.{Ending, Marked, Down, Unanswered, Answered, Try, after_try, after_once, all_tries, reported_by, reported_once, reported_of, still_open, without_first, Leaves, AreTriesOf, IsLife, IsOfAnother, IsOfFirst}
use Rattle.csi_machine.specs.Step.{step}
use Rattle.csi_machine.specs.Verdicts.{Report}
use Rattle.csi_clients.specs.Clients.{Client, Clients, ClientTry, Refusals, start, tries_made, client_after, gone_if, clients_after_try, clients_after, refusals_after, LeavesFirstAlone, AreSeparateFrom}
use Rattle.csi_clients.specs.Histories.{heard_if, heard_of, IsHistory, all_client_tries, AreAnswered}
use Rattle.csi_clients.specs.Linearizability.{Operation, requests_of, answers_in, after_operations, IsLinearizableInFull}
use Rattle.csi_clients.proofs.ClientLemmas.{set_there, by_client}

abbrev lone_todo : List Request → ℕ → List Request
lone_todo rs c = cond (c == 0) rs []

-- the first client asks for these requests, and no other client asks for anything
record IsLone (cs : Clients) (rs : List Request) : Type 0 where
  pub mine : (cs 0).rest ≡ rs
  pub here : (cs 0).is_gone ≡ false
  pub others : (d : ℕ) → d ≢ 0 → (cs d).rest ≡ []

lone_after : (cs : Clients) (rs : List Request) (e : Ending) → IsLone cs rs → IsLone (clients_after_try cs (Some 0) e false) (still_open rs e)
lone_after cs rs e l = record {
  mine = by_end e;
  here = by_gone e;
  others = λ d far. ap (λ (z : Client). z.rest) (set_there cs 0 (gone_if false (client_after (cs 0) e)) d far) ∙ l.others d far;
}
  where
    by_end : (e : Ending) → (gone_if false (client_after (cs 0) e)).rest ≡ still_open rs e
    by_end Marked = l.mine
    by_end Down = l.mine
    by_end Unanswered = l.mine
    by_end Answered = ap without_first l.mine

    by_gone : (e : Ending) → (gone_if false (client_after (cs 0) e)).is_gone ≡ false
    by_gone Marked = l.here
    by_gone Down = l.here
    by_gone Unanswered = l.here
    by_gone Answered = l.here

after_both : (cs : Clients) (ts us : List ClientTry) → clients_after cs (ts ++ us) ≡ clients_after (clients_after cs ts) us
after_both cs [] us = refl
after_both cs (t ∷ ts) us = after_both (clients_after_try cs t.client t.made.end t.is_last) ts us

module _ (config : Config) where
  -- tries as tries of the first client, or without a client
  record Tagged (s : State) (cs : Clients) (refusals : Refusals) (ts more : List Try) : Type 0 where
    pub tries : List ClientTry
    pub same : tries_made tries ≡ ts
    pub all_separate : AreSeparateFrom config s cs refusals tries
    pub left : List Request
    pub rest : AreTriesOf left more
    pub lone : IsLone (clients_after cs tries) left
    pub heard : heard_of config s 0 tries ≡ reported_of config s ts
    pub unheard : (c : ℕ) → c ≢ 0 → heard_of config s c tries ≡ []

  unreported : (s : State) (t : Try) → IsOfAnother t → reported_by config s t.request t.end ≡ []
  unreported s t other = by_end t.end refl
    where
      by_end : (e : Ending) → t.end ≡ e → reported_by config s t.request e ≡ []
      by_end Marked is = refl
      by_end Down is = refl
      by_end Unanswered is = refl
      by_end Answered is = absurd (other.1 is)

  tag : (ts more : List Try) (s : State) (cs : Clients) (refusals : Refusals) (rs : List Request) → IsLone cs rs → AreTriesOf rs (ts ++ more) → Tagged s cs refusals ts more
  tag [] more s cs refusals rs lone tries = record { tries = []; same = refl; all_separate = tt; left = rs; rest = tries; lone = lone; heard = refl; unheard = λ c far. refl }
  tag (t ∷ ts) more s cs refusals rs lone tries = elim tries as (λ _. Tagged s cs refusals (t ∷ ts) more) [
    | inl mine ↦
        let f : ClientTry = record { client = Some 0; made = t; is_last = false } in
        let on = tag ts more (after_try config s t) (clients_after_try cs (Some 0) t.end false) (refusals_after refusals (Some 0) t.end) (still_open rs t.end) (lone_after cs rs t.end lone) mine.1 in
        record {
          tries = f ∷ on.tries;
          same = ap (λ (l : List Try). t ∷ l) on.same;
          all_separate = (
            (
              lone.here,
              subst (λ (qs : List Request). IsOfFirst qs t) (sym lone.mine) mine.0,
              λ d far m. subst (λ (qs : List Request). LeavesFirstAlone s t.request qs) (sym (lone.others d far)) tt,
            ),
            on.all_separate,
          );
          left = on.left;
          rest = on.rest;
          lone = on.lone;
          heard = ap (λ (l : List Report). reported_by config s t.request t.end ++ l) on.heard;
          unheard = λ c far. ap₂ (λ (a b : List Report). a ++ b) (set_there {A = List Report} (λ (_ : ℕ). []) 0 (reported_by config s t.request t.end) c far) (on.unheard c far);
        }
    | inr other ↦
        let f : ClientTry = record { client = None; made = t; is_last = false } in
        let on = tag ts more (after_try config s t) cs refusals rs lone other.1 in
        record {
          tries = f ∷ on.tries;
          same = ap (λ (l : List Try). t ∷ l) on.same;
          all_separate = (other.0, on.all_separate);
          left = on.left;
          rest = on.rest;
          lone = on.lone;
          heard = on.heard ∙ ap (λ (l : List Report). l ++ reported_of config (after_try config s t) ts) (sym (unreported s t other.0));
          unheard = on.unheard;
        }
  ]

  -- a life of tries as a history
  record AsClients (s t : State) (cs : Clients) (reported : List Report) : Type 0 where
    pub sessions : List (List ClientTry)
    pub heard : ℕ → List Report
    pub history : IsHistory config s cs sessions heard t
    pub mine : heard 0 ≡ reported
    pub answered : AreAnswered cs sessions

  as_clients : (sessions : List (List Try)) (s t : State) (cs : Clients) (rs : List Request) (reported : List Report) → IsLone cs rs → AreTriesOf rs (all_tries sessions) → IsLife config s sessions reported t → AsClients s t cs reported
  as_clients [] s t cs rs reported lone tries l = record {
    sessions = [];
    heard = λ c. [];
    history = (λ c. refl, l.1);
    mine = sym l.0;
    answered = by_client (λ c. (cs c).rest ≡ []) 0 (lone.mine ∙ tries) lone.others;
  }
  as_clients (ts ∷ sessions) s t cs rs reported lone tries l =
      let g = tag ts (all_tries sessions) s cs (λ c. false) rs lone tries in
      let on = as_clients sessions l.0 t (clients_after cs g.tries) g.left l.1 g.lone g.rest l.4 in
      record {
        sessions = g.tries ∷ on.sessions;
        heard = λ c. heard_of config s c g.tries ++ on.heard c;
        history = (l.0, on.heard, g.all_separate, subst (λ (k : List Try). Leaves config s k l.0) (sym g.same) l.2, λ c. refl, on.history);
        mine = ap₂ (λ (a b : List Report). a ++ b) g.heard on.mine ∙ sym l.3;
        answered = λ c. ap (λ (ds : Clients). (ds c).rest) (after_both cs g.tries (all_client_tries on.sessions)) ∙ on.answered c;
      }

  -- an order of requests of the first client alone
  record IsAlone (s : State) (order : List Operation) : Type 0 where
    pub reported : answers_in config s 0 order ≡ reported_once config s (requests_of 0 order)
    pub last : after_operations config s order ≡ after_once config s (requests_of 0 order)

  alone : (order : List Operation) (s : State) → ((c : ℕ) → c ≢ 0 → requests_of c order ≡ []) → IsAlone s order
  alone [] s none = record { reported = refl; last = refl }
  alone (o ∷ os) s none = by_client_of (0 == o.client) refl (λ z h. alone os z h)
    where
      by_client_of : (b : Bool) → (0 == o.client) ≡ b → ((z : State) → ((c : ℕ) → c ≢ 0 → requests_of c os ≡ []) → IsAlone z os) → IsAlone s (o ∷ os)
      by_client_of true e next =
          let k = o.client in
          let r = o.request in
          let zero : 0 ≡ k = eqb-true 0 k e in
          let y = (step config s r).1 in
          let on = next y (λ c far. sym (set_there {A = List Request} (λ (_ : ℕ). requests_of c os) k (r ∷ requests_of c os) c (λ is. far (is ∙ sym zero))) ∙ none c far) in
          let first : requests_of 0 (o ∷ os) ≡ r ∷ requests_of 0 os = ap (λ b. cond b (r ∷ requests_of 0 os) (requests_of 0 os)) e in
          record {
            reported = ap (λ b. heard_if b ((step config s r).0 ∷ []) ++ answers_in config y 0 os) e ∙ ap (λ (l : List Report). (step config s r).0 ∷ l) on.reported ∙ ap (reported_once config s) (sym first);
            last = on.last ∙ ap (after_once config s) (sym first);
          }
      by_client_of false e next =
          let k = o.client in
          let r = o.request in
          let away : k ≢ 0 = λ is. let y : (0 == k) ≡ true = eq-eqb 0 k (sym is) in absurd (cc (y, e)) in
          let here : r ∷ requests_of k os ≡ [] = sym (ap (λ b. cond b (r ∷ requests_of k os) (requests_of k os)) (eq-eqb k k refl)) ∙ none k away in
          absurd (cc (here))

  pub retried : ((s t : State) (todo : ℕ → List Request) (sessions : List (List ClientTry)) (heard : ℕ → List Report) → IsInvariant config s
      → ((c : ℕ) → AllByRecursion (λ r. checked r ≡ None) (todo c)) → IsHistory config s (start todo) sessions heard t
      → AreAnswered (start todo) sessions → IsLinearizableInFull config s todo sessions heard t)
      → (s t : State) (requests : List Request) (sessions : List (List Try)) (reported : List Report) → IsInvariant config s → AllByRecursion (λ r. checked r ≡ None) requests
      → AreTriesOf requests (all_tries sessions) → IsLife config s sessions reported t → (reported ≡ reported_once config s requests) × (t ≡ after_once config s requests)
  retried law s t requests sessions reported inv passed tries l =
      let lone : IsLone (start (lone_todo requests)) requests = record { mine = refl; here = refl; others = λ d far. set_there {A = List Request} (λ (_ : ℕ). []) 0 requests d far } in
      let a = as_clients sessions s t (start (lone_todo requests)) requests reported lone tries l in
      let all_passed : (c : ℕ) → AllByRecursion (λ r. checked r ≡ None) (lone_todo requests c) =
      by_client (λ c. AllByRecursion (λ r. checked r ≡ None) (lone_todo requests c)) 0 passed
      (λ d far. subst (λ (qs : List Request). AllByRecursion (λ r. checked r ≡ None) qs) (sym (lone.others d far)) tt) in
      let o = law s t (lone_todo requests) a.sessions a.heard inv all_passed a.history a.answered in
      let one = alone o.order s (λ c far. o.each c ∙ lone.others c far) in
      (sym a.mine ∙ o.answers 0 ∙ one.reported ∙ ap (reported_once config s) (o.each 0), o.last ∙ one.last ∙ ap (after_once config s) (o.each 0))
