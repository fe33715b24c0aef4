-- Histories of separate tries are linearizable. A request takes effect at the first try that the machine
-- answers with a body, or at the end of its session if a stop left the change of a refused try. A request
-- that only reads takes effect at its answer, and so does a refused one.
use Rattle.std.proofs.Common.{◌≡◌, ◌≢◌, ◌∙◌, ◌⊎◌, inl, inr, ap, ap₂, sym, subst, subst₂, cond, refl, ℕ, ◌==◌, List, [], ◌∷◌, ◌++◌, append_assoc, append-nil, Bool, true, false, Option, Some, None, eq-eqb, eqb-true}
use Rattle.std.specs.List.{AllByRecursion}
use Rattle.csi_types.specs.Checks.{checked}
use Rattle.csi_types.specs.declared.requests.Request.{Request}
use Rattle.csi_config.specs.declared.config.Config.{Config}
use Rattle.csi_keeper.specs.Invariant.{IsInvariant}
use Rattle.csi_keeper.specs.State.{State}
use Rattle.csi_keeper.specs.facts.Finite.{none_some, same_some}
use Rattle.csi_machine.specs.Plan.{after}
use Rattle.csi_machine.specs.Retry.{Ending, Marked, Down, Unanswered, Answered, Try, moved_by, after_try, state_after, reported_by, IsOfFirst, IsOfAnother, without_first}
use Rattle.csi_machine.specs.Step.{is_read, moved, step}
use Rattle.csi_machine.specs.Verdicts.{Report, Says, Denies}
use Rattle.csi_clients.specs.Clients.{Client, Clients, ClientTry, Refusals, start, tries_made, client_after, gone_if, with_client, is_refused, refusals_after, IsUnsettled, clients_after_try, clients_after, LeaveEachOtherAlone, LeavesFirstAlone, IsSeparate, AreSeparateFrom}
use Rattle.csi_clients.specs.Histories.{heard_if, heard_by, heard_of, IsHistory, all_client_tries, AreAnswered}
use Rattle.csi_clients.specs.Linearizability.{Operation, requests_of, answers_in, after_operations, IsInvoked, IsToCome, KeepsRealTimeIn, KeepsRealTime, IsLeftOver, IsLinearizable, IsLinearizableInFull}
use Rattle.csi_clients.proofs.ClientLemmas.{set, set_here, set_there, by_client, set_same, AreStill, Left, kept, left_of}
use Rattle.csi_clients.proofs.StaysLemmas.{Keep}
use Rattle.csi_clients.proofs.DoneLemmas.{Again, Stays, read_stays, denied_stays, operation, Status, owed, said, IsDoneFirst, IsDoneOf, heard_none}

module _ (config : Config) where
  record Holds (x : State) (cs : Clients) (st : Status) : Type 0 where
    pub inv : IsInvariant config x
    pub passed : (c : ℕ) → AllByRecursion (λ r. checked r ≡ None) (cs c).rest
    pub done : (c : ℕ) (body : List ℕ) → st c ≡ Some body → IsDoneOf config x (cs c) body

  -- requests that are never taken, and replies that are never heard
  record Unfinished : Type 0 where
    pub left : ℕ → List Request
    pub unheard : ℕ → List Report

  -- from this moment on the requests that are owed are taken once each
  record Goes (x : State) (cs : Clients) (st : Status) (z : Unfinished) (heard : ℕ → List Report) (t : State) (order : List Operation) : Type 0 where
    pub each : (c : ℕ) → requests_of c order ++ z.left c ≡ owed (st c) (cs c).rest
    pub reported : (c : ℕ) → heard c ++ z.unheard c ≡ said (st c) ++ answers_in config x c order
    pub last : t ≡ after_operations config x order

  -- as `Goes`, and the order keeps the real-time order of the tries to come, in this session and in later
  -- ones
  record Ends (x : State) (cs : Clients) (refusals : Refusals) (st : Status) (heard : ℕ → List Report) (t : State) (ts : List ClientTry) (sessions : List (List ClientTry)) : Type 0 where
    pub order : List Operation
    pub unfinished : Unfinished
    pub goes : Goes x cs st unfinished heard t order
    pub later : List Operation
    pub real_time : KeepsRealTimeIn unfinished.left cs refusals ts order later
    pub then_real_time : KeepsRealTime unfinished.left (clients_after cs ts) sessions later
    pub ends : (c : ℕ) → IsLeftOver (clients_after cs (ts ++ all_client_tries sessions) c) (unfinished.left c) (unfinished.unheard c)
    -- a client that is gone, and whose request is not refused, has nothing to come
    pub over : (c : ℕ) → (cs c).is_gone ≡ true → refusals c ≡ false → requests_of c order ≡ []

  -- before a session
  record Begins (x : State) (cs : Clients) (st : Status) (heard : ℕ → List Report) (t : State) (sessions : List (List ClientTry)) : Type 0 where
    pub order : List Operation
    pub unfinished : Unfinished
    pub goes : Goes x cs st unfinished heard t order
    pub real_time : KeepsRealTime unfinished.left cs sessions order
    pub ends : (c : ℕ) → IsLeftOver (clients_after cs (all_client_tries sessions) c) (unfinished.left c) (unfinished.unheard c)
    pub over : (c : ℕ) → (cs c).is_gone ≡ true → requests_of c order ≡ []

  goes_as : (x : State) (cs : Clients) (st : Status) (z : Unfinished) (h k : ℕ → List Report) (t : State) (order : List Operation) → ((c : ℕ) → k c ≡ h c) → Goes x cs st z h t order → Goes x cs st z k t order
  goes_as x cs st z h k t order e g = record { each = g.each; reported = λ c. ap (λ (l : List Report). l ++ z.unheard c) (e c) ∙ g.reported c; last = g.last }

  -- the first of them
  first_of : (x : State) (rs : List Request) (body : List ℕ) → IsDoneFirst config x rs body → (first : Request) × (rs ≡ first ∷ without_first rs)
  first_of x [] body done = absurd done
  first_of x (r ∷ rs) body done = (r, refl)

  started : (x : State) (k : Client) (body : List ℕ) → IsDoneOf config x k body → IsInvoked k × (first : Request) × (k.rest ≡ first ∷ without_first k.rest)
  started x k body done = elim done as (λ _. IsInvoked k × (first : Request) × (k.rest ≡ first ∷ without_first k.rest)) [
    | inl a ↦ let one = first_of x k.rest body a.1 in (inl a.0, one.0, one.1)
    | inr g ↦ (inr g.0, g.1, g.2)
  ]

  -- the rest of each client's history
  to_come : (x : State) (cs : Clients) (st : Status) (z : Unfinished) (heard : ℕ → List Report) (t : State) (order : List Operation) → Holds x cs st → Goes x cs st z heard t order → (c : ℕ) → IsToCome (cs c) (requests_of c order ++ z.left c)
  to_come x cs st z heard t order h g c = by_status (st c) refl
    where
      by_status : (o : Option (List ℕ)) → st c ≡ o → IsToCome (cs c) (requests_of c order ++ z.left c)
      by_status None at = inl (g.each c ∙ ap (λ (o : Option (List ℕ)). owed o (cs c).rest) at)
      by_status (Some body) at =
          let one = started x (cs c) body (h.done c body at) in
          inr (one.0, one.1, one.2 ∙ ap (λ (rs : List Request). one.1 ∷ rs) (sym (g.each c ∙ ap (λ (o : Option (List ℕ)). owed o (cs c).rest) at)))

  -- the end of a session
  at_end : (x : State) (cs : Clients) (refusals : Refusals) (st : Status) (heard : ℕ → List Report) (t : State) (sessions : List (List ClientTry)) → Holds x cs st → Begins x cs st heard t sessions → Ends x cs refusals st heard t [] sessions
  at_end x cs refusals st heard t sessions h g = record {
    order = g.order;
    unfinished = g.unfinished;
    goes = g.goes;
    later = g.order;
    real_time = (record { to_come = to_come x cs st g.unfinished heard t g.order h g.goes; gone = λ c gone sure. g.over c gone }, [], refl);
    then_real_time = g.real_time;
    ends = g.ends;
    over = λ c gone sure. g.over c gone;
  }

  -- the effect of a try
  record Went (o : Option ℕ) (x : State) (cs : Clients) (st : Status) (y : State) (ds : Clients) (part : ℕ → List Report) : Type 0 where
    pub to : Status
    pub holds : Holds y ds to
    -- nothing changes for another client
    pub others : (d : ℕ) → (o ≡ Some d → ⊥) → to d ≡ st d
    pub taken : List Operation
    pub mine : (d : ℕ) → (o ≡ Some d → ⊥) → (order : List Operation) → requests_of d (taken ++ order) ≡ requests_of d order
    pub goes : (z : Unfinished) (heard : ℕ → List Report) (t : State) (order : List Operation) → Goes y ds to z heard t order → Goes x cs st z (λ c. part c ++ heard c) t (taken ++ order)

  -- the try takes no request of another client
  over_taken : (o : Option ℕ) (x : State) (cs : Clients) (st : Status) (y : State) (ds : Clients) (part : ℕ → List Report) (w : Went o x cs st y ds part) (order : List Operation) (a : ℕ) → (o ≡ Some a → ⊥)
      → requests_of a order ≡ [] → requests_of a (w.taken ++ order) ≡ []
  over_taken o x cs st y ds part w order a far none = w.mine a far order ∙ none

  -- ---- a try that takes no effect

  module _ (x : State) (cs : Clients) (st : Status) (c : ℕ) (k : Client) (rest : k.rest ≡ (cs c).rest) (opened : IsInvoked (cs c) → IsInvoked k) (gone : (cs c).is_gone ≡ true → k.is_gone ≡ true) where
    rest_same : (d : ℕ) → (with_client cs c k d).rest ≡ (cs d).rest
    rest_same = by_client (λ d. (with_client cs c k d).rest ≡ (cs d).rest) c (ap (λ (z : Client). z.rest) (set_here cs c k) ∙ rest) (λ d far. ap (λ (z : Client). z.rest) (set_there cs c k d far))

    here_done : (body : List ℕ) → IsDoneOf config x (cs c) body → IsDoneOf config x k body
    here_done body done = elim done as (λ _. IsDoneOf config x k body) [
      | inl a ↦
          let one = first_of x (cs c).rest body a.1 in
          elim (opened (inl a.0)) as (λ _. IsDoneOf config x k body) [
            | inl o ↦ inl (o, subst (λ (rs : List Request). IsDoneFirst config x rs body) (sym rest) a.1)
            | inr g ↦ inr (g, one.0, subst (λ (rs : List Request). rs ≡ one.0 ∷ without_first rs) (sym rest) one.1)
          ]
      | inr g ↦ inr (gone g.0, g.1, subst (λ (rs : List Request). rs ≡ g.1 ∷ without_first rs) (sym rest) g.2)
    ]

    quiet_holds : Holds x cs st → Holds x (with_client cs c k) st
    quiet_holds h = record {
      inv = h.inv;
      passed = λ d. subst (λ (rs : List Request). AllByRecursion (λ r. checked r ≡ None) rs) (sym (rest_same d)) (h.passed d);
      done = λ d body. by_client (λ d. st d ≡ Some body → IsDoneOf config x (with_client cs c k d) body) c
          (λ e. subst (λ (z : Client). IsDoneOf config x z body) (sym (set_here cs c k)) (here_done body (h.done c body e)))
          (λ d far e. subst (λ (z : Client). IsDoneOf config x z body) (sym (set_there cs c k d far)) (h.done d body e)) d;
    }

    quiet_goes : (z : Unfinished) (heard : ℕ → List Report) (t : State) (order : List Operation) → Goes x (with_client cs c k) st z heard t order → Goes x cs st z (λ d. heard_if (d == c) [] ++ heard d) t order
    quiet_goes z heard t order g = record {
      each = λ d. g.each d ∙ ap (owed (st d)) (rest_same d);
      reported = λ d. ap (λ l. (l ++ heard d) ++ z.unheard d) (heard_none (d == c)) ∙ g.reported d;
      last = g.last;
    }

    quietly : Holds x cs st → Went (Some c) x cs st x (with_client cs c k) (λ d. heard_if (d == c) [])
    quietly h = record { to = st; holds = quiet_holds h; others = λ d far. refl; taken = []; mine = λ d far order. refl; goes = quiet_goes }

  module _ (keep : Keep config) (again : Again config) (stay : Stays config) where
    -- ---- a request that takes effect

    record Takes (x : State) (cs : Clients) (st : Status) (c : ℕ) (r : Request) (k : Client) (v : Option (List ℕ)) (l : List Report) : Type 0 where
      pub open_ : st c ≡ None
      pub rest : r ∷ owed v k.rest ≡ (cs c).rest
      pub reported : l ++ said v ≡ (step config x r).0 ∷ []
      pub passed : AllByRecursion (λ r. checked r ≡ None) k.rest
      pub done : (body : List ℕ) → v ≡ Some body → IsDoneOf config (step config x r).1 k body

    first_passed : (x : State) (cs : Clients) (st : Status) (c : ℕ) (r : Request) (rs : List Request) → Holds x cs st → r ∷ rs ≡ (cs c).rest → checked r ≡ None
    first_passed x cs st c r rs h is = (subst (λ (qs : List Request). AllByRecursion (λ r. checked r ≡ None) qs) (sym is) (h.passed c)).0

    first_stays : (x : State) (r : Request) → IsInvariant config x → checked r ≡ None → (rs : List Request) (body : List ℕ) → LeavesFirstAlone x r rs → IsDoneFirst config x rs body → IsDoneFirst config (step config x r).1 rs body
    first_stays x r inv passed [] body apart done = absurd done
    first_stays x r inv passed (q ∷ qs) body apart done = (done.0, stay x r q body inv passed (apart.0 done.0) done.1)

    takes : (x : State) (cs : Clients) (st : Status) (c : ℕ) (r : Request) (k : Client) (v : Option (List ℕ)) (l : List Report) → Holds x cs st
        → ((d : ℕ) → d ≢ c → (cs d).is_open ≡ true → LeavesFirstAlone x r (cs d).rest) → Takes x cs st c r k v l
        → Went (Some c) x cs st (step config x r).1 (with_client cs c k) (λ d. heard_if (d == c) l)
    takes x cs st c r k v l h apart t =
        let y = (step config x r).1 in
        let passed = first_passed x cs st c r (owed v k.rest) h t.rest in
        record {
          to = set st c v;
          holds = record {
            inv = keep x r h.inv passed;
            passed = by_client (λ d. AllByRecursion (λ r. checked r ≡ None) (with_client cs c k d).rest) c
                (subst (λ (z : Client). AllByRecursion (λ r. checked r ≡ None) z.rest) (sym (set_here cs c k)) t.passed)
                (λ d far. subst (λ (z : Client). AllByRecursion (λ r. checked r ≡ None) z.rest) (sym (set_there cs c k d far)) (h.passed d));
            done = λ d body. by_client (λ d. set st c v d ≡ Some body → IsDoneOf config y (with_client cs c k d) body) c
                (λ e. subst (λ (z : Client). IsDoneOf config y z body) (sym (set_here cs c k)) (t.done body (sym (set_here st c v) ∙ e)))
                (λ d far e. subst (λ (z : Client). IsDoneOf config y z body) (sym (set_there cs c k d far))
                (elim (h.done d body (sym (set_there st c v d far) ∙ e)) as (λ _. IsDoneOf config y (cs d) body) [
                  | inl was ↦ inl (was.0, first_stays x r h.inv passed (cs d).rest body (apart d far was.0) was.1)
                  | inr g ↦ inr g
                ])) d;
          };
          others = λ d far. set_there st c v d (λ e. far (ap Some (sym e)));
          taken = operation c r ∷ [];
          mine = λ d far order. set_there {A = List Request} (λ (_ : ℕ). requests_of d order) c (r ∷ requests_of d order) d (λ e. far (ap Some (sym e)));
          goes = λ z heard u order g. record {
            each = by_client (λ d. requests_of d (operation c r ∷ order) ++ z.left d ≡ owed (st d) (cs d).rest) c
                (ap (λ b. cond b (r ∷ requests_of c order) (requests_of c order) ++ z.left c) (eq-eqb c c refl)
                ∙ ap (λ rs. r ∷ rs) (g.each c ∙ ap₂ (λ (w : Option (List ℕ)) (n : Client). owed w n.rest) (set_here st c v) (set_here cs c k))
                ∙ t.rest
                ∙ ap (λ (w : Option (List ℕ)). owed w (cs c).rest) (sym t.open_))
                (λ d far. ap (λ (qs : List Request). qs ++ z.left d) (set_there {A = List Request} (λ (_ : ℕ). requests_of d order) c (r ∷ requests_of d order) d far)
                ∙ g.each d
                ∙ ap₂ (λ (w : Option (List ℕ)) (n : Client). owed w n.rest) (set_there st c v d far) (set_there cs c k d far));
            reported = by_client (λ d. (heard_if (d == c) l ++ heard d) ++ z.unheard d ≡ said (st d) ++ (heard_if (d == c) ((step config x r).0 ∷ []) ++ answers_in config y d order)) c
                (ap (λ b. (heard_if b l ++ heard c) ++ z.unheard c) (eq-eqb c c refl)
                ∙ append_assoc l (heard c) (z.unheard c)
                ∙ ap (λ m. l ++ m) (g.reported c ∙ ap (λ (w : Option (List ℕ)). said w ++ answers_in config y c order) (set_here st c v))
                ∙ sym (append_assoc l (said v) (answers_in config y c order))
                ∙ ap (λ m. m ++ answers_in config y c order) t.reported
                ∙ sym (ap (λ (w : Option (List ℕ)). said w ++ (heard_if (c == c) ((step config x r).0 ∷ []) ++ answers_in config y c order)) t.open_
                ∙ ap (λ b. heard_if b ((step config x r).0 ∷ []) ++ answers_in config y c order) (eq-eqb c c refl)))
                (λ d far. ap (λ m. (m ++ heard d) ++ z.unheard d) (set_there {A = List Report} (λ (_ : ℕ). []) c l d far)
                ∙ g.reported d
                ∙ ap (λ (w : Option (List ℕ)). said w ++ answers_in config y d order) (set_there st c v d far)
                ∙ sym (ap (λ m. said (st d) ++ (m ++ answers_in config y d order)) (set_there {A = List Report} (λ (_ : ℕ). []) c ((step config x r).0 ∷ []) d far)));
            last = g.last;
          };
        }

    -- ---- the answer to a request that was made before

    answers_before : (is_last : Bool) (x : State) (cs : Clients) (st : Status) (c : ℕ) (r : Request) (rs : List Request) (body : List ℕ) → Holds x cs st → (cs c).rest ≡ r ∷ rs → st c ≡ Some body
        → Went (Some c) x cs st x (with_client cs c (gone_if is_last (client_after (cs c) Answered))) (λ d. heard_if (d == c) (Says body ∷ []))
    answers_before is_last x cs st c r rs body h is at =
        let k = gone_if is_last (client_after (cs c) Answered) in
        record {
          to = set st c None;
          holds = record {
            inv = h.inv;
            passed = by_client (λ d. AllByRecursion (λ r. checked r ≡ None) (with_client cs c k d).rest) c
                (subst (λ (z : Client). AllByRecursion (λ r. checked r ≡ None) z.rest) (sym (set_here cs c k)) (rest_passed (cs c).rest (h.passed c)))
                (λ d far. subst (λ (z : Client). AllByRecursion (λ r. checked r ≡ None) z.rest) (sym (set_there cs c k d far)) (h.passed d));
            done = λ d b. by_client (λ d. set st c None d ≡ Some b → IsDoneOf config x (with_client cs c k d) b) c
                (λ e. absurd (none_some b (sym (set_here st c None) ∙ e)))
                (λ d far e. subst (λ (z : Client). IsDoneOf config x z b) (sym (set_there cs c k d far)) (h.done d b (sym (set_there st c None d far) ∙ e))) d;
          };
          others = λ d far. set_there st c None d (λ e. far (ap Some (sym e)));
          taken = [];
          mine = λ d far order. refl;
          goes = λ z heard u order g. record {
            each = by_client (λ d. requests_of d order ++ z.left d ≡ owed (st d) (cs d).rest) c
                (g.each c
                ∙ ap₂ (λ (w : Option (List ℕ)) (n : Client). owed w n.rest) (set_here st c None) (set_here cs c k)
                ∙ ap (λ (w : Option (List ℕ)). owed w (cs c).rest) (sym at))
                (λ d far. g.each d ∙ ap₂ (λ (w : Option (List ℕ)) (n : Client). owed w n.rest) (set_there st c None d far) (set_there cs c k d far));
            reported = by_client (λ d. (heard_if (d == c) (Says body ∷ []) ++ heard d) ++ z.unheard d ≡ said (st d) ++ answers_in config x d order) c
                (ap (λ b. (heard_if b (Says body ∷ []) ++ heard c) ++ z.unheard c) (eq-eqb c c refl)
                ∙ ap (λ m. Says body ∷ m) (g.reported c ∙ ap (λ (w : Option (List ℕ)). said w ++ answers_in config x c order) (set_here st c None))
                ∙ ap (λ (w : Option (List ℕ)). said w ++ answers_in config x c order) (sym at))
                (λ d far. ap (λ m. (m ++ heard d) ++ z.unheard d) (set_there {A = List Report} (λ (_ : ℕ). []) c (Says body ∷ []) d far)
                ∙ g.reported d
                ∙ ap (λ (w : Option (List ℕ)). said w ++ answers_in config x d order) (set_there st c None d far));
            last = g.last;
          };
        }
      where
        rest_passed : (rs : List Request) → AllByRecursion (λ r. checked r ≡ None) rs → AllByRecursion (λ r. checked r ≡ None) (without_first rs)
        rest_passed [] p = tt
        rest_passed (q ∷ qs) p = p.1

    -- ---- one try

    -- a client that is not gone asks again
    is_done : (x : State) (cs : Clients) (st : Status) (c : ℕ) (r : Request) (rs : List Request) (body : List ℕ) → Holds x cs st → (cs c).is_gone ≡ false → (cs c).rest ≡ r ∷ rs → st c ≡ Some body → step config x r ≡ (Says body, x)
    is_done x cs st c r rs body h stays is at = elim (h.done c body at) as (λ _. step config x r ≡ (Says body, x)) [
      | inl a ↦ (subst (λ (qs : List Request). IsDoneFirst config x qs body) is a.1).1
      | inr g ↦ absurd (cc (stays, g.0))
    ]

    -- a client that has tried, and may be gone
    is_started : (is_last g : Bool) → (cond is_last false true ≡ true) ⊎ (cond is_last true g ≡ true)
    is_started true g = inr refl
    is_started false g = inl refl

    still_started : (is_last o g : Bool) → (o ≡ true) ⊎ (g ≡ true) → (cond is_last false o ≡ true) ⊎ (cond is_last true g ≡ true)
    still_started true o g e = inr refl
    still_started false o g e = e

    still_gone : (is_last g : Bool) → g ≡ true → cond is_last true g ≡ true
    still_gone true g e = refl
    still_gone false g e = e

    -- a request that took effect is done, if its client has tried
    done_of : (is_last g : Bool) (y : State) (rs : List Request) (body : List ℕ) → IsDoneFirst config y rs body → IsDoneOf config y (record { rest = rs; is_open = cond is_last false true; is_gone = cond is_last true g }) body
    done_of true g y rs body done = let one = first_of y rs body done in inr (refl, one.0, one.1)
    done_of false g y rs body done = inl (refl, done)

    module _ (is_last : Bool) (x : State) (cs : Clients) (st : Status) (c : ℕ) (r : Request) (rs : List Request) (h : Holds x cs st) (stays : (cs c).is_gone ≡ false) (is : (cs c).rest ≡ r ∷ rs)
        (apart : (d : ℕ) → d ≢ c → (cs d).is_open ≡ true → LeavesFirstAlone x r (cs d).rest) where
      own_unanswered : Went (Some c) x cs st (step config x r).1 (with_client cs c (gone_if is_last (client_after (cs c) Unanswered))) (λ d. heard_if (d == c) [])
      own_unanswered = by_status (st c) refl
        where
          still : (step config x r).1 ≡ x → Went (Some c) x cs st (step config x r).1 (with_client cs c (gone_if is_last (client_after (cs c) Unanswered))) (λ d. heard_if (d == c) [])
          still e = subst (λ (y : State). Went (Some c) x cs st y (with_client cs c (gone_if is_last (client_after (cs c) Unanswered))) (λ d. heard_if (d == c) [])) (sym e)
              (quietly x cs st c (gone_if is_last (client_after (cs c) Unanswered)) refl (λ o. is_started is_last (cs c).is_gone) (still_gone is_last (cs c).is_gone) h)

          by_reported : st c ≡ None → is_read r ≡ false → (w : Report) → (step config x r).0 ≡ w
              → Went (Some c) x cs st (step config x r).1 (with_client cs c (gone_if is_last (client_after (cs c) Unanswered))) (λ d. heard_if (d == c) [])
          by_reported none changes (Denies why) e = still (denied_stays config x r why e)
          by_reported none changes (Says body) e = takes x cs st c r (gone_if is_last (client_after (cs c) Unanswered)) (Some body) [] h apart (record {
            open_ = none;
            rest = ap (λ (qs : List Request). r ∷ without_first qs) is ∙ sym is;
            reported = ap (λ (w : Report). w ∷ []) (sym e);
            passed = h.passed c;
            done = λ b f. done_of is_last (cs c).is_gone (step config x r).1 (cs c).rest b
                (subst (λ (qs : List Request). IsDoneFirst config (step config x r).1 qs b) (sym is)
                (changes, again x r h.inv (first_passed x cs st c r rs h (sym is)) ∙ ap (λ (w : Report). (w, (step config x r).1)) (e ∙ ap Says (same_some body b f))));
          })

          -- a request that only reads takes effect at its answer
          by_read : st c ≡ None → (b : Bool) → is_read r ≡ b → Went (Some c) x cs st (step config x r).1 (with_client cs c (gone_if is_last (client_after (cs c) Unanswered))) (λ d. heard_if (d == c) [])
          by_read none true e = still (read_stays config x r e)
          by_read none false e = by_reported none e (step config x r).0 refl

          by_status : (o : Option (List ℕ)) → st c ≡ o → Went (Some c) x cs st (step config x r).1 (with_client cs c (gone_if is_last (client_after (cs c) Unanswered))) (λ d. heard_if (d == c) [])
          by_status None at = by_read at (is_read r) refl
          by_status (Some body) at = still (ap (λ (w : Report × State). w.1) (is_done x cs st c r rs body h stays is at))

      own_answered : Went (Some c) x cs st (step config x r).1 (with_client cs c (gone_if is_last (client_after (cs c) Answered))) (λ d. heard_if (d == c) ((step config x r).0 ∷ []))
      own_answered = by_status (st c) refl
        where
          by_status : (o : Option (List ℕ)) → st c ≡ o → Went (Some c) x cs st (step config x r).1 (with_client cs c (gone_if is_last (client_after (cs c) Answered))) (λ d. heard_if (d == c) ((step config x r).0 ∷ []))
          by_status None at = takes x cs st c r (gone_if is_last (client_after (cs c) Answered)) None ((step config x r).0 ∷ []) h apart (record {
            open_ = at;
            rest = ap (λ (qs : List Request). r ∷ without_first qs) is ∙ sym is;
            reported = refl;
            passed = subst (λ (qs : List Request). AllByRecursion (λ r. checked r ≡ None) (without_first qs)) (sym is) (subst (λ (qs : List Request). AllByRecursion (λ r. checked r ≡ None) qs) is (h.passed c)).1;
            done = λ b f. absurd (none_some b f);
          })
          by_status (Some body) at =
              let done = is_done x cs st c r rs body h stays is at in
              subst (λ (w : Report × State). Went (Some c) x cs st w.1 (with_client cs c (gone_if is_last (client_after (cs c) Answered))) (λ d. heard_if (d == c) (w.0 ∷ []))) (sym done) (answers_before is_last x cs st c r rs body h is at)

      own : (e : Ending) → Went (Some c) x cs st (moved_by config x r e) (with_client cs c (gone_if is_last (client_after (cs c) e))) (λ d. heard_if (d == c) (reported_by config x r e))
      own Marked = quietly x cs st c (gone_if is_last (client_after (cs c) Marked)) refl (λ o. is_started is_last (cs c).is_gone) (still_gone is_last (cs c).is_gone) h
      own Down = quietly x cs st c (gone_if is_last (client_after (cs c) Down)) refl (still_started is_last (cs c).is_open (cs c).is_gone) (still_gone is_last (cs c).is_gone) h
      own Unanswered = own_unanswered
      own Answered = own_answered

    -- a try without a client
    passed_by : (x : State) (t : Try) → IsOfAnother t → after_try config x t ≡ x
    passed_by x t other = by_end t.end refl
      where
        by_end : (e : Ending) → t.end ≡ e → moved_by config x t.request e ≡ x
        by_end Marked is = refl
        by_end Down is = refl
        by_end Unanswered is = read_stays config x t.request other.0
        by_end Answered is = absurd (other.1 is)

    one : (x : State) (cs : Clients) (refusals : Refusals) (st : Status) (o : Option ℕ) (t : Try) (is_last : Bool) → Holds x cs st → IsSeparate x cs refusals o t
        → Went o x cs st (after_try config x t) (clients_after_try cs o t.end is_last) (λ d. heard_by config x d o t)
    one x cs refusals st None t is_last h separate =
        subst (λ (y : State). Went None x cs st y cs (λ d. [])) (sym (passed_by x t separate)) (record { to = st; holds = h; others = λ d far. refl; taken = []; mine = λ d far order. refl; goes = λ z heard u order g. g })
    one x cs refusals st (Some c) t is_last h separate = by_rest (cs c).rest refl separate.1
      where
        by_rest : (qs : List Request) → (cs c).rest ≡ qs → IsOfFirst qs t → Went (Some c) x cs st (after_try config x t) (with_client cs c (gone_if is_last (client_after (cs c) t.end))) (λ d. heard_if (d == c) (reported_by config x t.request t.end))
        by_rest [] is first = absurd first
        by_rest (r ∷ rs) is first =
            subst (λ (q : Request). Went (Some c) x cs st (moved_by config x q t.end) (with_client cs c (gone_if is_last (client_after (cs c) t.end))) (λ d. heard_if (d == c) (reported_by config x q t.end))) (sym first)
            (own is_last x cs st c r rs h separate.0 is (λ d far open_. subst (λ (q : Request). LeavesFirstAlone x q (cs d).rest) first (separate.2 d far (inl open_))) t.end)

    -- ---- a session

    -- the history after a session
    abbrev GoOn : State → Clients → (ℕ → List Report) → State → List (List ClientTry) → Type 0
    GoOn u cs later t more = (to : Status) → Holds u cs to → Begins u cs to later t more

    abbrev Session : State → Clients → Refusals → Status → List ClientTry → (ℕ → List Report) → State → List (List ClientTry) → Type 0
    Session x cs refusals st ts later t more = Ends x cs refusals st (λ c. heard_of config x c ts ++ later c) t ts more

    -- a try, and the tries after it
    abbrev From : State → Clients → Refusals → Status → Option ℕ → Try → Bool → List ClientTry → (ℕ → List Report) → State → List (List ClientTry) → Type 0
    From x cs refusals st o f is_last ts later t more =
        Ends x cs refusals st (λ c. (heard_by config x c o f ++ heard_of config (after_try config x f) c ts) ++ later c) t (record { client = o; made = f; is_last = is_last } ∷ ts) more

    -- a client that is gone did not make the try
    not_its : (cs : Clients) (refusals : Refusals) (x : State) (o : Option ℕ) (f : Try) (c : ℕ) → IsSeparate x cs refusals o f → (cs c).is_gone ≡ true → o ≡ Some c → ⊥
    not_its cs refusals x None f c separate gone is = absurd (none_some c is)
    not_its cs refusals x (Some b) f c separate gone is =
        let here : (cs b).is_gone ≡ true = subst (λ (a : ℕ). (cs a).is_gone ≡ true) (sym (same_some b c is)) gone in
        absurd (cc (separate.0, here))

    -- a client that did not make the try is as before, and its request is refused or not as before
    same_client : (cs : Clients) (o : Option ℕ) (e : Ending) (is_last : Bool) (c : ℕ) → (o ≡ Some c → ⊥) → clients_after_try cs o e is_last c ≡ cs c
    same_client cs None e is_last c far = refl
    same_client cs (Some b) e is_last c far = set_there cs b (gone_if is_last (client_after (cs b) e)) c (λ is. far (ap Some (sym is)))

    same_refusal : (refusals : Refusals) (o : Option ℕ) (e : Ending) (c : ℕ) → (o ≡ Some c → ⊥) → refusals_after refusals o e c ≡ refusals c
    same_refusal refusals None e c far = refl
    same_refusal refusals (Some b) e c far = set_there refusals b (is_refused (refusals b) e) c (λ is. far (ap Some (sym is)))

    over_before : (cs : Clients) (refusals : Refusals) (x : State) (o : Option ℕ) (f : Try) (is_last : Bool) (order : List Operation) → IsSeparate x cs refusals o f
        → ((c : ℕ) → (clients_after_try cs o f.end is_last c).is_gone ≡ true → refusals_after refusals o f.end c ≡ false → requests_of c order ≡ [])
        → (c : ℕ) → (cs c).is_gone ≡ true → refusals c ≡ false → requests_of c order ≡ []
    over_before cs refusals x o f is_last order separate over c gone sure =
        let far = not_its cs refusals x o f c separate gone in
        over c (ap (λ (z : Client). z.is_gone) (same_client cs o f.end is_last c far) ∙ gone) (same_refusal refusals o f.end c far ∙ sure)

    then_ : (x : State) (cs : Clients) (refusals : Refusals) (st : Status) (o : Option ℕ) (f : Try) (is_last : Bool) (ts : List ClientTry) (later : ℕ → List Report) (t : State) (more : List (List ClientTry)) → Holds x cs st
        → IsSeparate x cs refusals o f → (w : Went o x cs st (after_try config x f) (clients_after_try cs o f.end is_last) (λ d. heard_by config x d o f))
        → Session (after_try config x f) (clients_after_try cs o f.end is_last) (refusals_after refusals o f.end) w.to ts later t more → From x cs refusals st o f is_last ts later t more
    then_ x cs refusals st o f is_last ts later t more h separate w g =
        let y = after_try config x f in
        let heard : ℕ → List Report = λ c. (heard_by config x c o f ++ heard_of config y c ts) ++ later c in
        let goes : Goes x cs st g.unfinished heard t (w.taken ++ g.order) =
        goes_as x cs st g.unfinished (λ c. heard_by config x c o f ++ (heard_of config y c ts ++ later c)) heard t (w.taken ++ g.order)
        (λ c. append_assoc (heard_by config x c o f) (heard_of config y c ts) (later c))
        (w.goes g.unfinished (λ c. heard_of config y c ts ++ later c) t g.order g.goes) in
        let over : (c : ℕ) → (cs c).is_gone ≡ true → refusals c ≡ false → requests_of c (w.taken ++ g.order) ≡ [] =
        λ c gone sure. over_taken o x cs st _ _ _ w g.order c (not_its cs refusals x o f c separate gone) (over_before cs refusals x o f is_last g.order separate g.over c gone sure) in
        record {
          order = w.taken ++ g.order;
          unfinished = g.unfinished;
          goes = goes;
          later = g.later;
          real_time = (record { to_come = to_come x cs st g.unfinished heard t (w.taken ++ g.order) h goes; gone = over }, w.taken, g.order, refl, g.real_time);
          then_real_time = g.then_real_time;
          ends = g.ends;
          over = over;
        }

    -- a try that takes no effect, and the tries after it
    quiet_then : (x : State) (cs : Clients) (refusals : Refusals) (st : Status) (c : ℕ) (f : Try) (is_last : Bool) → (gone_if is_last (client_after (cs c) f.end)).rest ≡ (cs c).rest
        → (IsInvoked (cs c) → IsInvoked (gone_if is_last (client_after (cs c) f.end))) → ((cs c).is_gone ≡ true → (gone_if is_last (client_after (cs c) f.end)).is_gone ≡ true) → (ts : List ClientTry) (later : ℕ → List Report) (t : State) (more : List (List ClientTry))
        → Holds x cs st → IsSeparate x cs refusals (Some c) f → Session x (with_client cs c (gone_if is_last (client_after (cs c) f.end))) (refusals_after refusals (Some c) f.end) st ts later t more
        → Ends x cs refusals st (λ d. (heard_if (d == c) [] ++ heard_of config x d ts) ++ later d) t (record { client = Some c; made = f; is_last = is_last } ∷ ts) more
    quiet_then x cs refusals st c f is_last rest opened gone ts later t more h separate g =
        let heard : ℕ → List Report = λ d. (heard_if (d == c) [] ++ heard_of config x d ts) ++ later d in
        let goes : Goes x cs st g.unfinished heard t g.order =
        goes_as x cs st g.unfinished (λ d. heard_if (d == c) [] ++ (heard_of config x d ts ++ later d)) heard t g.order
        (λ d. append_assoc (heard_if (d == c) []) (heard_of config x d ts) (later d))
        (quiet_goes x cs st c (gone_if is_last (client_after (cs c) f.end)) rest opened gone g.unfinished (λ d. heard_of config x d ts ++ later d) t g.order g.goes) in
        record {
          order = g.order;
          unfinished = g.unfinished;
          goes = goes;
          later = g.later;
          real_time = (
            record { to_come = to_come x cs st g.unfinished heard t g.order h goes; gone = over_before cs refusals x (Some c) f is_last g.order separate g.over },
            [],
            g.order,
            refl,
            g.real_time,
          );
          then_real_time = g.then_real_time;
          ends = g.ends;
          over = over_before cs refusals x (Some c) f is_last g.order separate g.over;
        }

    -- A request that was refused inside, and whose change the stop will leave; its client waits or is gone,
    -- and no try since moved the State.
    record IsWaiting (x : State) (cs : Clients) (refusals : Refusals) (st : Status) (c : ℕ) (r : Request) (rs : List Request) : Type 0 where
      pub is : (cs c).rest ≡ r ∷ rs
      pub started : IsInvoked (cs c)
      pub refused : refusals c ≡ true
      pub unmade : st c ≡ None
      pub apart : (d : ℕ) → d ≢ c → IsUnsettled (cs d) (refusals d) → LeavesFirstAlone x r (cs d).rest

    swapped : (x : State) (q r : Request) → LeaveEachOtherAlone x q r → LeaveEachOtherAlone x r q
    swapped x q r a = (a.1, a.0)

    -- the refused request and the request of another client still leave each other's objects alone, after a
    -- try of that client
    still_apart : (x : State) (cs : Clients) (refusals : Refusals) (c : ℕ) (r : Request) (rs : List Request) (d : ℕ) (f : Try) (is_last : Bool) → (cs c).rest ≡ r ∷ rs → refusals c ≡ true → (c ≡ d → ⊥)
        → (IsUnsettled (cs d) (refusals d) → LeavesFirstAlone x r (cs d).rest) → IsSeparate x cs refusals (Some d) f → IsUnsettled (gone_if is_last (client_after (cs d) f.end)) (is_refused (refusals d) f.end)
        → LeavesFirstAlone x r (gone_if is_last (client_after (cs d) f.end)).rest
    still_apart x cs refusals c r rs d f is_last is refused far old separate = by_end f.end
      where
        from_separate : LeavesFirstAlone x f.request (r ∷ rs)
        from_separate = subst (λ (qs : List Request). LeavesFirstAlone x f.request qs) is (separate.2 c far (inr refused))

        now : (qs : List Request) → IsOfFirst qs f → LeavesFirstAlone x r qs
        now [] first = tt
        now (q ∷ qs) first = swapped x q r (subst (λ (p : Request). LeaveEachOtherAlone x p r) first from_separate)

        by_last : (b o : Bool) → cond b false o ≡ true → o ≡ true
        by_last true o e = absurd (cc (e))
        by_last false o e = e

        by_end : (e : Ending) → IsUnsettled (gone_if is_last (client_after (cs d) e)) (is_refused (refusals d) e) → LeavesFirstAlone x r (gone_if is_last (client_after (cs d) e)).rest
        by_end Marked m = now (cs d).rest separate.1
        by_end Down m = elim m as (λ _. LeavesFirstAlone x r (cs d).rest) [
          | inl o ↦ old (inl (by_last is_last (cs d).is_open o))
          | inr b ↦ old (inr b)
        ]
        by_end Unanswered m = now (cs d).rest separate.1
        by_end Answered m = elim m as (λ _. LeavesFirstAlone x r (without_first (cs d).rest)) [
          | inl o ↦ let e = by_last is_last false o in absurd (cc (e))
          | inr b ↦ absurd (cc (b))
        ]

    module _ (u t : State) (later : ℕ → List Report) (rest_of : List (List ClientTry)) where
      -- a session that leaves the State after its tries
      calm : (ts : List ClientTry) (x : State) (cs : Clients) (refusals : Refusals) (st : Status) → Holds x cs st → AreSeparateFrom config x cs refusals ts → u ≡ state_after config x (tries_made ts)
          → GoOn u (clients_after cs ts) later t rest_of → Session x cs refusals st ts later t rest_of
      calm [] x cs refusals st h all_separate e k =
          at_end x cs refusals st later t rest_of h (subst (λ (y : State). Begins y cs st later t rest_of) e (k st (subst (λ (y : State). Holds y cs st) (sym e) h)))
      calm (f ∷ ts) x cs refusals st h all_separate e k =
          let w = one x cs refusals st f.client f.made f.is_last h all_separate.0 in
          then_ x cs refusals st f.client f.made f.is_last ts later t rest_of h all_separate.0 w
          (calm ts (after_try config x f.made) (clients_after_try cs f.client f.made.end f.is_last) (refusals_after refusals f.client f.made.end) w.to w.holds all_separate.1 e k)

      -- one try of a session that leaves the change of a refused request
      module _ (ts : List ClientTry) (x : State) (cs : Clients) (refusals : Refusals) (st : Status) (c : ℕ) (r : Request) (rs : List Request) (h : Holds x cs st) (still : AreStill config x (tries_made ts))
          (is : u ≡ (step config x r).1) (d : IsWaiting x cs refusals st c r rs)
          (next : (ds : Clients) (new : Refusals) (to : Status) → Holds x ds to → AreSeparateFrom config x ds new ts → IsWaiting x ds new to c r rs → GoOn u (clients_after ds ts) later t rest_of → Session x ds new to ts later t rest_of) where
        -- the request was taken in the meantime, so its change is in the State already
        settled : (o : Option ℕ) (q : Request) (e : Ending) (is_last : Bool) → IsSeparate x cs refusals o (record { request = q; end = e })
            → AreSeparateFrom config (moved_by config x q e) (clients_after_try cs o e is_last) (refusals_after refusals o e) ts → moved_by config x q e ≡ x
            → GoOn u (clients_after (clients_after_try cs o e is_last) ts) later t rest_of → (step config x r).1 ≡ x → From x cs refusals st o (record { request = q; end = e }) is_last ts later t rest_of
        settled o q e is_last separate more stays on quiet =
            calm (record { client = o; made = record { request = q; end = e }; is_last = is_last } ∷ ts) x cs refusals st h (separate, more)
            (is ∙ quiet ∙ sym (kept config x (record { request = q; end = e } ∷ tries_made ts) (stays, still))) on

        -- a try of the refused request
        waits : (b : ℕ) → b ≡ c → (f : Try) (is_last : Bool) → (gone_if is_last (client_after (cs b) f.end)).rest ≡ (cs b).rest → IsInvoked (gone_if is_last (client_after (cs b) f.end))
            → ((cs b).is_gone ≡ true → (gone_if is_last (client_after (cs b) f.end)).is_gone ≡ true) → is_refused (refusals b) f.end ≡ true → IsSeparate x cs refusals (Some b) f
            → AreSeparateFrom config x (with_client cs b (gone_if is_last (client_after (cs b) f.end))) (refusals_after refusals (Some b) f.end) ts
            → GoOn u (clients_after (with_client cs b (gone_if is_last (client_after (cs b) f.end))) ts) later t rest_of
            → Ends x cs refusals st (λ d. (heard_if (d == b) [] ++ heard_of config x d ts) ++ later d) t (record { client = Some b; made = f; is_last = is_last } ∷ ts) rest_of
        waits b same f is_last rest opened gone refused separate more on =
            let n = gone_if is_last (client_after (cs b) f.end) in
            let here : with_client cs b n c ≡ n = subst (λ (a : ℕ). with_client cs b n a ≡ n) same (set_here cs b n) in
            quiet_then x cs refusals st b f is_last rest (λ o. opened) gone ts later t rest_of h separate
            (next (with_client cs b n) (refusals_after refusals (Some b) f.end) st (quiet_holds x cs st b n rest (λ o. opened) gone h) more (record {
              is = rest_same x cs st b n rest (λ o. opened) gone c ∙ d.is;
              started = subst (λ (z : Client). IsInvoked z) (sym here) opened;
              refused = subst (λ (a : ℕ). refusals_after refusals (Some b) f.end a ≡ true) same (set_here refusals b (is_refused (refusals b) f.end) ∙ refused);
              unmade = d.unmade;
              apart = λ a far o.
                  let apart_ : a ≡ b → ⊥ = λ e. far (e ∙ same) in
                  let there : with_client cs b n a ≡ cs a = set_there cs b n a apart_ in
                  let old : refusals_after refusals (Some b) f.end a ≡ refusals a = set_there refusals b (is_refused (refusals b) f.end) a apart_ in
                  subst (λ (z : Client). LeavesFirstAlone x r z.rest) (sym there)
                  (d.apart a far (subst₂ (λ (z : Client) (w : Bool). IsUnsettled z w) there old o));
            }) on)

        is_on : (is_last g : Bool) → (cond is_last false true ≡ true) ⊎ (cond is_last true g ≡ true)
        is_on is_last g = is_started is_last g

        mine : (b : ℕ) → b ≡ c → (q : Request) (e : Ending) (is_last : Bool) → q ≡ r → IsSeparate x cs refusals (Some b) (record { request = q; end = e })
            → AreSeparateFrom config (moved_by config x q e) (with_client cs b (gone_if is_last (client_after (cs b) e))) (refusals_after refusals (Some b) e) ts
            → moved_by config x q e ≡ x → GoOn u (clients_after (with_client cs b (gone_if is_last (client_after (cs b) e))) ts) later t rest_of
            → From x cs refusals st (Some b) (record { request = q; end = e }) is_last ts later t rest_of
        mine b same q Marked is_last first separate more stays on =
            waits b same (record { request = q; end = Marked }) is_last refl (is_on is_last (cs b).is_gone) (still_gone is_last (cs b).is_gone) refl separate more on
        mine b same q Down is_last first separate more stays on =
            waits b same (record { request = q; end = Down }) is_last refl
            (still_started is_last (cs b).is_open (cs b).is_gone (subst (λ (a : ℕ). IsInvoked (cs a)) (sym same) d.started))
            (still_gone is_last (cs b).is_gone) (ap refusals same ∙ d.refused) separate more on
        mine b same q Unanswered is_last first separate more stays on = settled (Some b) q Unanswered is_last separate more stays on (ap (λ (p : Request). (step config x p).1) (sym first) ∙ stays)
        mine b same q Answered is_last first separate more stays on = settled (Some b) q Answered is_last separate more stays on (ap (λ (p : Request). (step config x p).1) (sym first) ∙ stays)

        -- another client
        others : (b : ℕ) → (c ≡ b → ⊥) → (q : Request) (e : Ending) (is_last : Bool) → IsSeparate x cs refusals (Some b) (record { request = q; end = e })
            → AreSeparateFrom config (moved_by config x q e) (with_client cs b (gone_if is_last (client_after (cs b) e))) (refusals_after refusals (Some b) e) ts
            → moved_by config x q e ≡ x → GoOn u (clients_after (with_client cs b (gone_if is_last (client_after (cs b) e))) ts) later t rest_of
            → From x cs refusals st (Some b) (record { request = q; end = e }) is_last ts later t rest_of
        others b far q e is_last separate more stays on =
            let f : Try = record { request = q; end = e } in
            let n = gone_if is_last (client_after (cs b) e) in
            let ds = with_client cs b n in
            let new = refusals_after refusals (Some b) e in
            let w = one x cs refusals st (Some b) f is_last h separate in
            let there : ds c ≡ cs c = set_there cs b n c far in
            let holds : Holds x ds w.to = subst (λ (y : State). Holds y ds w.to) stays w.holds in
            let waiting : IsWaiting x ds new w.to c r rs = record {
              is = ap (λ (z : Client). z.rest) there ∙ d.is;
              started = subst (λ (z : Client). IsInvoked z) (sym there) d.started;
              refused = set_there refusals b (is_refused (refusals b) e) c far ∙ d.refused;
              unmade = w.others c (λ g. far (sym (same_some b c g))) ∙ d.unmade;
              apart = λ a. by_client (λ a. a ≢ c → IsUnsettled (ds a) (new a) → LeavesFirstAlone x r (ds a).rest) b
                  (λ away o.
                  let here : ds b ≡ n = set_here cs b n in
                  subst (λ (z : Client). LeavesFirstAlone x r z.rest) (sym here)
                  (still_apart x cs refusals c r rs b f is_last d.is d.refused far (d.apart b away) separate (subst₂ (λ (z : Client) (w : Bool). IsUnsettled z w) here (set_here refusals b (is_refused (refusals b) e)) o)))
                  (λ a apart away o.
                  let at : ds a ≡ cs a = set_there cs b n a apart in
                  subst (λ (z : Client). LeavesFirstAlone x r z.rest) (sym at)
                  (d.apart a away (subst₂ (λ (z : Client) (w : Bool). IsUnsettled z w) at (set_there refusals b (is_refused (refusals b) e) a apart) o))) a;
            } in
            then_ x cs refusals st (Some b) f is_last ts later t rest_of h separate w
            (subst (λ (y : State). Session y ds new w.to ts later t rest_of) (sym stays)
            (next ds new w.to holds (subst (λ (y : State). AreSeparateFrom config y ds new ts) stays more) waiting on))

        by_which : (b : ℕ) (q : Request) (e : Ending) (is_last which : Bool) → (b == c) ≡ which → IsSeparate x cs refusals (Some b) (record { request = q; end = e })
            → AreSeparateFrom config (moved_by config x q e) (with_client cs b (gone_if is_last (client_after (cs b) e))) (refusals_after refusals (Some b) e) ts → moved_by config x q e ≡ x
            → GoOn u (clients_after (with_client cs b (gone_if is_last (client_after (cs b) e))) ts) later t rest_of → From x cs refusals st (Some b) (record { request = q; end = e }) is_last ts later t rest_of
        by_which b q e is_last true g separate more stays on =
            let same : b ≡ c = eqb-true b c g in
            let first : q ≡ r = subst (λ (qs : List Request). IsOfFirst qs (record { request = q; end = e })) (ap (λ (a : ℕ). (cs a).rest) same ∙ d.is) separate.1 in
            mine b same q e is_last first separate more stays on
        by_which b q e is_last false g separate more stays on =
            others b (λ same. let y : (b == c) ≡ true = eq-eqb b c (sym same) in absurd (cc (y, g))) q e is_last separate more stays on

        due_one : (o : Option ℕ) (q : Request) (e : Ending) (is_last : Bool) → IsSeparate x cs refusals o (record { request = q; end = e })
            → AreSeparateFrom config (moved_by config x q e) (clients_after_try cs o e is_last) (refusals_after refusals o e) ts → moved_by config x q e ≡ x
            → GoOn u (clients_after (clients_after_try cs o e is_last) ts) later t rest_of → From x cs refusals st o (record { request = q; end = e }) is_last ts later t rest_of
        due_one None q e is_last separate more stays on =
            let g = next cs refusals st h (subst (λ (y : State). AreSeparateFrom config y cs refusals ts) stays more) d on in
            subst (λ (y : State). Ends x cs refusals st (λ c. heard_of config y c ts ++ later c) t (record { client = None; made = record { request = q; end = e }; is_last = is_last } ∷ ts) rest_of) (sym stays)
            (record {
              order = g.order;
              unfinished = g.unfinished;
              goes = g.goes;
              ends = g.ends;
              later = g.later;
              real_time = (record { to_come = to_come x cs st g.unfinished (λ c. heard_of config x c ts ++ later c) t g.order h g.goes; gone = g.over }, [], g.order, refl, g.real_time);
              then_real_time = g.then_real_time;
              over = g.over;
            })
        due_one (Some b) q e is_last separate more stays on = by_which b q e is_last (b == c) refl separate more stays on

      -- a session that leaves the change of a refused request
      due : (ts : List ClientTry) (x : State) (cs : Clients) (refusals : Refusals) (st : Status) (c : ℕ) (r : Request) (rs : List Request) → Holds x cs st → AreSeparateFrom config x cs refusals ts
          → AreStill config x (tries_made ts) → u ≡ (step config x r).1 → IsWaiting x cs refusals st c r rs → GoOn u (clients_after cs ts) later t rest_of → Session x cs refusals st ts later t rest_of
      due [] x cs refusals st c r rs h all_separate still is d k = by_read (is_read r) refl
        where
          same : with_client cs c (cs c) ≡ cs
          same = set_same cs c (cs c) refl

          not_due : (a : ℕ) → refusals a ≡ false → a ≡ c → ⊥
          not_due a sure is_c = let y : refusals a ≡ true = ap refusals is_c ∙ d.refused in absurd (cc (y, sure))

          settles : u ≡ x → Ends x cs refusals st later t [] rest_of
          settles stays = at_end x cs refusals st later t rest_of h (subst (λ (y : State). Begins y cs st later t rest_of) stays (k st (subst (λ (y : State). Holds y cs st) (sym stays) h)))

          either : (y : State) (body : List ℕ) → IsInvoked (cs c) → IsDoneFirst config y (cs c).rest body → IsDoneOf config y (cs c) body
          either y body on done = elim on as (λ _. IsDoneOf config y (cs c) body) [
            | inl o ↦ inl (o, done)
            | inr g ↦ let one = first_of y (cs c).rest body done in inr (g, one.0, one.1)
          ]

          by_reported : is_read r ≡ false → (w : Report) → (step config x r).0 ≡ w → Ends x cs refusals st later t [] rest_of
          by_reported changes (Denies why) e = settles (is ∙ denied_stays config x r why e)
          by_reported changes (Says body) e =
              let w = takes x cs st c r (cs c) (Some body) [] h (λ a far o. d.apart a far (inl o)) (record {
                open_ = d.unmade;
                rest = ap (λ (qs : List Request). r ∷ without_first qs) d.is ∙ sym d.is;
                reported = ap (λ (z : Report). z ∷ []) (sym e);
                passed = h.passed c;
                done = λ b f. either (step config x r).1 b d.started
                    (subst (λ (qs : List Request). IsDoneFirst config (step config x r).1 qs b) (sym d.is)
                    (changes, again x r h.inv (first_passed x cs st c r rs h (sym d.is)) ∙ ap (λ (z : Report). (z, (step config x r).1)) (e ∙ ap Says (same_some body b f))));
              }) in
              let at_u : Holds u cs w.to = subst₂ (λ (y : State) (ds : Clients). Holds y ds w.to) (sym is) same w.holds in
              let g : Begins u cs w.to later t rest_of = k w.to at_u in
              let on : Goes (step config x r).1 (with_client cs c (cs c)) w.to g.unfinished later t g.order = subst₂ (λ (y : State) (ds : Clients). Goes y ds w.to g.unfinished later t g.order) is (sym same) g.goes in
              let goes : Goes x cs st g.unfinished later t (w.taken ++ g.order) =
              goes_as x cs st g.unfinished (λ d. heard_if (d == c) [] ++ later d) later t (w.taken ++ g.order) (λ d. sym (ap (λ l. l ++ later d) (heard_none (d == c)))) (w.goes g.unfinished later t g.order on) in
              let over : (a : ℕ) → (cs a).is_gone ≡ true → refusals a ≡ false → requests_of a (w.taken ++ g.order) ≡ [] =
              λ a gone sure. over_taken (Some c) x cs st _ _ _ w g.order a (λ is_c. not_due a sure (sym (same_some c a is_c))) (g.over a gone) in
              record {
                order = w.taken ++ g.order;
                unfinished = g.unfinished;
                goes = goes;
                later = g.order;
                real_time = (record { to_come = to_come x cs st g.unfinished later t (w.taken ++ g.order) h goes; gone = over }, w.taken, refl {a = w.taken ++ g.order});
                then_real_time = g.real_time;
                ends = g.ends;
                over = over;
              }

          by_read : (b : Bool) → is_read r ≡ b → Ends x cs refusals st later t [] rest_of
          by_read true e = settles (is ∙ read_stays config x r e)
          by_read false e = by_reported e (step config x r).0 refl
      due (f ∷ ts) x cs refusals st c r rs h all_separate still is d k =
          due_one ts x cs refusals st c r rs h still.1 is d (λ ds new to h1 more d1 k1. due ts x ds new to c r rs h1 more still.1 is d1 k1) f.client f.made.request f.made.end f.is_last all_separate.0 all_separate.1 still.0 k

      session : (ts : List ClientTry) (x : State) (cs : Clients) (refusals : Refusals) (st : Status) → Holds x cs st → AreSeparateFrom config x cs refusals ts → Left config x (tries_made ts) u
          → GoOn u (clients_after cs ts) later t rest_of → Session x cs refusals st ts later t rest_of
      session [] x cs refusals st h all_separate left k = calm [] x cs refusals st h all_separate left k
      session (f ∷ ts) x cs refusals st h all_separate left k = elim left as (λ _. Session x cs refusals st (f ∷ ts) later t rest_of) [
        | inl more ↦
            let w = one x cs refusals st f.client f.made f.is_last h all_separate.0 in
            then_ x cs refusals st f.client f.made f.is_last ts later t rest_of h all_separate.0 w
            (session ts (after_try config x f.made) (clients_after_try cs f.client f.made.end f.is_last) (refusals_after refusals f.client f.made.end) w.to w.holds all_separate.1 more k)
        | inr d ↦ by_one f.client f.made.request f.made.end f.is_last d.0 all_separate.0 all_separate.1 d.1 d.2 k
      ]
        where
          -- the refused request would have changed nothing
          settled : (o : Option ℕ) (q : Request) (is_last : Bool) → IsSeparate x cs refusals o (record { request = q; end = Marked }) → AreSeparateFrom config x (clients_after_try cs o Marked is_last) (refusals_after refusals o Marked) ts
              → AreStill config x (tries_made ts) → u ≡ x → GoOn u (clients_after (clients_after_try cs o Marked is_last) ts) later t rest_of → From x cs refusals st o (record { request = q; end = Marked }) is_last ts later t rest_of
          settled o q is_last separate more still is on =
              calm (record { client = o; made = record { request = q; end = Marked }; is_last = is_last } ∷ ts) x cs refusals st h (separate, more)
              (is ∙ sym (kept config x (record { request = q; end = Marked } ∷ tries_made ts) (refl, still))) on

          by_status : (c : ℕ) (q r : Request) (rs : List Request) (is_last : Bool) → (cs c).rest ≡ r ∷ rs → q ≡ r → (o : Option (List ℕ)) → st c ≡ o → IsSeparate x cs refusals (Some c) (record { request = q; end = Marked })
              → AreSeparateFrom config x (with_client cs c (gone_if is_last (client_after (cs c) Marked))) (refusals_after refusals (Some c) Marked) ts → AreStill config x (tries_made ts) → u ≡ (step config x q).1
              → GoOn u (clients_after (with_client cs c (gone_if is_last (client_after (cs c) Marked))) ts) later t rest_of → From x cs refusals st (Some c) (record { request = q; end = Marked }) is_last ts later t rest_of
          by_status c q r rs is_last is first (Some body) at separate more still due_ on =
              settled (Some c) q is_last separate more still (due_ ∙ ap (λ (p : Request). (step config x p).1) first ∙ ap (λ (w : Report × State). w.1) (is_done x cs st c r rs body h separate.0 is at)) on
          by_status c q r rs is_last is first None at separate more still due_ on =
              let n = gone_if is_last (client_after (cs c) Marked) in
              let opened : IsInvoked n = is_started is_last (cs c).is_gone in
              let gone = still_gone is_last (cs c).is_gone in
              quiet_then x cs refusals st c (record { request = q; end = Marked }) is_last refl (λ o. opened) gone ts later t rest_of h separate
              (due ts x (with_client cs c n) (refusals_after refusals (Some c) Marked) st c r rs (quiet_holds x cs st c n refl (λ o. opened) gone h) more still (due_ ∙ ap (λ (p : Request). (step config x p).1) first) (record {
                is = rest_same x cs st c n refl (λ o. opened) gone c ∙ is;
                started = subst (λ (z : Client). IsInvoked z) (sym (set_here cs c n)) opened;
                refused = set_here refusals c true;
                unmade = at;
                apart = λ a far o.
                    let there : with_client cs c n a ≡ cs a = set_there cs c n a far in
                    subst (λ (z : Client). LeavesFirstAlone x r z.rest) (sym there)
                    (subst (λ (p : Request). LeavesFirstAlone x p (cs a).rest) first (separate.2 a far (subst₂ (λ (z : Client) (w : Bool). IsUnsettled z w) there (set_there refusals c true a far) o)));
              }) on)

          by_rest : (c : ℕ) (q : Request) (is_last : Bool) (qs : List Request) → (cs c).rest ≡ qs → IsOfFirst qs (record { request = q; end = Marked }) → IsSeparate x cs refusals (Some c) (record { request = q; end = Marked })
              → AreSeparateFrom config x (with_client cs c (gone_if is_last (client_after (cs c) Marked))) (refusals_after refusals (Some c) Marked) ts → AreStill config x (tries_made ts) → u ≡ (step config x q).1
              → GoOn u (clients_after (with_client cs c (gone_if is_last (client_after (cs c) Marked))) ts) later t rest_of → From x cs refusals st (Some c) (record { request = q; end = Marked }) is_last ts later t rest_of
          by_rest c q is_last [] is first separate more still due_ on = absurd first
          by_rest c q is_last (r ∷ rs) is first separate more still due_ on = by_status c q r rs is_last is first (st c) refl separate more still due_ on

          by_one : (o : Option ℕ) (q : Request) (e : Ending) (is_last : Bool) → e ≡ Marked → IsSeparate x cs refusals o (record { request = q; end = e })
              → AreSeparateFrom config (moved_by config x q e) (clients_after_try cs o e is_last) (refusals_after refusals o e) ts
              → AreStill config x (tries_made ts) → u ≡ (step config x q).1 → GoOn u (clients_after (clients_after_try cs o e is_last) ts) later t rest_of → From x cs refusals st o (record { request = q; end = e }) is_last ts later t rest_of
          by_one None q Marked is_last m separate more still due_ on = settled None q is_last separate more still (due_ ∙ read_stays config x q separate.0) on
          by_one (Some c) q Marked is_last m separate more still due_ on = by_rest c q is_last (cs c).rest refl separate.1 separate more still due_ on
          by_one o q Down is_last m separate more still due_ on = absurd (cc (m))
          by_one o q Unanswered is_last m separate more still due_ on = absurd (cc (m))
          by_one o q Answered is_last m separate more still due_ on = absurd (cc (m))

    -- ---- a history

    history : (sessions : List (List ClientTry)) (x : State) (cs : Clients) (st : Status) (heard : ℕ → List Report) (t : State) → Holds x cs st → IsHistory config x cs sessions heard t → Begins x cs st heard t sessions
    history [] x cs st heard t h l =
        let z : Unfinished = record { left = λ c. owed (st c) (cs c).rest; unheard = λ c. said (st c) } in
        let goes : Goes x cs st z heard t [] = record { each = λ c. refl; reported = λ c. ap (λ (m : List Report). m ++ said (st c)) (l.0 c) ∙ sym (append-nil (said (st c))); last = l.1 } in
        record {
          order = [];
          unfinished = z;
          goes = goes;
          real_time = record { to_come = to_come x cs st z heard t [] h goes; gone = λ c gone sure. refl };
          ends = λ c. by_status c (st c) refl;
          over = λ c gone. refl;
        }
      where
        by_status : (c : ℕ) (o : Option (List ℕ)) → st c ≡ o → IsLeftOver (cs c) (owed (st c) (cs c).rest) (said (st c))
        by_status c None at = inl (ap (λ (o : Option (List ℕ)). owed o (cs c).rest) at, ap said at)
        by_status c (Some body) at =
            let one = started x (cs c) body (h.done c body at) in
            inr (one.0, one.1, one.2 ∙ ap (λ (o : Option (List ℕ)). one.1 ∷ owed o (cs c).rest) (sym at), Says body, ap said at)
    history (tries ∷ sessions) x cs st heard t h l =
        let g = session l.0 t l.1 sessions tries x cs (λ c. false) st h l.2 (left_of config (tries_made tries) x l.0 l.3) (λ to holds. history sessions l.0 (clients_after cs tries) to l.1 t holds l.5) in
        record {
          order = g.order;
          unfinished = g.unfinished;
          goes = goes_as x cs st g.unfinished (λ c. heard_of config x c tries ++ l.1 c) heard t g.order l.4 g.goes;
          real_time = (g.later, g.real_time, g.then_real_time);
          ends = g.ends;
          over = λ c gone. g.over c gone refl;
        }

    pub begun : (s t : State) (todo : ℕ → List Request) (sessions : List (List ClientTry)) (heard : ℕ → List Report) → IsInvariant config s
        → ((c : ℕ) → AllByRecursion (λ r. checked r ≡ None) (todo c)) → IsHistory config s (start todo) sessions heard t → IsLinearizable config s todo sessions heard t
    begun s t todo sessions heard inv passed l =
        let g = history sessions s (start todo) (λ c. None) heard t (record { inv = inv; passed = passed; done = λ c body e. absurd (none_some body e) }) l in
        record {
          order = g.order;
          left = g.unfinished.left;
          each = g.goes.each;
          real_time = g.real_time;
          unheard = g.unfinished.unheard;
          answers = g.goes.reported;
          ends = g.ends;
          last = g.goes.last;
        }

-- a complete history leaves nothing
none_left : (k : Client) (left : List Request) (unheard : List Report) → k.rest ≡ [] → IsLeftOver k left unheard → (left ≡ []) × (unheard ≡ [])
none_left k left unheard done ends = elim ends as (λ _. (left ≡ []) × (unheard ≡ [])) [
  | inl a ↦ (a.0 ∙ done, a.1)
  | inr b ↦ let e : b.1 ∷ left ≡ [] = sym b.2 ∙ done in absurd (cc (e))
]

pub finished : (config : Config) (s t : State) (todo : ℕ → List Request) (sessions : List (List ClientTry)) (heard : ℕ → List Report) → AreAnswered (start todo) sessions → IsLinearizable config s todo sessions heard t
    → IsLinearizableInFull config s todo sessions heard t
finished config s t todo sessions heard answered o =
    let none : (c : ℕ) → (o.left c ≡ []) × (o.unheard c ≡ []) = λ c. none_left (clients_after (start todo) (all_client_tries sessions) c) (o.left c) (o.unheard c) (answered c) (o.ends c) in
    let empty : o.left ≡ (λ c. []) = λ i c. (none c).0 i in
    record {
      order = o.order;
      each = λ c. sym (append-nil (requests_of c o.order)) ∙ ap (λ (l : List Request). requests_of c o.order ++ l) (sym (none c).0) ∙ o.each c;
      real_time = subst (λ (k : ℕ → List Request). KeepsRealTime k (start todo) sessions o.order) empty o.real_time;
      answers = λ c. sym (append-nil (heard c)) ∙ ap (λ (l : List Report). heard c ++ l) (sym (none c).1) ∙ o.answers c;
      last = o.last;
    }
