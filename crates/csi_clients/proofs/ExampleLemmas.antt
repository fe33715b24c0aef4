-- The two worked examples are histories.
use Rattle.std.proofs.Common.{◌≡◌, ◌≢◌, inl, inr, refl, cond, ℕ, ◌==◌, List, [], ◌∷◌, ◌++◌, Bool, true, false, eqb-true}
use Rattle.csi_types.specs.declared.requests.Request.{Request}
use Rattle.csi_config.specs.declared.config.Config.{Config}
use Rattle.csi_keeper.specs.State.{State}
use Rattle.csi_machine.specs.Retry.{Marked, Unanswered, Answered, IsDue, Leaves}
use Rattle.csi_machine.specs.Step.{step}
use Rattle.csi_machine.specs.Verdicts.{Report}
use Rattle.csi_clients.specs.Clients.{Client, ClientTry, start, tries_made, AreSeparate, IsUnsettled, clients_after, LeaveEachOtherAlone, LeavesFirstAlone}
use Rattle.csi_clients.specs.Histories.{heard_of}
use Rattle.csi_clients.specs.Examples.{two, try_by, last_try_by, AreTwo, second_hears, given_up, given_up_refused, IsGivenUp}

-- a client, by whether it is the first one, and whether it is the second one
abbrev waiting : Request → Client
waiting r = record { rest = r ∷ []; is_open = true; is_gone = false }

abbrev finished : Client
finished = record { rest = []; is_open = false; is_gone = false }

abbrev gone : Request → Client
gone r = record { rest = r ∷ []; is_open = false; is_gone = true }

abbrev idle : Request → Request → Bool → Bool → Client
idle r q a b = record { rest = cond a (r ∷ []) (cond b (q ∷ []) []); is_open = false; is_gone = false }

module _ (config : Config) (s : State) (r q : Request) where
  -- ---- two clients, and a stop

  module _ (apart : LeaveEachOtherAlone (step config s r).1 q r) where
    abbrev first_session : List ClientTry
    first_session = try_by 0 r Unanswered ∷ try_by 1 q Answered ∷ []

    abbrev second_session : List ClientTry
    second_session = try_by 0 r Answered ∷ []

    -- while the first client waits
    second : (a b : Bool) → IsUnsettled (cond a (waiting r) (idle r q a b)) (cond a false false) → LeavesFirstAlone (step config s r).1 q (cond a (waiting r) (idle r q a b)).rest
    second true b m = apart
    second false b m = elim m as (λ _. LeavesFirstAlone (step config s r).1 q (cond b (q ∷ []) [])) [ inl o ↦ absurd (cc (o)) | inr o ↦ absurd (cc (o)) ]

    -- after the second client is answered
    third : (x : State) (d : ℕ) → d ≢ 0 → (a b : Bool) → (d == 0) ≡ a → IsUnsettled (cond b finished (cond a (waiting r) (idle r q a b))) false
        → LeavesFirstAlone x r (cond b finished (cond a (waiting r) (idle r q a b))).rest
    third x d far true b e m = absurd (far (eqb-true d 0 e))
    third x d far false true e m = tt
    third x d far false false e m = tt

    none : (a b : Bool) → (cond a finished (cond b finished (cond a (waiting r) (idle r q a b)))).rest ≡ []
    none true b = refl
    none false true = refl
    none false false = refl

    pub two_clients : AreTwo config s r q
    two_clients =
        let y = (step config s r).1 in
        let u = (step config y q).1 in
        let t = (step config u r).1 in
        let first : AreSeparate config s (start (two r q)) first_session = (
          (refl, refl, λ d far m. elim m as (λ _. LeavesFirstAlone s r (two r q d)) [ inl o ↦ absurd (cc (o)) | inr o ↦ absurd (cc (o)) ]),
          ((refl, refl, λ d far m. second (d == 0) (d == 1) m), tt),
        ) in
        let then_ : AreSeparate config u (clients_after (start (two r q)) first_session) second_session = ((refl, refl, λ d far m. third u d far (d == 0) (d == 1) refl m), tt) in (
          λ c. heard_of config s c first_session ++ (heard_of config u c second_session ++ []),
          t,
          (
            u,
            λ c. heard_of config u c second_session ++ [],
            first,
            inl refl,
            λ c. refl,
            (t, λ c. [], then_, inl refl, λ c. refl, (λ c. refl, refl)),
          ),
          λ c. none (c == 0) (c == 1),
        )

  -- ---- a client that gives up

  -- a client is settled after the first client is gone
  is_settled : (a b : Bool) → IsUnsettled (cond a (gone r) (idle r q a b)) (cond a false false) → ⊥
  is_settled true b m = elim m as (λ _. ⊥) [ inl o ↦ absurd (cc (o)) | inr o ↦ absurd (cc (o)) ]
  is_settled false b m = elim m as (λ _. ⊥) [ inl o ↦ absurd (cc (o)) | inr o ↦ absurd (cc (o)) ]

  -- the answers that each client hears in one session, and in two
  hears : (reported : Report) (a b : Bool) → cond b (reported ∷ []) [] ≡ (cond {A = List Report} a [] [] ++ (cond b (reported ∷ []) [] ++ [])) ++ []
  hears reported true true = refl
  hears reported true false = refl
  hears reported false true = refl
  hears reported false false = refl

  hears_nothing : (reported : Report) (a b : Bool) → cond b (reported ∷ []) [] ≡ (cond {A = List Report} a [] [] ++ []) ++ cond b (reported ∷ []) []
  hears_nothing reported true b = refl
  hears_nothing reported false b = refl

  hears_then : (reported : Report) (b : Bool) → cond b (reported ∷ []) [] ≡ (cond b (reported ∷ []) [] ++ []) ++ []
  hears_then reported true = refl
  hears_then reported false = refl

  pub lost : IsGivenUp config s (step config s r).1 r q (given_up r q)
  lost =
      let y = (step config s r).1 in
      let session = last_try_by 0 r Unanswered ∷ try_by 1 q Answered ∷ [] in
      let separate : AreSeparate config s (start (two r q)) session = (
        (refl, refl, λ d far m. elim m as (λ _. LeavesFirstAlone s r (two r q d)) [ inl o ↦ absurd (cc (o)) | inr o ↦ absurd (cc (o)) ]),
        ((refl, refl, λ d far m. absurd (is_settled (d == 0) (d == 1) m)), tt),
      ) in
      ((step config y q).1, λ c. [], separate, inl refl, λ c. hears (step config y q).0 (c == 0) (c == 1), (λ c. refl, refl))

  refused_then : (u : State) → Leaves config s (tries_made (last_try_by 0 r Marked ∷ [])) u → IsGivenUp config s u r q (given_up_refused r q)
  refused_then u leaves =
      let reported = (step config u q).0 in
      let first : AreSeparate config s (start (two r q)) (last_try_by 0 r Marked ∷ []) = (
        (refl, refl, λ d far m. elim m as (λ _. LeavesFirstAlone s r (two r q d)) [ inl o ↦ absurd (cc (o)) | inr o ↦ absurd (cc (o)) ]),
        tt,
      ) in
      let second : AreSeparate config u (clients_after (start (two r q)) (last_try_by 0 r Marked ∷ [])) (try_by 1 q Answered ∷ []) = (
        (refl, refl, λ d far m. absurd (after_stop (d == 0) (d == 1) m)),
        tt,
      ) in (
        u,
        second_hears reported,
        first,
        leaves,
        λ c. hears_nothing reported (c == 0) (c == 1),
        ((step config u q).1, λ c. [], second, inl refl, λ c. hears_then reported (c == 1), (λ c. refl, refl)),
      )
    where
      after_stop : (a b : Bool) → IsUnsettled (cond a (gone r) (idle r q a b)) false → ⊥
      after_stop true b m = elim m as (λ _. ⊥) [ inl o ↦ absurd (cc (o)) | inr o ↦ absurd (cc (o)) ]
      after_stop false b m = elim m as (λ _. ⊥) [ inl o ↦ absurd (cc (o)) | inr o ↦ absurd (cc (o)) ]

  pub refused : IsGivenUp config s s r q (given_up_refused r q) × IsGivenUp config s (step config s r).1 r q (given_up_refused r q)
  refused =
      let due : IsDue config s (tries_made (last_try_by 0 r Marked ∷ [])) (step config s r).1 =
      record { before = []; refused = record { request = r; end = Marked }; after = []; whole = refl; is_marked = refl; still = tt; is = refl } in
      (refused_then s (inl refl), refused_then (step config s r).1 (inr due))
