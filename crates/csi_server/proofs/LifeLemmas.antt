-- Lives of one call that is made twice.
use Rattle.std.proofs.Common.{◌≡◌, inl, inr, ap, ap₂, sym, subst, subst₂, refl, false, true, List, [], ◌∷◌, ◌++◌, Option, Some, None}
use Rattle.envelope.specs.Envelope.{CallBytes, ReplyBytes}
use Rattle.csi_types.specs.declared.requests.Request.{Request}
use Rattle.csi_config.specs.declared.config.Config.{Config}
use Rattle.csi_keeper.specs.State.{State}
use Rattle.csi_machine.specs.Retry.{Ending, Answered, Unanswered, AreTriesOf, all_tries, still_open}
use Rattle.csi_machine.specs.Step.{is_read}
use Rattle.csi_server.specs.Machine.{Mark, Unmarked, OutOfMemory, StoreRefused, StoreDown, done, may_leave, state_after}
use Rattle.csi_server.specs.Tries.{Asks, asked, ending, heard_by, tries_for, IsLeft, IsLifeOfTwo, IsLifeWithAnother}
use Rattle.csi_server.specs.Volumes.{volumes, IsPending}
use Rattle.csi_server.proofs.TriesLemmas.{asked_answers, is_asked}

-- a try whose reply is not heard leaves its request to be tried again
waits : (r : Request) (mark : Mark) → still_open (r ∷ []) (ending mark false) ≡ r ∷ []
waits r Unmarked = refl
waits r OutOfMemory = refl
waits r StoreRefused = refl
waits r StoreDown = refl

two_tries : (o : Option Request) (r : Request) (end : Ending) → o ≡ Some r → still_open (r ∷ []) end ≡ r ∷ []
    → AreTriesOf (r ∷ []) (all_tries ((tries_for o end ++ []) ∷ (tries_for o Answered ++ []) ∷ []))
two_tries o r end asks waits =
    subst (λ (x : Option Request). AreTriesOf (r ∷ []) (all_tries ((tries_for x end ++ []) ∷ (tries_for x Answered ++ []) ∷ []))) (sym asks)
    (inl (refl, subst (λ (rs : List Request). AreTriesOf rs (record { request = r; end = Answered } ∷ [])) (sym waits) (inl (refl, refl))))

with_another : (o p : Option Request) (r q : Request) → o ≡ Some r → p ≡ Some q → is_read q ≡ true
    → AreTriesOf (r ∷ []) (all_tries ((tries_for o Unanswered ++ (tries_for p Unanswered ++ [])) ∷ (tries_for o Answered ++ []) ∷ []))
with_another o p r q asks others reads =
    subst₂ (λ (x y : Option Request). AreTriesOf (r ∷ []) (all_tries ((tries_for x Unanswered ++ (tries_for y Unanswered ++ [])) ∷ (tries_for x Answered ++ []) ∷ []))) (sym asks) (sym others)
    (inl (refl, inr ((reads, λ e. cc), inl (refl, refl))))

unheard : (o : Option Request) (mark : Mark) (reply : ReplyBytes) → heard_by o mark false reply ≡ []
unheard None mark reply = refl
unheard (Some r) Unmarked reply = refl
unheard (Some r) OutOfMemory reply = refl
unheard (Some r) StoreRefused reply = refl
unheard (Some r) StoreDown reply = refl

heard : (o : Option Request) (r : Request) (reply : ReplyBytes) → o ≡ Some r → heard_by o Unmarked true reply ≡ reply ∷ []
heard o r reply asks = subst (λ (x : Option Request). heard_by x Unmarked true reply ≡ reply ∷ []) (sym asks) refl

module _ (config : Config) (s : State) (call : CallBytes) (r : Request) where
  -- the call is made again after its first session left its change
  pub lived : (mark : Mark) → Asks call r → IsLeft config s (record { call = call; mark = mark } ∷ []) (done (volumes config) s call) → IsLifeOfTwo config s call r mark
  unfolding state_after
  lived mark asks left =
      let first = done (volumes config) s call in
      let reply = ((volumes config).respond first call).0 in
      let is = is_asked call r asks in (
        two_tries (asked call) r (ending mark false) is (waits r mark),
        (
          first,
          reply ∷ [],
          left,
          ap (λ (xs : List ReplyBytes). (xs ++ []) ++ reply ∷ []) (sym (unheard (asked call) mark _)),
          (done (volumes config) first call, [], inl refl, ap (λ (xs : List ReplyBytes). (xs ++ []) ++ []) (sym (heard (asked call) r reply is)), (refl, refl)),
        ),
      )

  -- as above, and another client's call in between changes nothing
  pub lived_with : (other : CallBytes) (q : Request) → Asks call r → Asks other q → is_read q ≡ true → IsLifeWithAnother config s call other r
  unfolding state_after
  lived_with other q asks others reads =
      let after_other = done (volumes config) (done (volumes config) s call) other in
      let reply = ((volumes config).respond after_other call).0 in
      let is = is_asked call r asks in (
        with_another (asked call) (asked other) r q is (is_asked other q others) reads,
        (
          after_other,
          reply ∷ [],
          inl refl,
          ap₂ (λ (xs ys : List ReplyBytes). (xs ++ (ys ++ [])) ++ reply ∷ []) (sym (unheard (asked call) Unmarked _)) (sym (unheard (asked other) Unmarked _)),
          (done (volumes config) after_other call, [], inl refl, ap (λ (xs : List ReplyBytes). (xs ++ []) ++ []) (sym (heard (asked call) r reply is)), (refl, refl)),
        ),
      )

  pub after : done (volumes config) s call ≡ state_after (volumes config) s (record { call = call; mark = Unmarked } ∷ [])
  unfolding state_after
  after = refl

  -- a stop may leave the State that a call would have made that was refused for lack of memory or by the
  -- store
  pub pending : (mark : Mark) → Asks call r → may_leave mark ≡ true → IsPending config s (record { call = call; mark = mark } ∷ []) (done (volumes config) s call)
  unfolding state_after
  pending mark asks marked = record {
    before = [];
    refused = record { call = call; mark = mark };
    after = [];
    whole = refl;
    is_left = marked;
    still = tt;
    method = asks.method;
    request = r;
    called = asks.called;
    read = asks.read;
    passed = asks.passed;
    is = ap (λ (y : ReplyBytes × State). y.1) (asked_answers config s call r (is_asked call r asks));
  }
