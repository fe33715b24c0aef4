-- A change that a keeper refuses leaves a plan that was not carried out.
use Rattle.std.proofs.Common.{◌≡◌, ◌∙◌, ◌⊎◌, inl, inr, ap, sym, subst, refl, Bool, true, false, Option, Some, None, Result, Err, IfSome, IsSome}
use Rattle.csi_keeper.specs.Keeper.{Applies}
use Rattle.csi_keeper.specs.Model.{Model}
use Rattle.csi_keeper.specs.facts.Finite.{none_some}
use Rattle.csi_keeper.specs.State.{State, Allows, changed}
use Rattle.csi_keeper.specs.declared.change.Change.{Change}
use Rattle.csi_keeper.specs.declared.change.StoreFault.{StoreFault}
use Rattle.csi_keeper.specs.declared.change.StoreFault.TheVariants.{NoMemory, Refused, Down}
use Rattle.csi_machine.specs.Answering.{Carries}
use Rattle.csi_machine.specs.Plan.{after}
use Rattle.csi_machine.specs.declared.body.Verdict.{Verdict}
use Rattle.csi_machine.specs.declared.plan.Plan.{Plan}

up : (d : Bool) → (d ≡ true → ⊥) → d ≡ false
up true never = absurd (never refl)
up false never = refl

module _ (p : Plan) (change : Change) (has : p.change ≡ Some change) where
  may : (s : State) → IfSome p.change (Allows s) → Allows s change
  may s allows = subst (λ (o : Option Change). IfSome o (Allows s)) has allows

  left : (s t : State) (Old : Type 0) → Old ⊎ (t ≡ changed s change) → Old ⊎ (IsSome p.change × (t ≡ after s p.change))
  left s t Old (inl old) = inl old
  left s t Old (inr new) = inr (subst (λ (o : Option Change). IsSome o) (sym has) refl, new ∙ sym (ap (λ (o : Option Change). after s o) has))

  -- the plan has a change
  asked : p.change ≡ None → ⊥
  asked none = none_some change (sym none ∙ has)

module _ {X : Type 0} (p : Plan) (change : Change) (a b : Model State) (has : p.change ≡ Some change) where
  refused : Applies {X = X} a b change (Err Refused) → Carries p a b (Err Refused)
  refused did = let is_up : a.is_down ≡ false = up a.is_down (λ is. let same = did.down.1 is in cc (same)) in record {
    clean = did.changes.clean;
    verdict = tt;
    state = tt;
    same = λ d s h allows. did.changes.state d s h (may p change has s allows);
    count = did.count;
    crash = λ d s h allows t u. left p change has s t (a.survivors t) (did.changes.crash d s h (may p change has s allows) t u);
    idle = λ is. absurd (cc (is));
    settled = tt;
    quiet = λ none. absurd (asked p change has none);
    alone = λ none. absurd (asked p change has none);
    ties = λ d s h allows. did.changes.ties d s h (may p change has s allows);
    down = record { down = λ is. absurd (cc (is)); refused = λ is. is_up; unasked = λ is. tt };
    stays = λ is. absurd (cc (is, is_up));
  }

  no_memory : Applies {X = X} a b change (Err NoMemory) → Carries p a b (Err NoMemory)
  no_memory did = let is_up : a.is_down ≡ false = up a.is_down (λ is. let same = did.down.1 is in cc (same)) in record {
    clean = did.changes.clean;
    verdict = tt;
    state = tt;
    same = λ d s h allows. did.changes.state d s h (may p change has s allows);
    count = did.count;
    crash = λ d s h allows t u. left p change has s t (a.survivors t) (did.changes.crash d s h (may p change has s allows) t u);
    idle = λ is. absurd (cc (is));
    settled = tt;
    quiet = λ none. absurd (asked p change has none);
    alone = λ none. absurd (asked p change has none);
    ties = λ d s h allows. did.changes.ties d s h (may p change has s allows);
    down = record { down = λ is. absurd (cc (is)); refused = λ is. absurd (cc (is)); unasked = λ is. tt };
    stays = λ is. absurd (cc (is, is_up));
  }

  was_down : Applies {X = X} a b change (Err Down) → Carries p a b (Err Down)
  was_down did = record {
    clean = did.changes.clean;
    verdict = tt;
    state = tt;
    same = λ d s h allows. did.changes.state d s h;
    count = did.count;
    crash = λ d s h allows t u. inl (did.changes.crash d t u);
    idle = λ is d t u. did.changes.crash d t u;
    settled = tt;
    quiet = λ none. absurd (asked p change has none);
    alone = λ none. absurd (asked p change has none);
    ties = λ d s h allows. did.changes.ties d;
    down = record { down = λ is. did.down.0 refl; refused = λ is. absurd (cc (is)); unasked = λ is. tt };
    stays = λ is. did.changes.down ∙ is;
  }

  by_fault : (e : StoreFault) → Applies {X = X} a b change (Err e) → Carries p a b (Err e)
  by_fault NoMemory did = no_memory did
  by_fault Refused did = refused did
  by_fault Down did = was_down did

  -- the change was refused, and so is the call
  pub not_carried : (made : Result X StoreFault) (result : Result Verdict StoreFault) (e : StoreFault) → made ≡ Err e → result ≡ Err e → Applies a b change made → Carries p a b result
  not_carried made result e f is did =
      subst (λ (r : Result Verdict StoreFault). Carries p a b r) (sym is) (by_fault e (subst (λ (m : Result X StoreFault). Applies a b change m) f did))
