-- The answer to a request: reads that make a plan, the body of its response, its change, and the keeper after
-- that.
use Rattle.std.proofs.Common.{◌≡◌, ◌∙◌, ◌⊎◌, inl, inr, ap, sym, subst, arith, refl, ℕ, ◌≤◌, ◌==◌, ◌&&◌, ◌||◌, ◌++◌, List, length, sum_by, nat_le, Bool, true, false, cond, Option, Some, None, Result, Ok, Err, IfSome, IsSome, IsTrue, IfErr, OnOk, OnErr, append-nil}
use Rattle.std.specs.FinMap as fin
use Rattle.std.specs.List.{list_all}
use Rattle.csi_types.specs.declared.reason.Reason.{Reason}
use Rattle.csi_types.specs.declared.responses.Response.{Response}
use Rattle.csi_codec.specs.Methods.{response_bytes}
use Rattle.csi_types.specs.Checks.{checked, is_supported}
use Rattle.csi_types.specs.Maps.{same_map}
use Rattle.csi_types.specs.declared.reason.Reason.TheVariants.{ReplyTooLarge}
use Rattle.csi_types.specs.declared.requests.GetCapacity.{GetCapacity}
use Rattle.csi_types.specs.declared.requests.Request.{Request}
use Rattle.csi_types.specs.declared.requests.Request.TheVariants as request
use Rattle.csi_types.specs.declared.requests.Validate.{Validate}
use Rattle.csi_config.specs.declared.config.Config.{Config}
use Rattle.envelope.specs.declared.limits.TheConstants.{MAX_BODY_BYTES}
use Rattle.csi_machine.specs.declared.body.Verdict.{Verdict}
use Rattle.csi_machine.specs.declared.body.Verdict.TheVariants as verdict
use Rattle.csi_keeper.specs.declared.change.Change.{Change}
use Rattle.csi_keeper.specs.declared.change.StoreFault.{StoreFault}
use Rattle.csi_keeper.specs.declared.change.StoreFault.TheVariants.{NoMemory, Refused, Down}
use Rattle.csi_machine.specs.declared.plan.Plan.{Plan}
use Rattle.csi_keeper.specs.declared.volume.Volume.{Volume}
use Rattle.csi_machine.specs.Answering.{Answered, Carries, IsOfAll, Performs, state_after, Leaves, Promises, body_of}
use Rattle.csi_keeper.specs.Capability.{have_keys}
use Rattle.csi_rules.specs.Choice.{Room, rooms, free}
use Rattle.csi_machine.specs.Configured.{IsConfigured}
use Rattle.csi_rules.specs.Down.{ReportsDown}
use Rattle.csi_rules.specs.Ids.{number_of_id}
use Rattle.csi_keeper.specs.Invariant.{IsInvariant}
use Rattle.csi_keeper.specs.Keeper.{IsQuiet, Reports, count_after}
use Rattle.csi_keeper.specs.Model.{Model}
use Rattle.csi_machine.specs.Plan.{after, refuse}
use Rattle.csi_rules.specs.Size.{whole}
use Rattle.csi_keeper.specs.State.{State, Allows}
use Rattle.csi_machine.specs.Step.{is_of_plugin, is_read, NamesNone, plan, limited, limited_by, settled_plan, moved, step}
use Rattle.csi_machine.specs.Verdicts.{Report, Says, Denies, reported_of, Appended, IsReported, verdict_of}
use Rattle.csi_machine.specs.calls.Capacity.{capacity_of, served, greatest_size, report_capacity}
use Rattle.csi_machine.specs.calls.Listing.{list_after, start_of}
use Rattle.csi_machine.specs.Modify.{modify}
use Rattle.csi_machine.specs.calls.Publish.{publish}
use Rattle.csi_machine.specs.calls.Unpublish.{unpublish}
use Rattle.csi_rules.specs.Finding.{Finds, volume_at}
use Rattle.csi_machine.specs.Validate.{validate_found, confirm, deny}
use Rattle.csi_machine.proofs.CheckedLemmas.{asked}
use Rattle.csi_machine.proofs.CreateLemmas.{create_sound}
use Rattle.csi_machine.proofs.DeleteLemmas.{delete_sound}
use Rattle.csi_keeper.specs.facts.Finite.{none_some}
use Rattle.csi_keeper.specs.facts.Reads.{quiet_then}
use Rattle.csi_machine.proofs.ModifyLemmas.{modify_fits}
use Rattle.csi_machine.proofs.PlanLemmas.{IsSound, sound_by, sound_still}
use Rattle.csi_machine.proofs.PublishLemmas.{publish_fits}
use Rattle.csi_machine.proofs.UnpublishLemmas.{unpublish_fits}

-- the body that is reported is appended
pub appended_by : (x y : List ℕ) (o : Result Response Reason) (v : Verdict) → v ≡ verdict_of o → y ≡ x ++ body_of o → length (body_of o) ≤ MAX_BODY_BYTES → Appended {E = StoreFault} x y (Ok v)
appended_by x y (Ok r) verdict.Done e b l = (response_bytes r, b, l)
appended_by x y (Ok r) (verdict.Refused q) e b l = absurd (cc)
appended_by x y (Err q) verdict.Done e b l = absurd (cc)
appended_by x y (Err q) (verdict.Refused p) e b l = b ∙ append-nil x

-- a stop leaves the same States for equal plans
left_of : (p q : Plan) (s t : State) (Old : Type 0) → p ≡ q → Old ⊎ (IsSome p.change × (t ≡ after s p.change)) → Old ⊎ (IsSome q.change × (t ≡ after s q.change))
left_of p q s t Old e = subst (λ (x : Plan). Old ⊎ (IsSome p.change × (t ≡ after s p.change)) → Old ⊎ (IsSome x.change × (t ≡ after s x.change))) e (λ h. h)

pub carried : (config : Config) (plan : State → Plan) (a b c : Model State) (p : Plan) (x y : List ℕ) (result : Result Verdict StoreFault) → IsSound config plan
    → IsQuiet a b → Reports a b (λ s. p ≡ plan s) → (a.is_down ≡ true → (s : State) → p ≡ plan s) → Carries p b c result
    → b.refusals ≡ a.refusals → OnOk result (y ≡ x ++ body_of p.outcome) → OnErr result (y ≡ x) → OnOk result (length (body_of p.outcome) ≤ MAX_BODY_BYTES)
    → Answered config plan a c x y result
carried config plan a b c p x y (Err e) sound q reports alone k before ok err small =
    let mid : c.doubt ≡ 0 → b.doubt ≡ 0 = λ d. omega (arith, k.clean) in
    let may : (d : c.doubt ≡ 0) (s : State) → a.holds s → IsInvariant config s → IfSome p.change (Allows s) = λ d s h inv. subst (λ (x : Plan). IfSome x.change (Allows s)) (sym (reports (mid d) s h)) (sound.allows s inv) in
    record {
      clean = omega (arith, q.clean, k.clean);
      verdict = tt;
      appended = err;
      state = tt;
      kept = tt;
      settled = tt;
      quiet = λ d s h inv none. quiet_then q (k.quiet (ap (λ (x : Plan). x.change) (reports (mid d) s h) ∙ none));
      count = subst (λ n. c.refusals ≡ count_after {X = Verdict} n (Err e)) before k.count;
      same = λ d s h inv. k.same d s (q.state (mid d) s h) (may d s h inv);
      crash = λ d s h inv t u. left_of p (plan s) s t (a.survivors t) (reports (mid d) s h) (elim (k.crash d s (q.state (mid d) s h) (may d s h inv) t u) as (λ _. a.survivors t ⊎ (IsSome p.change × (t ≡ after s p.change))) [
        | inl v ↦ inl (q.crash (mid d) t v)
        | inr e ↦ inr e
      ]);
      idle = λ is d t u. q.crash (mid d) t (k.idle is d t u);
      stays = λ is. k.stays (q.down ∙ is);
      ties = λ d s h inv t. k.ties d s (q.state (mid d) s h) (may d s h inv) (q.ties (mid d) t);
      down = record { down = λ is. sym q.down ∙ k.down.down is; refused = λ is. sym q.down ∙ k.down.refused is; unasked = λ is. tt };
    }
carried config plan a b c p x y (Ok v) sound q reports alone k before ok err small =
    let mid : c.doubt ≡ 0 → b.doubt ≡ 0 = λ d. omega (arith, k.clean) in
    let may : (d : c.doubt ≡ 0) (s : State) → a.holds s → IsInvariant config s → IfSome p.change (Allows s) = λ d s h inv. subst (λ (x : Plan). IfSome x.change (Allows s)) (sym (reports (mid d) s h)) (sound.allows s inv) in
    record {
      clean = omega (arith, q.clean, k.clean);
      verdict = λ d s h inv. (k.verdict ∙ ap (λ (x : Plan). verdict_of x.outcome) (reports (mid d) s h), ok ∙ ap (λ (w : Plan). x ++ body_of w.outcome) (reports (mid d) s h));
      appended = appended_by x y p.outcome v k.verdict ok small;
      state = λ d s h inv. subst (λ (x : Plan). c.holds (after s x.change)) (reports (mid d) s h) (k.state d s (q.state (mid d) s h) (may d s h inv));
      kept = λ s inv. sound.keeps s inv;
      same = tt;
      count = k.count ∙ before;
      crash = λ d s h inv t u. left_of p (plan s) s t (a.survivors t) (reports (mid d) s h) (elim (k.crash d s (q.state (mid d) s h) (may d s h inv) t u) as (λ _. a.survivors t ⊎ (IsSome p.change × (t ≡ after s p.change))) [
        | inl v ↦ inl (q.crash (mid d) t v)
        | inr e ↦ inr e
      ]);
      idle = λ is d t u. q.crash (mid d) t (k.idle is d t u);
      stays = λ is. k.stays (q.down ∙ is);
      settled = λ d s h inv some t u. k.settled d s (q.state (mid d) s h) (may d s h inv) (subst (λ (x : Plan). IsSome x.change) (sym (reports (mid d) s h)) some) t u ∙ ap (λ (x : Plan). after s x.change) (reports (mid d) s h);
      quiet = λ d s h inv none. quiet_then q (k.quiet (ap (λ (x : Plan). x.change) (reports (mid d) s h) ∙ none));
      ties = λ d s h inv t. k.ties d s (q.state (mid d) s h) (may d s h inv) (q.ties (mid d) t);
      down = record {
        down = λ is. absurd (cc);
        refused = λ is. absurd (cc);
        unasked = λ is s.
            let same = alone is s in
            let none : p.change ≡ None = k.down.unasked (q.down ∙ is) in
            (k.verdict ∙ ap (λ (x : Plan). verdict_of x.outcome) same, ok ∙ ap (λ (w : Plan). x ++ body_of w.outcome) same, sym (ap (λ (w : Plan). w.change) same) ∙ none);
      };
    }

-- a plan whose body may be too large changes no more
limited_change : (p : Plan) (o : Result Response Reason) (c : Change) → (limited_by p o).change ≡ Some c → p.change ≡ Some c
limited_change p (Err q) c e = absurd (none_some c e)
limited_change p (Ok r) c e = go (nat_le (length (response_bytes r)) MAX_BODY_BYTES) e
  where
    go : (b : Bool) → (cond b p (refuse ReplyTooLarge)).change ≡ Some c → p.change ≡ Some c
    go false h = absurd (none_some c h)
    go true h = h

pub limited_none : (p : Plan) → p.change ≡ None → (limited p).change ≡ None
limited_none p none = by p.outcome
  where
    go : (b : Bool) → (cond b p (refuse ReplyTooLarge)).change ≡ None
    go false = refl
    go true = none

    by : (o : Result Response Reason) → (limited_by p o).change ≡ None
    by (Err q) = refl
    by (Ok r) = go (nat_le (length (response_bytes r)) MAX_BODY_BYTES)

pub limited_sound : (config : Config) (plan : State → Plan) → IsSound config plan → IsSound config (λ s. limited (plan s))
limited_sound config plan sound = sound_by config (λ s. limited (plan s)) (λ s c inv e.
    let is = limited_change (plan s) (plan s).outcome c e in
    (subst (λ (o : Option Change). IfSome o (Allows s)) is (sound.allows s inv), subst (λ (o : Option Change). IsInvariant config (after s o)) is (sound.keeps s inv)))

-- the State after a reply is the State after the step
moved_by : (s : State) (p : Plan) (o : Result Response Reason) → after s (limited_by p o).change ≡ moved s (after s p.change) (reported_of o)
moved_by s p (Err q) = refl
moved_by s p (Ok r) = go (nat_le (length (response_bytes r)) MAX_BODY_BYTES)
  where
    go : (b : Bool) → after s (cond b p (refuse ReplyTooLarge)).change ≡ moved s (after s p.change) (cond b (Says (response_bytes r)) (Denies ReplyTooLarge))
    go true = refl
    go false = refl

pub moved_is : (config : Config) (s : State) (r : Request) → after s (settled_plan config s r).change ≡ (step config s r).1
moved_is config s r = moved_by s (plan config s r) (plan config s r).outcome

said : Result Response Reason → Report
said (Ok r) = Says (response_bytes r)
said (Err q) = Denies q

said_by : (p : Plan) (o : Result Response Reason) → p.outcome ≡ o → reported_of o ≡ said (limited_by p o).outcome
unfolding said
said_by p (Err q) e = refl
said_by p (Ok r) e = go (nat_le (length (response_bytes r)) MAX_BODY_BYTES)
  where
    go : (b : Bool) → cond b (Says (response_bytes r)) (Denies ReplyTooLarge) ≡ said (cond b p (refuse ReplyTooLarge)).outcome
    go true = sym (ap said e)
    go false = refl

said_is : (config : Config) (s : State) (r : Request) → (step config s r).0 ≡ said (settled_plan config s r).outcome
said_is config s r = said_by (plan config s r) (plan config s r).outcome refl

reported_by : (o : Result Response Reason) (w : Report) (v : Verdict) (x y : List ℕ) → w ≡ said o → v ≡ verdict_of o → y ≡ x ++ body_of o → IsReported {E = StoreFault} w x y (Ok v)
unfolding said
reported_by (Ok r) w verdict.Done x y e f b = (response_bytes r, e, b)
reported_by (Ok r) w (verdict.Refused q) x y e f b = absurd (cc)
reported_by (Err q) w verdict.Done x y e f b = absurd (cc)
reported_by (Err q) w (verdict.Refused t) x y e f b = e ∙ ap Denies (sym (same t q f))
  where
    same : (a b : _) → verdict.Refused a ≡ verdict.Refused b → a ≡ b
    same a b h = cc

leaves_by : (old new : State → Type 0) (s : State) (c : Option Change) → ((u : State) → new u → old u ⊎ (IsSome c × (u ≡ after s c))) → (IsSome c → (u : State) → new u → u ≡ after s c)
    → ((after s c ≡ s) × ((u : State) → new u → old u)) ⊎ ((u : State) → new u → u ≡ after s c)
leaves_by old new s None crash settled = inl (refl, λ u k. elim (crash u k) as (λ _. old u) [ inl o ↦ o | inr n ↦ absurd (cc (n.0)) ])
leaves_by old new s (Some c) crash settled = inr (settled refl)

reports : (config : Config) (r : Request) (a b : Model State) (x y : List ℕ) (result : Result Verdict StoreFault) → Answered config (λ s. settled_plan config s r) a b x y result
    → Promises config a b (λ s. IsReported (step config s r).0 x y result)
reports config r a b x y (Err e) did d s h inv = tt
reports config r a b x y (Ok v) did d s h inv = let is = did.verdict d s h inv in reported_by (settled_plan config s r).outcome (step config s r).0 v x y (said_is config s r) is.0 is.1

state : (config : Config) (r : Request) (a b : Model State) (x y : List ℕ) (result : Result Verdict StoreFault) → Answered config (λ s. settled_plan config s r) a b x y result
    → Promises config a b (λ s. b.holds (state_after s (step config s r).1 result))
state config r a b x y (Err e) did d s h inv = did.same d s h inv
state config r a b x y (Ok v) did d s h inv = subst b.holds (moved_is config s r) (did.state d s h inv)

refused_by : (config : Config) (r : Request) (a b : Model State) (x y : List ℕ) (e : StoreFault) → Answered config (λ s. settled_plan config s r) a b x y (Err e)
    → Promises config a b (λ s. (u : State) → b.survivors u → a.survivors u ⊎ (u ≡ (step config s r).1))
refused_by config r a b x y e did d s h inv = λ u v. elim (did.crash d s h inv u v) as (λ _. a.survivors u ⊎ (u ≡ (step config s r).1)) [ inl o ↦ inl o | inr n ↦ inr (n.1 ∙ moved_is config s r) ]

left : (config : Config) (r : Request) (a b : Model State) (x y : List ℕ) (result : Result Verdict StoreFault) → Answered config (λ s. settled_plan config s r) a b x y result
    → Promises config a b (λ s. Leaves (a.survivors) (b.survivors) s (step config s r).1 result)
left config r a b x y (Err NoMemory) did d s h inv = refused_by config r a b x y NoMemory did d s h inv
left config r a b x y (Err Refused) did d s h inv = refused_by config r a b x y Refused did d s h inv
left config r a b x y (Err Down) did d s h inv = did.idle refl d
left config r a b x y (Ok w) did d s h inv =
    subst (λ (t : State). ((t ≡ s) × ((u : State) → b.survivors u → a.survivors u)) ⊎ ((u : State) → b.survivors u → u ≡ t)) (moved_is config s r)
    (leaves_by (a.survivors) (b.survivors) s (settled_plan config s r).change (did.crash d s h inv) (did.settled d s h inv))

-- the answer of a keeper that is down
alone : (config : Config) (r : Request) (a b : Model State) (x y : List ℕ) (result : Result Verdict StoreFault) → Answered config (λ s. settled_plan config s r) a b x y result
    → ReportsDown (a.is_down) (IsOfAll config r x y) result
alone config r a b x y (Err e) did = record { down = did.down.down; refused = did.down.refused; unasked = λ is. tt }
alone config r a b x y (Ok v) did = record {
  down = did.down.down;
  refused = did.down.refused;
  unasked = λ is s.
      let so = did.down.unasked is s in
      (reported_by (settled_plan config s r).outcome (step config s r).0 v x y (said_is config s r) so.0 so.1, sym (moved_is config s r) ∙ ap (after s) so.2);
}

-- the answer by a request's plan performs the request
pub performed : (config : Config) (r : Request) (a b : Model State) (x y : List ℕ) (result : Result Verdict StoreFault) → (IsTrue (is_of_plugin r) → IsQuiet a b × IfErr result (λ e. e ≡ NoMemory))
    → (NamesNone r → IsQuiet a b × IfErr result (λ e. e ≡ NoMemory)) → Answered config (λ s. settled_plan config s r) a b x y result → Performs config r a b x y result
performed config r a b x y result unasked unnamed did = record {
  clean = did.clean;
  appended = did.appended;
  reported = reports config r a b x y result did;
  state = state config r a b x y result did;
  counted = did.count;
  left = left config r a b x y result did;
  quiet = did.quiet;
  alone = unasked;
  unnamed = unnamed;
  ties = did.ties;
  down = alone config r a b x y result did;
  stays = did.stays;
}

-- An answer from reads alone, without a change, performs a request.
still_moved : (s : State) (w : Report) → moved s s w ≡ s
still_moved s (Says body) = refl
still_moved s (Denies reason) = refl

still_step : (config : Config) (s : State) (r : Request) → (plan config s r).change ≡ None → (step config s r).1 ≡ s
still_step config s r still = ap (λ (o : Option Change). moved s (after s o) (reported_of (plan config s r).outcome)) still ∙ still_moved s (reported_of (plan config s r).outcome)

-- a fault of reads performs a request
pub fault_performed : {X : Type 0} {IsSo : State → X → Type 0} (config : Config) (r : Request) (a b : Model State) (x y : List ℕ) (e : StoreFault) → (IsTrue (is_of_plugin r) → ⊥) → (NamesNone r → ⊥)
    → Finds {X = X} a b (Err e) IsSo → y ≡ x → Performs config r a b x y (Err e)
fault_performed config r a b x y e asks names found appended = record {
  clean = found.quiet.clean;
  appended = appended;
  reported = λ d s h inv. tt;
  state = λ d s h inv. found.quiet.state d s h;
  counted = found.count;
  left = λ d s h inv. still_left e s _ (found.quiet.crash d);
  quiet = λ d s h inv none. found.quiet;
  alone = λ is. absurd (asks is);
  unnamed = λ is. absurd (names is);
  ties = λ d s h inv. found.quiet.ties d;
  down = record { down = λ is. found.down.down (same_fault e Down is); refused = λ is. found.down.refused (same_fault e Refused is); unasked = λ is. tt };
  stays = λ is. found.quiet.down ∙ is;
}
  where
    same_fault : {A B : Type 0} (e f : StoreFault) → ◌≡◌ {A = Result A StoreFault} (Err e) (Err f) → ◌≡◌ {A = Result B StoreFault} (Err e) (Err f)
    same_fault e f is = let same : e ≡ f = cc (is) in ap (λ (g : StoreFault). Err g) same

    still_left : (e : StoreFault) (s t : State) → ((u : State) → b.survivors u → a.survivors u) → Leaves a.survivors b.survivors s t (Err e)
    still_left NoMemory s t crash = λ u v. inl (crash u v)
    still_left Refused s t crash = λ u v. inl (crash u v)
    still_left Down s t crash = crash

pub still_performed : (config : Config) (r : Request) (a b : Model State) (x y : List ℕ) (result : Result Verdict StoreFault) → (IsTrue (is_of_plugin r) → ⊥) → (NamesNone r → ⊥)
    → ((s : State) → (plan config s r).change ≡ None)
    → Finds a b result (λ s v. IsReported {E = StoreFault} (reported_of (plan config s r).outcome) x y (Ok v)) → Appended x y result → Performs config r a b x y result
still_performed config r a b x y (Err e) asks names still found appended = fault_performed config r a b x y e asks names found appended
still_performed config r a b x y (Ok v) asks names still found appended = record {
  clean = found.quiet.clean;
  appended = appended;
  reported = λ d s h inv. found.value d s h;
  state = λ d s h inv. subst b.holds (sym (still_step config s r (still s))) (found.quiet.state d s h);
  counted = found.count;
  left = λ d s h inv. inl (still_step config s r (still s), found.quiet.crash d);
  quiet = λ d s h inv none. found.quiet;
  alone = λ is. absurd (asks is);
  unnamed = λ is. absurd (names is);
  ties = λ d s h inv. found.quiet.ties d;
  down = record { down = found.down.down; refused = found.down.refused; unasked = λ is s. (found.down.unasked is s, still_step config s r (still s)) };
  stays = λ is. found.quiet.down ∙ is;
}

pub keeps : (config : Config) (r : Request) → IsSound config (λ s. settled_plan config s r) → (s : State) → IsInvariant config s → IsInvariant config (step config s r).1
keeps config r sound s inv = subst (IsInvariant config) (moved_is config s r) (sound.keeps s inv)

validate_still : (r : Validate) (o : Option (ℕ × Volume)) → (validate_found r o).change ≡ None
validate_still r None = refl
validate_still r (Some f) = elim (have_keys f.1.caps r.capabilities && ((fin.len r.parameters == 0) || same_map f.1.params r.parameters)) as (λ b. (cond b (confirm r) deny).change ≡ None) [ true ↦ refl | false ↦ refl ]

list_still : (config : Config) (s : State) (most : ℕ) (o : Option ℕ) → (list_after config s most o).change ≡ None
list_still config s most None = refl
list_still config s most (Some n) = refl

capacity_still : (config : Config) (rs : List Room) (r : GetCapacity) → (capacity_of config rs r).change ≡ None
capacity_still config rs r = elim (list_all is_supported r.capabilities) as (λ b. (cond b (report_capacity (sum_by free (served rs r.topology)) (greatest_size config (served rs r.topology))) (report_capacity 0 0)).change ≡ None) [ true ↦ refl | false ↦ refl ]

-- the plan of a request whose method changes nothing has no change
pub plan_still : (config : Config) (s : State) (r : Request) → is_read r ≡ true → (plan config s r).change ≡ None
plan_still config s request.PluginInfo e = refl
plan_still config s request.PluginCapabilities e = refl
plan_still config s request.Probe e = refl
plan_still config s request.ControllerCapabilities e = refl
plan_still config s (request.Create r) e = absurd (cc)
plan_still config s (request.Delete r) e = absurd (cc)
plan_still config s (request.Publish r) e = absurd (cc)
plan_still config s (request.Unpublish r) e = absurd (cc)
plan_still config s (request.Validate r) e = validate_still r (volume_at s (number_of_id r.volume_id))
plan_still config s (request.List r) e = list_still config s (whole r.max_entries) (start_of s.next r.token)
plan_still config s (request.Capacity r) e = capacity_still config (rooms config s) r
plan_still config s (request.Modify r) e = absurd (cc)

read_sound : (config : Config) (r : Request) → is_read r ≡ true → IsSound config (λ s. plan config s r)
read_sound config r is = sound_still config _ (λ s. plan_still config s r is)

-- the plan of each request is sound
plan_sound : (config : Config) → IsConfigured config → (r : Request) → checked r ≡ None → IsSound config (λ s. plan config s r)
plan_sound config good request.PluginInfo e = read_sound config request.PluginInfo refl
plan_sound config good request.PluginCapabilities e = read_sound config request.PluginCapabilities refl
plan_sound config good request.Probe e = read_sound config request.Probe refl
plan_sound config good request.ControllerCapabilities e = read_sound config request.ControllerCapabilities refl
plan_sound config good (request.Create r) e = create_sound config r good (asked r e)
plan_sound config good (request.Delete r) e = delete_sound config r
plan_sound config good (request.Publish r) e = sound_by config (λ s. publish config s r) (publish_fits config good.nodes r)
plan_sound config good (request.Unpublish r) e = sound_by config (λ s. unpublish s r) (unpublish_fits config r)
plan_sound config good (request.Validate r) e = read_sound config (request.Validate r) refl
plan_sound config good (request.List r) e = read_sound config (request.List r) refl
plan_sound config good (request.Capacity r) e = read_sound config (request.Capacity r) refl
plan_sound config good (request.Modify r) e = sound_by config (λ s. modify s r) (modify_fits config r)

pub settled_sound : (config : Config) → IsConfigured config → (r : Request) → checked r ≡ None → IsSound config (λ s. settled_plan config s r)
settled_sound config good r e = limited_sound config (λ s. plan config s r) (plan_sound config good r e)
