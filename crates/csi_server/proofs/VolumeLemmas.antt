-- A keeper's answers are the responses of the volume machine.
use Rattle.std.proofs.Common.{◌≡◌, ◌⊎◌, Bool, true, false, not, IsTrue, ℕ, List, [], ◌++◌, ◌+◌, drop, length, length-append, None, Result, Ok, Err, refl, sym, ap, subst, ◌∙◌, inl, inr, arith}
use Rattle.csi_types.specs.declared.requests.Request.{Request}
use Rattle.envelope.specs.Envelope.{ReplyBytes}
use Rattle.envelope.specs.declared.limits.TheConstants.{REPLY_HEAD_BYTES}
use Rattle.csi_config.specs.declared.config.Config.{Config}
use Rattle.csi_machine.specs.declared.body.Verdict.{Verdict}
use Rattle.csi_machine.specs.declared.body.Verdict.TheVariants as verdict
use Rattle.csi_keeper.specs.Model.{Model}
use Rattle.csi_keeper.specs.declared.change.StoreFault.{StoreFault}
use Rattle.csi_keeper.specs.declared.change.StoreFault.TheVariants as fault
use Rattle.csi_machine.specs.Answering.{IsOfAll, Performs}
use Rattle.csi_keeper.specs.Invariant.{IsInvariant}
use Rattle.csi_keeper.specs.State.{State}
use Rattle.csi_machine.specs.Step.{is_of_plugin, step}
use Rattle.csi_machine.specs.Verdicts.{Appended}
use Rattle.csi_server.specs.Machine.{Mark, Unmarked, OutOfMemory, StoreRefused, StoreDown, KnowsDown, RoseBy, marked, store_mark}
use Rattle.csi_server.specs.Requests.{AnswersBy, LeavesBy, MayBe, after_check, reported}
use Rattle.csi_server.specs.Service.{HasBody, room}
use Rattle.csi_server.specs.Volumes.{RepliesTo, asks_keeper, seen}

-- the bytes after the room for a head are a body
pub holds_body : (old out : List ℕ) (v : Result Verdict StoreFault) → old ≡ room → Appended old out v → v ≡ Ok verdict.Done → HasBody out
holds_body old out (Ok verdict.Done) begun (body, is, few) e =
    let long : length out ≡ 8 + length body = ap length is ∙ (length-append old body ∙ ap (λ (xs : List ℕ). length xs + length body) begun) in
    (omega (arith, long), omega (arith, long, few))
holds_body old out (Ok (verdict.Refused q)) begun is e = absurd (cc)
holds_body old out (Err f) begun is e = absurd (cc)

-- the mark of a fault
abbrev pub mark_of : StoreFault → Mark
mark_of fault.NoMemory = OutOfMemory
mark_of fault.Refused = StoreRefused
mark_of fault.Down = StoreDown

module _ (config : Config) (request : Request) (a b : Model State) where
  -- a keeper before and after, and the response from each State
  abbrev before : Model State
  before = seen config a

  abbrev behind : Model State
  behind = seen config b

  abbrev to_request : State → ReplyBytes × State
  to_request t = after_check (step config) t request None

  done_by : (s : State) (r : ReplyBytes) → r ≡ reported (step config s request).0
      → b.holds (step config s request).1 → IsInvariant config (step config s request).1 → b.refusals ≡ a.refusals
      → ((((step config s request).1 ≡ s) × ((u : State) → b.survivors u → a.survivors u)) ⊎ ((u : State) → b.survivors u → u ≡ (step config s request).1))
      → (a.tied → b.tied)
      → (a.is_down ≡ true → (t : State) → to_request t ≡ (r, t)) → (a.is_down ≡ true → b.is_down ≡ true)
      → AnswersBy to_request (MayBe (asks_keeper request)) before behind s r
  done_by s r e held inv count left ties alone stays = record {
    mark = Unmarked;
    allowed = λ is_marked. absurd (is_marked refl);
    reply = e;
    held = (held, inv);
    counted = inl (refl, count);
    left = left;
    ties = ties;
    knows = record { down = λ is. absurd (cc); refused = λ is. absurd (cc); unasked = λ is unmarked. alone is; stays = stays };
  }

  -- the answer that fits every State is the response from each
  reported_all : (v : Verdict) (old out : List ℕ) (r : ReplyBytes) → old ≡ room → RepliesTo out r (Ok v) → IsOfAll config request old out v → (t : State) → to_request t ≡ (r, t)
  reported_all verdict.Done old out r begun e all t =
      let is = (all t).0 in
      let said : reported (step config t request).0 ≡ r = ap reported is.1 ∙ sym (e ∙ ap (λ (o : List ℕ). record { status = 0; text = []; body = drop REPLY_HEAD_BYTES o }) (is.2 ∙ ap (λ (o : List ℕ). o ++ is.0) begun)) in
      ap (λ (x : ReplyBytes). (x, (step config t request).1)) said ∙ ap (λ (u : State). (r, u)) (all t).1
  reported_all (verdict.Refused q) old out r begun e all t =
      ap (λ (x : ReplyBytes). (x, (step config t request).1)) (ap reported (all t).0 ∙ sym e) ∙ ap (λ (u : State). (r, u)) (all t).1

  -- a call that reports a fault of the keeper needed the keeper
  asked : (e : StoreFault) → (IsTrue (is_of_plugin request) → e ≡ fault.NoMemory) → (e ≡ fault.NoMemory → ⊥) → asks_keeper request ≡ true
  asked e only never = by (is_of_plugin request) only
    where
      by : (b : Bool) → (IsTrue b → e ≡ fault.NoMemory) → not b ≡ true
      by true h = absurd (never (h refl))
      by false h = refl

  -- a fault of the keeper
  failed_by : (s : State) (r : ReplyBytes) (e : StoreFault) → MayBe (asks_keeper request) (mark_of e) → r ≡ (marked s (to_request s) (mark_of e)).0 → (marked s (to_request s) (mark_of e)).1 ≡ s → b.holds s → IsInvariant config s
      → RoseBy (a.refusals) (b.refusals) (store_mark (mark_of e))
      → LeavesBy (to_request s) (a.survivors) (b.survivors) s (mark_of e)
      → (a.tied → b.tied) → KnowsDown to_request before behind r (mark_of e)
      → AnswersBy to_request (MayBe (asks_keeper request)) before behind s r
  failed_by s r e may reply kept held inv counted left ties knows = record {
    mark = mark_of e;
    allowed = λ is_marked. may;
    reply = reply;
    held = subst (λ (u : State). b.holds u × IsInvariant config u) (sym kept) (held, inv);
    counted = counted;
    left = left;
    ties = ties;
    knows = knows;
  }

  -- an answer from a State that meets the invariant is an answer of the machine
  pub answered_by : (v : Result Verdict StoreFault) (old out : List ℕ) (s : State) (r : ReplyBytes) → old ≡ room → Performs config request a b old out v → b.doubt ≡ 0 → a.holds s → IsInvariant config s
      → IsInvariant config (step config s request).1 → RepliesTo out r v → AnswersBy to_request (MayBe (asks_keeper request)) before behind s r
  answered_by (Ok verdict.Done) old out s r begun did d h inv next e =
      let reports = did.reported d s h inv in
      done_by s r (e ∙ ap (λ (o : List ℕ). record { status = 0; text = []; body = drop REPLY_HEAD_BYTES o }) (reports.2 ∙ ap (λ (o : List ℕ). o ++ reports.0) begun) ∙ ap reported (sym reports.1))
      (did.state d s h inv) next did.counted (did.left d s h inv) (did.ties d s h inv) (λ is. reported_all verdict.Done old out r begun e (did.down.unasked is)) did.stays
  answered_by (Ok (verdict.Refused q)) old out s r begun did d h inv next e =
      done_by s r (e ∙ ap reported (sym (did.reported d s h inv))) (did.state d s h inv) next did.counted (did.left d s h inv) (did.ties d s h inv)
      (λ is. reported_all (verdict.Refused q) old out r begun e (did.down.unasked is)) did.stays
  answered_by (Err fault.NoMemory) old out s r begun did d h inv next e =
      failed_by s r fault.NoMemory tt e refl (did.state d s h inv) inv (inl (refl, did.counted)) (did.left d s h inv) (did.ties d s h inv)
      (record { down = λ is. absurd (cc); refused = λ is. absurd (cc); unasked = λ is unmarked. absurd (cc); stays = did.stays })
  answered_by (Err fault.Refused) old out s r begun did d h inv next e =
      failed_by s r fault.Refused (asked fault.Refused (λ is. (did.alone is).1) (λ is. absurd (cc (is)))) e refl (did.state d s h inv) inv (inr (omega arith, did.counted)) (did.left d s h inv) (did.ties d s h inv)
      (record { down = λ is. absurd (cc); refused = λ is. did.down.refused refl; unasked = λ is unmarked. absurd (cc); stays = did.stays })
  answered_by (Err fault.Down) old out s r begun did d h inv next e =
      failed_by s r fault.Down (asked fault.Down (λ is. (did.alone is).1) (λ is. absurd (cc (is)))) e refl (did.state d s h inv) inv (inr (omega arith, did.counted)) (did.left d s h inv) (did.ties d s h inv)
      (record { down = λ is. did.down.down refl; refused = λ is. absurd (cc); unasked = λ is unmarked. absurd (cc); stays = did.stays })
