-- The responses of a machine over requests, step by step.
use Rattle.std.proofs.Common.{◌≡◌, ℕ, Bool, false, List, [], drop, Option, Some, None, Result, Ok, Err, refl, sym, ap, subst, ◌∙◌, inl, inr}
use Rattle.std.specs.Prelude.{⊤}
use Rattle.csi_types.specs.declared.method.Method.{Method}
use Rattle.csi_types.specs.declared.reason.Reason.TheVariants as reason
use Rattle.csi_types.specs.declared.requests.Request.{Request}
use Rattle.csi_types.specs.Checks.{checked}
use Rattle.envelope.specs.Envelope.{CallBytes, ReplyBytes}
use Rattle.envelope.specs.declared.limits.TheConstants.{REPLY_HEAD_BYTES}
use Rattle.csi_codec.specs.Reading.{read_request}
use Rattle.csi_machine.specs.declared.body.Verdict.{Verdict}
use Rattle.csi_machine.specs.declared.body.Verdict.TheVariants as verdict
use Rattle.csi_machine.specs.Verdicts.{Report, reported_of, IsReported}
use Rattle.csi_keeper.specs.Model.{Model}
use Rattle.csi_server.specs.Machine.{Machine, Mark, Unmarked, OutOfMemory, StoreRefused, StoreDown, Answers, Leaves, KnowsDown, marked, refused}
use Rattle.csi_server.specs.Requests.{AnswersBy, LeavesBy, IsUnread, IsRequest, MayBe, requests, after_check, after_read, after_path, reported}
use Rattle.csi_server.specs.Identity.{said, still}
use Rattle.csi_server.specs.Service.{room}

-- ---- one answer

leaves_by : {S : Type 0} (m : Machine S) (old new : S → Type 0) (s : S) (call : CallBytes) (mark : Mark) → LeavesBy (m.respond s call) old new s mark → Leaves m old new s call mark
leaves_by m old new s call Unmarked l = l
leaves_by m old new s call OutOfMemory l = l
leaves_by m old new s call StoreRefused l = l
leaves_by m old new s call StoreDown l = l

knows_same : {S : Type 0} {f g : S → ReplyBytes × S} {old new : Model S} {r : ReplyBytes} {mark : Mark} → ((t : S) → f t ≡ g t) → KnowsDown f old new r mark → KnowsDown g old new r mark
knows_same e k = record { down = k.down; refused = k.refused; unasked = λ is unmarked t. sym (e t) ∙ k.unasked is unmarked t; stays = k.stays }

-- an answer by a function that responds as the machine does is an answer of the machine
pub answers_by : {S : Type 0} (m : Machine S) (f : S → ReplyBytes × S) (May : Mark → Type 0) (old new : Model S) (s : S) (call : CallBytes) (r : ReplyBytes) → ((t : S) → m.respond t call ≡ f t) → ((k : Mark) → May k → m.may_fail call k) → AnswersBy f May old new s r → Answers m old new s call r
answers_by {S} m f May old new s call r e may a = record {
  mark = a.mark;
  allowed = λ is_marked. may a.mark (a.allowed is_marked);
  reply = a.reply ∙ ap (λ (y : ReplyBytes × S). (marked s y a.mark).0) (sym (e s));
  held = subst (λ (y : ReplyBytes × S). new.holds (marked s y a.mark).1) (sym (e s)) a.held;
  counted = a.counted;
  left = leaves_by m old.survivors new.survivors s call a.mark (subst (λ (y : ReplyBytes × S). LeavesBy y old.survivors new.survivors s a.mark) (sym (e s)) a.left);
  ties = a.ties;
  knows = knows_same {f = f} {g = λ t. m.respond t call} (λ t. sym (e t)) a.knows;
}

-- an answer that asks nothing of the service
pub kept_by : {S : Type 0} (f : S → ReplyBytes × S) (May : Mark → Type 0) (now : Model S) (s : S) (r : ReplyBytes) → ((t : S) → f t ≡ (r, t)) → now.holds s → AnswersBy f May now now s r
kept_by {S} f May now s r e h = record {
  mark = Unmarked;
  allowed = λ is_marked. absurd (is_marked refl);
  reply = sym (ap (λ (y : ReplyBytes × S). y.0) (e s));
  held = subst (λ (y : ReplyBytes × S). now.holds y.1) (sym (e s)) h;
  counted = inl (refl, refl);
  left = inl (ap (λ (y : ReplyBytes × S). y.1) (e s), λ t k. k);
  ties = λ k. k;
  knows = record { down = λ is. absurd (cc); refused = λ is. absurd (cc); unasked = λ is unmarked. e; stays = λ is. is };
}

-- memory was refused before the service was asked
pub memory_by : {S : Type 0} (f : S → ReplyBytes × S) (May : Mark → Type 0) (now : Model S) (s : S) (r : ReplyBytes) → r ≡ refused reason.OutOfMemory → May OutOfMemory → now.holds s → AnswersBy f May now now s r
memory_by f May now s r e may h = record {
  mark = OutOfMemory;
  allowed = λ is_marked. may;
  reply = e;
  held = h;
  counted = inl (refl, refl);
  left = λ t k. inl k;
  ties = λ k. k;
  knows = record { down = λ is. absurd (cc); refused = λ is. absurd (cc); unasked = λ is unmarked. absurd (cc); stays = λ is. is };
}

pub may_by : {S : Type 0} {f : S → ReplyBytes × S} {May Might : Mark → Type 0} {old new : Model S} {s : S} {r : ReplyBytes} → ((k : Mark) → May k → Might k) → AnswersBy f May old new s r → AnswersBy f Might old new s r
may_by g a = record { mark = a.mark; allowed = λ is_marked. g a.mark (a.allowed is_marked); reply = a.reply; held = a.held; counted = a.counted; left = a.left; ties = a.ties; knows = a.knows }

pub same_by : {S : Type 0} (f g : S → ReplyBytes × S) {May : Mark → Type 0} {old new : Model S} {s : S} {r : ReplyBytes} → ((t : S) → f t ≡ g t) → AnswersBy f May old new s r → AnswersBy g May old new s r
same_by {S} f g {old = old} {new = new} {s = s} e a = record {
  mark = a.mark;
  allowed = a.allowed;
  reply = a.reply ∙ ap (λ (y : ReplyBytes × S). (marked s y a.mark).0) (e s);
  held = subst (λ (y : ReplyBytes × S). new.holds (marked s y a.mark).1) (e s) a.held;
  counted = a.counted;
  left = subst (λ (y : ReplyBytes × S). LeavesBy y old.survivors new.survivors s a.mark) (e s) a.left;
  ties = a.ties;
  knows = knows_same {f = f} {g = g} e a.knows;
}

module _ {S : Type 0} (asks : Request → Bool) (answer : S → Request → Report × S) (m : Method) (message : List ℕ) where
  -- the response to the message in each state
  abbrev pub to_message : S → ReplyBytes × S
  to_message t = after_read answer t (read_request m message)

  -- the marks that the message may have
  abbrev pub MayMessage : Mark → Type 0
  MayMessage k = (q : Request) × (read_request m message ≡ Ok q) × MayBe (asks q) k

  -- a message that is not answered
  pub unread_by : (now : Model S) (s : S) (r : ReplyBytes) → IsUnread m message r → now.holds s → AnswersBy to_message MayMessage now now s r
  unread_by now s r (inl un) h = kept_by to_message MayMessage now s r (λ t. ap (after_read answer t) un.1 ∙ ap (λ (b : ReplyBytes). (b, t)) (sym un.2)) h
  unread_by now s r (inr (inl un)) h = kept_by to_message MayMessage now s r (λ t. ap (after_read answer t) un.2 ∙ ap (after_check answer t un.0) un.3 ∙ ap (λ (b : ReplyBytes). (b, t)) (sym un.4)) h
  unread_by now s r (inr (inr un)) h = memory_by to_message MayMessage now s r un.2 (un.0, un.1, tt) h

  -- a message whose request is answered
  pub read_by : (old new : Model S) (s : S) (r : ReplyBytes) (q : Request) → read_request m message ≡ Ok q → checked q ≡ None → AnswersBy (λ t. after_check answer t q None) (MayBe (asks q)) old new s r → AnswersBy to_message MayMessage old new s r
  read_by old new s r q is passed a = same_by (λ t. after_check answer t q None) to_message (λ t. sym (ap (after_read answer t) is ∙ ap (after_check answer t q) passed)) (may_by {May = MayBe (asks q)} {Might = MayMessage} (λ k may. (q, is, may)) a)

module _ {S : Type 0} (method : List ℕ → Option Method) (asks : Request → Bool) (answer : S → Request → Report × S) (call : CallBytes) where
  -- a call whose path names no method
  pub unknown_by : (now : Model S) (s : S) (r : ReplyBytes) → method call.path ≡ None → r ≡ refused reason.UnknownMethod → now.holds s → Answers (requests method asks answer) now now s call r
  unknown_by now s r none e h =
      answers_by (requests method asks answer) (λ t. (refused reason.UnknownMethod, t)) (λ k. ⊥) now now s call r (λ t. ap (λ (o : Option Method). after_path answer t o call.message) none) (λ k un. absurd un)
      (kept_by (λ t. (refused reason.UnknownMethod, t)) (λ k. ⊥) now s r (λ t. ap (λ (b : ReplyBytes). (b, t)) (sym e)) h)

  pub call_by : (old new : Model S) (s : S) (r : ReplyBytes) (m : Method) → method call.path ≡ Some m → AnswersBy (to_message asks answer m call.message) (MayMessage asks answer m call.message) old new s r → Answers (requests method asks answer) old new s call r
  call_by old new s r m is a =
      answers_by (requests method asks answer) (to_message asks answer m call.message) (MayMessage asks answer m call.message) old new s call r
      (λ t. ap (λ (o : Option Method). after_path answer t o call.message) is)
      (λ k q. subst (λ (o : Option Method). IsRequest asks o call.message k) (sym is) q)
      a

-- ---- an answer

-- the reply that is made from an answer
abbrev pub SaysIn : {E : Type 0} → List ℕ → ReplyBytes → Result Verdict E → Type 0
SaysIn out r (Ok verdict.Done) = r ≡ record { status = 0; text = []; body = drop REPLY_HEAD_BYTES out }
SaysIn out r (Ok (verdict.Refused q)) = r ≡ refused q
SaysIn out r (Err e) = r ≡ refused reason.OutOfMemory

-- the identity service's answer
pub said_by : {E : Type 0} (name version : List ℕ) (q : Request) (v : Result Verdict E) (out : List ℕ) (r : ReplyBytes) → IsReported (reported_of (said name version q)) room out v → SaysIn out r v
    → AnswersBy (λ t. after_check (λ (s : ⊤) (p : Request). (reported_of (said name version p), s)) t q None) (MayBe false) still still tt r
said_by name version q (Ok verdict.Done) out r reports e =
    kept_by _ (MayBe false) still tt r (λ s. ap (λ (t : Report). (reported t, s)) reports.1 ∙ ap (λ (o : List ℕ). (record { status = 0; text = []; body = drop REPLY_HEAD_BYTES o }, s)) (sym reports.2) ∙ ap (λ (b : ReplyBytes). (b, s)) (sym e)) tt
said_by name version q (Ok (verdict.Refused why)) out r reports e =
    kept_by _ (MayBe false) still tt r (λ s. ap (λ (t : Report). (reported t, s)) reports ∙ ap (λ (b : ReplyBytes). (b, s)) (sym e)) tt
said_by name version q (Err x) out r reports e = memory_by _ (MayBe false) still tt r e tt tt
