-- A machine that answers requests: the path of a call names a method, its message is read, its arguments are
-- checked, and then it is answered.
use Rattle.std.specs.Prelude.{◌≡◌, ◌≢◌, ◌⊎◌, ℕ, Bool, true, List, [], ◌++◌, Option, Some, None, Result, Ok, Err, codes, decimal}
use Rattle.csi_types.specs.declared.method.Method.{Method}
use Rattle.csi_types.specs.declared.reason.Reason.{Reason}
use Rattle.csi_types.specs.declared.reason.Reason.TheVariants as reason
use Rattle.csi_types.specs.declared.code.Code.TheVariants as code
use Rattle.csi_types.specs.declared.requests.Request.{Request}
use Rattle.csi_types.specs.Checks.{checked}
use Rattle.csi_types.specs.Codes.{number_of}
use Rattle.envelope.specs.Envelope.{ReplyBytes}
use Rattle.csi_codec.specs.Reading.{read_request}
use Rattle.csi_machine.specs.Verdicts.{Report, Says, Denies}
use Rattle.csi_keeper.specs.Model.{Model}
use Rattle.csi_server.specs.Machine.{Machine, Mark, Unmarked, OutOfMemory, StoreRefused, StoreDown, KnowsDown, RoseBy, refusal, refused, marked, store_mark}

-- the reply to a message that is malformed in the field at this byte
abbrev pub malformed : ℕ → ReplyBytes
malformed at = refusal (number_of code.InvalidArgument) (codes "malformed message in the field at byte " ++ decimal at)

-- the reply with an answer of the machine
abbrev pub reported : Report → ReplyBytes
reported (Says body) = record { status = 0; text = []; body = body }
reported (Denies reason) = refused reason

module _ {S : Type 0} (answer : S → Request → Report × S) where
  abbrev pub after_check : S → Request → Option Reason → ReplyBytes × S
  after_check s r None = (reported (answer s r).0, (answer s r).1)
  after_check s r (Some reason) = (refused reason, s)

  abbrev pub after_read : S → Result Request ℕ → ReplyBytes × S
  after_read s (Ok r) = after_check s r (checked r)
  after_read s (Err at) = (malformed at, s)

  abbrev pub after_path : S → Option Method → List ℕ → ReplyBytes × S
  after_path s None message = (refused reason.UnknownMethod, s)
  after_path s (Some m) message = after_read s (read_request m message)

-- the reply to a message that is refused before it is answered: the message is malformed, its arguments are
-- refused, or memory ran out
abbrev pub IsUnread : Method → List ℕ → ReplyBytes → Type 0
IsUnread m message r =
    ((at : ℕ) × (read_request m message ≡ Err at) × (r ≡ malformed at))
    ⊎ ((q : Request) × (why : Reason) × (read_request m message ≡ Ok q) × (checked q ≡ Some why) × (r ≡ refused why))
    ⊎ ((q : Request) × (read_request m message ≡ Ok q) × (r ≡ refused reason.OutOfMemory))

-- any request may be refused for lack of memory, and a request that needs the store may be refused by it
abbrev pub MayBe : Bool → Mark → Type 0
MayBe asks Unmarked = Unit {0}
MayBe asks OutOfMemory = Unit {0}
MayBe asks StoreRefused = asks ≡ true
MayBe asks StoreDown = asks ≡ true

-- a call may have this mark if its path names a method and its message means a request that may be refused so
abbrev pub IsRequest : (Request → Bool) → Option Method → List ℕ → Mark → Type 0
IsRequest asks None message mark = ⊥
IsRequest asks (Some m) message mark = (r : Request) × (read_request m message ≡ Ok r) × MayBe (asks r) mark

-- the machine that knows the paths of `method`; `asks` is true for requests that need the store
abbrev pub requests : {S : Type 0} → (List ℕ → Option Method) → (Request → Bool) → (S → Request → Report × S) → Machine S
requests method asks answer = record {
  respond = λ s call. after_path answer s (method call.path) call.message;
  may_fail = λ call mark. IsRequest asks (method call.path) call.message mark;
}

-- the states that a stop may leave after a call: as `Leaves`, by its reply and the state after it
abbrev pub LeavesBy : {S : Type 0} → ReplyBytes × S → (S → Type 0) → (S → Type 0) → S → Mark → Type 0
LeavesBy {S} x old new s Unmarked = ((x.1 ≡ s) × ((t : S) → new t → old t)) ⊎ ((t : S) → new t → t ≡ x.1)
LeavesBy {S} x old new s OutOfMemory = (t : S) → new t → old t ⊎ (t ≡ x.1)
LeavesBy {S} x old new s StoreRefused = (t : S) → new t → old t ⊎ (t ≡ x.1)
LeavesBy {S} x old new s StoreDown = (t : S) → new t → old t

-- A call from the state s is answered with the reply r; `respond` gives the reply to this call in each state.
pub record AnswersBy {S : Type 0} (respond : S → ReplyBytes × S) (MayFail : Mark → Type 0) (old new : Model S) (s : S) (r : ReplyBytes) : Type 0 where
  pub mark : Mark
  pub allowed : mark ≢ Unmarked → MayFail mark
  pub reply : r ≡ (marked s (respond s) mark).0
  pub held : new.holds (marked s (respond s) mark).1
  pub counted : RoseBy old.refusals new.refusals (store_mark mark)
  pub left : LeavesBy (respond s) old.survivors new.survivors s mark
  pub ties : old.tied → new.tied
  pub knows : KnowsDown respond old new r mark
