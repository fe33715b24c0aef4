-- The effect of a request on a keeper, by the plan that the State gives the request.
use Rattle.std.specs.Prelude.{◌≡◌, ◌⊎◌, true, ℕ, ◌≤◌, ◌++◌, List, [], Result, Ok, Err, None, IsSome, IsTrue, IfSome, IfOk, IfErr, OnOk, OnErr}
use Rattle.csi_types.specs.declared.reason.Reason.{Reason}
use Rattle.csi_types.specs.declared.responses.Response.{Response}
use Rattle.csi_codec.specs.Methods.{response_bytes}
use Rattle.csi_config.specs.declared.config.Config.{Config}
use Rattle.csi_types.specs.declared.requests.Request.{Request}
use Rattle.csi_keeper.specs.declared.change.StoreFault.{StoreFault}
use Rattle.csi_keeper.specs.declared.change.StoreFault.TheVariants.{NoMemory, Refused, Down}
use Rattle.csi_machine.specs.declared.body.Verdict.{Verdict}
use Rattle.csi_machine.specs.declared.plan.Plan.{Plan}
use Rattle.csi_keeper.specs.Invariant.{IsInvariant}
use Rattle.csi_keeper.specs.Keeper.{IsQuiet, count_after}
use Rattle.csi_keeper.specs.Model.{Model}
use Rattle.csi_rules.specs.Down.{ReportsDown}
use Rattle.csi_machine.specs.Plan.{after}
use Rattle.csi_keeper.specs.State.{State, Allows}
use Rattle.csi_machine.specs.Step.{step, settled_plan, is_of_plugin, NamesNone}
use Rattle.csi_machine.specs.Verdicts.{Appended, IsReported, verdict_of}

-- the body of the reply with this outcome; a refusal has no body
abbrev pub body_of : Result Response Reason → List ℕ
body_of (Ok r) = response_bytes r
body_of (Err reason) = []

-- the State `t` after the request if it is answered, and otherwise the State `s` before it
abbrev pub state_after : State → State → Result Verdict StoreFault → State
state_after s t (Ok v) = t
state_after s t (Err e) = s

-- The survivors after a call. After an answer that changed the State only the new State survives; after any
-- other answer only the old survivors. If memory ran out or the store refused the call, the State that the
-- request would have made may survive too.
abbrev pub Leaves : (State → Type 0) → (State → Type 0) → State → State → Result Verdict StoreFault → Type 0
Leaves old new s t (Ok v) = ((t ≡ s) × ((u : State) → new u → old u)) ⊎ ((u : State) → new u → u ≡ t)
Leaves old new s t (Err NoMemory) = (u : State) → new u → old u ⊎ (u ≡ t)
Leaves old new s t (Err Refused) = (u : State) → new u → old u ⊎ (u ≡ t)
Leaves old new s t (Err Down) = (u : State) → new u → old u

-- the answer is the same in every State, and the State stays
abbrev pub IsOfAll : Config → Request → List ℕ → List ℕ → Verdict → Type 0
IsOfAll config r out now v = (s : State) → IsReported {E = StoreFault} (step config s r).0 out now (Ok v) × ((step config s r).1 ≡ s)

-- if nothing is in doubt, `P` is true of each State that the keeper may have had and that meets the invariant
abbrev pub Promises : Config → Model State → Model State → (State → Type 0) → Type 0
Promises config old new P = new.doubt ≡ 0 → (s : State) → old.holds s → IsInvariant config s → P s

-- a request is answered by the plan that the State gives it
pub record Answered (config : Config) (plan : State → Plan) (old new : Model State) (out now : List ℕ) (result : Result Verdict StoreFault) : Type 0 where
  pub clean : old.doubt ≤ new.doubt
  pub verdict : IfOk result (λ v. Promises config old new (λ s. (v ≡ verdict_of (plan s).outcome) × (now ≡ out ++ body_of (plan s).outcome)))
  pub appended : Appended out now result
  pub state : OnOk result (Promises config old new (λ s. new.holds (after s (plan s).change)))
  pub kept : OnOk result ((s : State) → IsInvariant config s → IsInvariant config (after s (plan s).change))
  pub same : OnErr result (Promises config old new (λ s. new.holds s))
  -- a fault of the keeper is counted
  pub count : new.refusals ≡ count_after old.refusals result
  -- a survivor is an old one, or the State with the change, if the plan has a change
  pub crash : Promises config old new (λ s. (t : State) → new.survivors t → old.survivors t ⊎ (IsSome (plan s).change × (t ≡ after s (plan s).change)))
  pub idle : result ≡ Err Down → new.doubt ≡ 0 → (t : State) → new.survivors t → old.survivors t
  pub settled : OnOk result (Promises config old new (λ s. IsSome (plan s).change → (t : State) → new.survivors t → t ≡ after s (plan s).change))
  -- for a plan that changes nothing the keeper is only read
  pub quiet : Promises config old new (λ s. (plan s).change ≡ None → IsQuiet old new)
  pub ties : Promises config old new (λ s. old.tied → new.tied)
  -- a keeper that is down allows only answers that hold for each State
  pub down : ReportsDown old.is_down (λ v. (s : State) → (v ≡ verdict_of (plan s).outcome) × (now ≡ out ++ body_of (plan s).outcome)
      × ((plan s).change ≡ None)) result
  pub stays : old.is_down ≡ true → new.is_down ≡ true

-- if nothing is in doubt, `P` is true of each State that the keeper may have had and that allows the plan's
-- change
abbrev pub Allowed : Plan → Model State → Model State → (State → Type 0) → Type 0
Allowed plan old new P = new.doubt ≡ 0 → (s : State) → old.holds s → IfSome plan.change (Allows s) → P s

-- a plan is carried out: its change is made, if the State allows it, and its answer is given
pub record Carries (plan : Plan) (old new : Model State) (result : Result Verdict StoreFault) : Type 0 where
  pub clean : old.doubt ≤ new.doubt
  pub verdict : IfOk result (λ v. v ≡ verdict_of plan.outcome)
  pub state : OnOk result (Allowed plan old new (λ s. new.holds (after s plan.change)))
  pub same : OnErr result (Allowed plan old new (λ s. new.holds s))
  pub count : new.refusals ≡ count_after old.refusals result
  pub crash : Allowed plan old new (λ s. (t : State) → new.survivors t → old.survivors t ⊎ (IsSome plan.change × (t ≡ after s plan.change)))
  pub idle : result ≡ Err Down → new.doubt ≡ 0 → (t : State) → new.survivors t → old.survivors t
  pub settled : OnOk result (Allowed plan old new (λ s. IsSome plan.change → (t : State) → new.survivors t → t ≡ after s plan.change))
  -- a plan without a change only reads the keeper
  pub quiet : plan.change ≡ None → IsQuiet old new
  pub alone : plan.change ≡ None → IfErr result (λ e. e ≡ NoMemory)
  pub ties : Allowed plan old new (λ s. old.tied → new.tied)
  pub down : ReportsDown old.is_down (λ v. plan.change ≡ None) result
  pub stays : old.is_down ≡ true → new.is_down ≡ true

-- A request is performed: its body is appended, the report and the State after it are the result of one step
-- of the machine, and a fault of the keeper is counted and leaves the State.
pub record Performs (config : Config) (request : Request) (old new : Model State) (out now : List ℕ) (result : Result Verdict StoreFault) : Type 0 where
  pub clean : old.doubt ≤ new.doubt
  pub appended : Appended out now result
  pub reported : Promises config old new (λ s. IsReported (step config s request).0 out now result)
  pub state : Promises config old new (λ s. new.holds (state_after s (step config s request).1 result))
  pub counted : new.refusals ≡ count_after old.refusals result
  pub left : Promises config old new (λ s. Leaves old.survivors new.survivors s (step config s request).1 result)
  -- a request that changes nothing only reads the keeper
  pub quiet : Promises config old new (λ s. (settled_plan config s request).change ≡ None → IsQuiet old new)
  -- a request about the plugin itself is answered without the keeper
  pub alone : IsTrue (is_of_plugin request) → IsQuiet old new × IfErr result (λ e. e ≡ NoMemory)
  -- and so is a request with a volume id that no volume can have
  pub unnamed : NamesNone request → IsQuiet old new × IfErr result (λ e. e ≡ NoMemory)
  pub ties : Promises config old new (λ s. old.tied → new.tied)
  pub down : ReportsDown old.is_down (IsOfAll config request out now) result
  pub stays : old.is_down ≡ true → new.is_down ≡ true
