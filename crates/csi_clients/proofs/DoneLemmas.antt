-- Requests that are done, and the status of each client during a history.
use Rattle.std.proofs.Common.{◌≡◌, ◌⊎◌, ap, refl, ℕ, List, [], ◌∷◌, Bool, true, false, Option, Some, None}
use Rattle.csi_types.specs.Checks.{checked}
use Rattle.csi_types.specs.declared.reason.Reason.{Reason}
use Rattle.csi_types.specs.declared.requests.Request.{Request}
use Rattle.csi_config.specs.declared.config.Config.{Config}
use Rattle.csi_keeper.specs.Invariant.{IsInvariant}
use Rattle.csi_keeper.specs.State.{State}
use Rattle.csi_keeper.specs.declared.change.Change.{Change}
use Rattle.csi_machine.specs.Plan.{after}
use Rattle.csi_machine.specs.Retry.{without_first}
use Rattle.csi_machine.specs.Step.{is_read, moved, plan, step}
use Rattle.csi_machine.specs.Verdicts.{Report, Says, Denies, reported_of}
use Rattle.csi_clients.specs.Objects.{LeavesAlone}
use Rattle.csi_clients.specs.Clients.{Client}
use Rattle.csi_clients.specs.Histories.{heard_if}
use Rattle.csi_clients.specs.Linearizability.{Operation}
use Rattle.csi_clients.proofs.ChangeLemmas.{plan_still}

-- a request that is taken again has the same answer, and changes nothing
abbrev pub Again : Config → Type 0
Again config = (s : State) (r : Request) → IsInvariant config s → checked r ≡ None → step config (step config s r).1 r ≡ step config s r

-- the change that a request made stays, if another request leaves its object alone
abbrev pub Stays : Config → Type 0
Stays config = (s : State) (q r : Request) (body : List ℕ) → IsInvariant config s → checked q ≡ None → LeavesAlone s q r → step config s r ≡ (Says body, s)
    → step config (step config s q).1 r ≡ (Says body, (step config s q).1)

moved_none : (s : State) (o : Option Change) (reported : Report) → o ≡ None → moved s (after s o) reported ≡ s
moved_none s o (Says body) e = ap (after s) e
moved_none s o (Denies reason) e = refl

pub read_stays : (config : Config) (s : State) (r : Request) → is_read r ≡ true → (step config s r).1 ≡ s
read_stays config s r e = moved_none s (plan config s r).change (reported_of (plan config s r).outcome) (plan_still config s r e)

pub denied_stays : (config : Config) (s : State) (r : Request) (why : Reason) → (step config s r).0 ≡ Denies why → (step config s r).1 ≡ s
denied_stays config s r why e = ap (λ (w : Report). moved s (after s (plan config s r).change) w) e

-- ---- the status of a client

abbrev pub operation : ℕ → Request → Operation
operation c r = record { client = c; request = r }

-- the body of the request that took effect and was not answered yet, by client
abbrev pub Status : Type 0
Status = ℕ → Option (List ℕ)

abbrev pub owed : Option (List ℕ) → List Request → List Request
owed None rs = rs
owed (Some body) rs = without_first rs

abbrev pub said : Option (List ℕ) → List Report
said None = []
said (Some body) = Says body ∷ []

abbrev pub IsDoneFirst : Config → State → List Request → List ℕ → Type 0
IsDoneFirst config x [] body = ⊥
IsDoneFirst config x (r ∷ rs) body = (is_read r ≡ false) × (step config x r ≡ (Says body, x))

-- a client that is gone makes no request again, so nothing is needed for its request
abbrev pub IsDoneOf : Config → State → Client → List ℕ → Type 0
IsDoneOf config x k body = ((k.is_open ≡ true) × IsDoneFirst config x k.rest body) ⊎ ((k.is_gone ≡ true) × (first : Request) × (k.rest ≡ first ∷ without_first k.rest))

pub heard_none : (b : Bool) → heard_if b [] ≡ []
heard_none true = refl
heard_none false = refl
