-- A plan that may change each State, and that keeps the invariant.
use Rattle.std.proofs.Common.{◌≡◌, Option, Some, None, IfSome, refl}
use Rattle.csi_config.specs.declared.config.Config.{Config}
use Rattle.csi_keeper.specs.declared.change.Change.{Change}
use Rattle.csi_machine.specs.declared.plan.Plan.{Plan}
use Rattle.csi_keeper.specs.Invariant.{IsInvariant}
use Rattle.csi_machine.specs.Plan.{after}
use Rattle.csi_keeper.specs.State.{State, changed, Allows}

-- a change that a State allows, and that keeps the invariant
abbrev pub IsFit : Config → State → Change → Type 0
IsFit config s c = Allows s c × IsInvariant config (changed s c)

pub record IsSound (config : Config) (plan : State → Plan) : Type 0 where
  pub allows : (s : State) → IsInvariant config s → IfSome (plan s).change (Allows s)
  pub keeps : (s : State) → IsInvariant config s → IsInvariant config (after s (plan s).change)

-- a plan each of whose changes is fit
pub sound_by : (config : Config) (plan : State → Plan) → ((s : State) (c : Change) → IsInvariant config s → (plan s).change ≡ Some c → IsFit config s c) → IsSound config plan
sound_by config plan fit = record { allows = λ s inv. go s inv (plan s).change refl; keeps = λ s inv. went s inv (plan s).change refl }
  where
    go : (s : State) → IsInvariant config s → (o : Option Change) → (plan s).change ≡ o → IfSome o (Allows s)
    go s inv None e = tt
    go s inv (Some c) e = (fit s c inv e).0

    went : (s : State) → IsInvariant config s → (o : Option Change) → (plan s).change ≡ o → IsInvariant config (after s o)
    went s inv None e = inv
    went s inv (Some c) e = (fit s c inv e).1

-- a plan that changes nothing
pub sound_still : (config : Config) (plan : State → Plan) → ((s : State) → (plan s).change ≡ None) → IsSound config plan
sound_still config plan still = sound_by config plan (λ s c inv e. absurd (cc (still s, e)))
