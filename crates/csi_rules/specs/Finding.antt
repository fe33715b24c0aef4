-- The values that reads of a keeper find, and the volume that a request names.
use Rattle.std.specs.Prelude.{◌≡◌, ℕ, List, Option, None, Some, Result, IfOk}
use Rattle.std.specs.FinMap.{get}
use Rattle.csi_keeper.specs.Keeper.{IsQuiet, Reports, count_after}
use Rattle.csi_keeper.specs.Model.{Model}
use Rattle.csi_keeper.specs.State.{State}
use Rattle.csi_keeper.specs.declared.capability.CapKey.{CapKey}
use Rattle.csi_keeper.specs.declared.change.StoreFault.{StoreFault}
use Rattle.csi_keeper.specs.declared.volume.Volume.{Volume}
use Rattle.csi_rules.specs.Down.{ReportsDown}

-- The answer holds for each State that the keeper may have, nothing changes, and a refusal is counted. An
-- answer of a keeper that is down holds for every State.
pub record Finds {X : Type 0} (old new : Model State) (result : Result X StoreFault) (IsSo : State → X → Type 0) : Type 0 where
  pub value : IfOk result (λ x. Reports old new (λ s. IsSo s x))
  pub quiet : IsQuiet old new
  pub count : new.refusals ≡ count_after old.refusals result
  pub down : ReportsDown old.is_down (λ x. (s : State) → IsSo s x) result

-- a volume with its number
abbrev pub numbered : ℕ → Option Volume → Option (ℕ × Volume)
numbered n None = None
numbered n (Some v) = Some (n, v)

-- the volume with this number, if there is a number and the volume exists
abbrev pub volume_at : State → Option ℕ → Option (ℕ × Volume)
volume_at s None = None
volume_at s (Some n) = numbered n (get s.volumes n)

-- the number and the capability keys of a volume that was found
abbrev pub keys_found : Option (ℕ × Volume) → Option (ℕ × List CapKey)
keys_found None = None
keys_found (Some found) = Some (found.0, found.1.caps)

abbrev pub caps_at : State → Option ℕ → Option (ℕ × List CapKey)
caps_at s o = keys_found (volume_at s o)

-- the number of a volume that was found
abbrev pub number_found : Option (ℕ × Volume) → Option ℕ
number_found None = None
number_found (Some found) = Some found.0

abbrev pub number_at : State → Option ℕ → Option ℕ
number_at s o = number_found (volume_at s o)
