-- A volume that has its number already.
use Rattle.std.specs.Prelude.{◌≡◌, ℕ, ◌≤◌, max, None}
use Rattle.std.specs.FinMap.{get}
use Rattle.csi_keeper.specs.State.{State, changed, named}
use Rattle.csi_keeper.specs.declared.volume.Volume.{Volume}
use Rattle.csi_keeper.specs.declared.change.Change.TheVariants.{AddVolume}

-- the State with a next number of at least n
abbrev pub from_number : State → ℕ → State
from_number s n = record s { next = max s.next n }

-- its number was not given yet, and no volume has its name
abbrev pub CanRestore : State → Volume → Type 0
CanRestore s v = (s.next ≤ v.number) × (get s.volumes v.number ≡ None) × (named s v.name ≡ None)

-- the State with the volume, and the next number after it
abbrev pub restored : State → Volume → State
restored s v = changed (from_number s v.number) (AddVolume v)
