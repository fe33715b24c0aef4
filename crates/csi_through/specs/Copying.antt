-- A copy of a keeper, as far as it was made.
use Rattle.std.specs.Prelude.{◌≡◌, ◌↔◌, ℕ, ◌+◌, ◌<◌, ◌≤◌, not, nat_lt, List, [], ◌∷◌, map, Some, ⊤, Err, IsTrue}
use Rattle.std.specs.FinMap.{get, retain_keys}
use Rattle.csi_types.specs.declared.limits.TheConstants.{MAX_NUMBER, MAX_POOL_BYTES}
use Rattle.csi_config.specs.declared.config.Config.{Config}
use Rattle.csi_memory.specs.Holding.{Holds}
use Rattle.csi_keeper.specs.Invariant.{IsInvariant}
use Rattle.csi_keeper.specs.Keeper.{count_after}
use Rattle.csi_keeper.specs.Model.{Model}
use Rattle.csi_keeper.specs.State.{State, Allows, changed, published}
use Rattle.csi_keeper.specs.Texts.{Text}
use Rattle.csi_keeper.specs.declared.change.Change.TheVariants.{Attach}
use Rattle.csi_keeper.specs.declared.change.StoreFault.{StoreFault}
use Rattle.csi_keeper.specs.declared.change.StoreFault.TheVariants.{Down}
use Rattle.csi_memory.specs.declared.mem.MemKeeper.{MemKeeper}
use Rattle.csi_keeper.specs.declared.volume.Attachment.{Attachment}
use Rattle.csi_keeper.specs.declared.volume.Volume.{Volume}

-- the volumes up to a number, and their attachments; the next number follows it
abbrev pub up_to : State → ℕ → State
up_to s n = record {
  next = n + 1;
  volumes = retain_keys s.volumes (λ k. not (nat_lt n k));
  attachments = retain_keys s.attachments (λ p. not (nat_lt n p.0));
}

-- the State after the attachments of a volume are added in order
abbrev pub attached_each : State → ℕ → List Attachment → State
attached_each s n [] = s
attached_each s n (a ∷ rest) = attached_each (changed s (Attach n a)) n rest

abbrev pub AllowsEach : State → ℕ → List Attachment → Type 0
AllowsEach s n [] = ⊤
AllowsEach s n (a ∷ rest) = Allows s (Attach n a) × AllowsEach (changed s (Attach n a)) n rest

-- a keeper in memory can have this next number
abbrev pub IsNumbered : ℕ → Type 0
IsNumbered next = next ≤ MAX_NUMBER

-- a keeper in memory can hold this volume
pub record IsHeld (v : Volume) : Type 0 where
  pub number : v.number < MAX_NUMBER
  pub bytes : v.bytes ≤ MAX_POOL_BYTES

-- the first volume with a greater number
pub record IsNext (s : State) (n : ℕ) (v : Volume) : Type 0 where
  pub stands : get s.volumes v.number ≡ Some v
  pub greater : n < v.number
  pub first : (k : ℕ) (w : Volume) → get s.volumes k ≡ Some w → n < k → v.number ≤ k

-- the first volumes with a greater number, in order
abbrev pub AreNext : State → ℕ → List Volume → Type 0
AreNext s n [] = ⊤
AreNext s n (v ∷ vs) = IsNext s n v × AreNext s v.number vs

-- the number of the last volume, or n if there is no volume
abbrev pub last_number : ℕ → List Volume → ℕ
last_number n [] = n
last_number n (v ∷ vs) = last_number v.number vs

-- the nodes that each volume is published at
abbrev pub AreNodes : State → List Volume → List (List Text) → Type 0
AreNodes s volumes nodes = nodes ≡ map (λ v. published s v.number) volumes

-- For each State that the keeper may have had and that meets the invariant: if `memory` has the State up to
-- the number `after`, `copy` has it up to the last of the next volumes.
abbrev pub CopiesTo : Model State → Model State → MemKeeper → MemKeeper → ℕ → List Volume → List (List Text) → ℕ → Type 0
CopiesTo old new memory copy after volumes nodes last =
    new.doubt ≡ 0 → (config : Config) (s : State) → old.holds s → IsInvariant config s → AreNext s after volumes → AreNodes s volumes nodes
    → Holds memory (up_to s after)
    → (last ≡ last_number after volumes) × Holds copy (up_to s last)

-- the memory had nothing, and the copy has the whole State; its next number is one more than the last number
-- that was copied
abbrev pub CopiesAll : Model State → Model State → MemKeeper → MemKeeper → Type 0
CopiesAll old new memory copy =
    new.doubt ≡ 0 → (config : Config) (s : State) → old.holds s → IsInvariant config s → Holds memory (up_to s 0)
    → (last : ℕ) × (last < s.next) × Holds copy (record s { next = last + 1 })

-- the memory has the State of the keeper
abbrev pub IsCopy : Model State → Model State → MemKeeper → Type 0
IsCopy old new copy = new.doubt ≡ 0 → (config : Config) (s : State) → old.holds s → IsInvariant config s → Holds copy s

-- a keeper in memory can have the next number of each State of the keeper
abbrev pub IsWhole : Model State → Model State → Type 0
IsWhole old new = new.doubt ≡ 0 → (s : State) → old.holds s → IsNumbered s.next

-- The fault of a read of the keeper that gave no value, or of a lack of memory. `Down` is reported only if
-- the keeper is down. For each State that meets the invariant and `P`, the keeper counted each refusal, and
-- nothing more.
pub record IsReportedFor (P : State → Type 0) (old new : Model State) (fault : StoreFault) : Type 0 where
  pub down : fault ≡ Down → IsTrue old.is_down
  pub count : new.doubt ≡ 0 → (config : Config) (s : State) → old.holds s → IsInvariant config s → P s
      → new.refusals ≡ count_after {X = Unit {0}} old.refusals (Err fault)

-- The fault because of which there is no copy. `Down` is reported if and only if the keeper is down. For each
-- State that meets the invariant, the keeper counted each refusal, and nothing more.
pub record IsWhy (old new : Model State) (fault : StoreFault) : Type 0 where
  pub down : (fault ≡ Down) ↔ IsTrue old.is_down
  pub count : new.doubt ≡ 0 → (config : Config) (s : State) → old.holds s → IsInvariant config s
      → new.refusals ≡ count_after {X = Unit {0}} old.refusals (Err fault)
