-- The State of the volume machine, the reads of it, and the changes.
use Rattle.std.specs.Prelude.{◌≡◌, ℕ, ◌+◌, ◌-◌, ◌^◌, ◌<◌, ◌≤◌, ◌==◌, not, min, nat_lt, List, [], Option, None, Some, IsSome, map, filter, find, take}
use Rattle.std.specs.Prelude.{sum, length, bytes_eq, ⊤}
use Rattle.std.specs.declared.cmp.Ordering.{Ordering}
use Rattle.std.specs.Ordering.{nat_cmp, ordering_then}
use Rattle.std.specs.FinMap.{FinMap, get, empty, insert, remove, entries, values, retain_keys}
use Rattle.csi_types.specs.Checks.{map_bytes}
use Rattle.csi_types.specs.Maps.{TextMap}
use Rattle.csi_types.specs.declared.limits.TheConstants.{MAX_MAP_BYTES}
use Rattle.csi_keeper.specs.Texts.{Text, text_cmp}
use Rattle.csi_keeper.specs.Capability.{AreOrdered}
use Rattle.csi_keeper.specs.declared.volume.Volume.{Volume}
use Rattle.csi_keeper.specs.declared.volume.Attachment.{Attachment}
use Rattle.csi_keeper.specs.declared.change.Usage.{Usage}
use Rattle.csi_keeper.specs.declared.change.Change.{Change}
use Rattle.csi_keeper.specs.declared.change.Change.TheVariants.{AddVolume, RemoveVolume, Attach, Detach, DetachAll, SetMutable}

-- a volume's number, and a node's id
abbrev pub AttachmentKey : Type 0
AttachmentKey = ℕ × Text

-- the order of attachment keys: by number, and then by the bytes of the node's id
abbrev pub attachment_key_cmp : AttachmentKey → AttachmentKey → Ordering
attachment_key_cmp a b = ordering_then (nat_cmp a.0 b.0) (text_cmp a.1 b.1)

pub record State : Type 0 where
  pub next : ℕ
  pub volumes : FinMap nat_cmp Volume
  pub attachments : FinMap attachment_key_cmp Attachment

-- the State without volumes, and with the first number as its next number
abbrev pub first_state : ℕ → State
first_state first = record { next = first; volumes = empty; attachments = empty }

-- the volumes, in rising order of their numbers
abbrev pub volumes_in_order : State → List Volume
volumes_in_order s = values s.volumes

-- the volume with this name
abbrev pub named : State → Text → Option Volume
named s name = find (λ v. bytes_eq v.name name) (volumes_in_order s)

-- the bytes of a pool's volumes
abbrev pub sizes : State → Text → List ℕ
sizes s pool = map (λ v. v.bytes) (filter (λ v. bytes_eq v.pool pool) (volumes_in_order s))

-- the number as a u64, at most the greatest one
abbrev pub up_to_u64 : ℕ → ℕ
up_to_u64 n = min n (2 ^ 64 - 1)

-- the number of a pool's volumes, and the sum of their bytes
abbrev pub used : State → Text → Usage
used s pool = record { volumes = up_to_u64 (length (sizes s pool)); bytes = up_to_u64 (sum (sizes s pool)) }

-- a volume's attachments, in the order of their nodes
abbrev pub attached : State → ℕ → List Attachment
attached s number = map (λ e. e.1) (filter (λ e. e.0.0 == number) (entries s.attachments))

-- the numbers of the volumes that are attached at a node, in rising order
abbrev pub attached_at : State → Text → List ℕ
attached_at s node = map (λ e. e.0.0) (filter (λ e. bytes_eq e.0.1 node) (entries s.attachments))

-- the number of volumes that are attached at a node
abbrev pub count_at : State → Text → ℕ
count_at s node = length (attached_at s node)

-- the volumes with a number greater than `after`
abbrev pub beyond : State → ℕ → List Volume
beyond s after = map (λ e. e.1) (filter (λ e. nat_lt after e.0) (entries s.volumes))

-- at most `count` volumes with a number greater than `after`
abbrev pub page : State → ℕ → ℕ → List Volume
page s after count = take count (beyond s after)

-- the nodes that a volume is published at, in their order
abbrev pub published : State → ℕ → List Text
published s number = map (λ a. a.node) (attached s number)

-- the nodes of each volume of a page
abbrev pub published_of_page : State → ℕ → ℕ → List (List Text)
published_of_page s after count = map (λ v. published s v.number) (page s after count)

-- a volume with other mutable parameters
abbrev pub with_mutable : TextMap → Volume → Volume
with_mutable m v = record v { mutable = m }

-- the volumes after the volume with this number, if it exists, got other mutable parameters
abbrev pub mutable_set : FinMap nat_cmp Volume → ℕ → TextMap → Option Volume → FinMap nat_cmp Volume
mutable_set volumes n m None = volumes
mutable_set volumes n m (Some v) = insert volumes n (with_mutable m v)

-- the State after a change
abbrev pub changed : State → Change → State
changed s (AddVolume v) = record s { next = s.next + 1; volumes = insert s.volumes v.number v }
changed s (RemoveVolume n) = record s { volumes = remove s.volumes n }
changed s (Attach n a) = record s { attachments = insert s.attachments (n, a.node) a }
changed s (Detach n node) = record s { attachments = remove s.attachments (n, node) }
changed s (DetachAll n) = record s { attachments = retain_keys s.attachments (λ p. not (p.0 == n)) }
changed s (SetMutable n m) = record s { volumes = mutable_set s.volumes n m (get s.volumes n) }

-- the State allows the change: a premise of the promise (that no volume has the number follows from the
-- invariant, which a keeper does not know)
abbrev pub Allows : State → Change → Type 0
Allows s (AddVolume v) = (v.number ≡ s.next) × (get s.volumes v.number ≡ None) × (named s v.name ≡ None)
Allows s (RemoveVolume n) = attached s n ≡ []
Allows s (Attach n a) = IsSome (get s.volumes n) × (get s.attachments (n, a.node) ≡ None)
Allows s (Detach n node) = ⊤
Allows s (DetachAll n) = ⊤
Allows s (SetMutable n m) = IsSome (get s.volumes n)

-- the bounds that a caller must keep
abbrev pub IsBounded : Change → Type 0
IsBounded (AddVolume v) = (v.number < 2 ^ 62) × (v.bytes ≤ 2 ^ 62) × AreOrdered v.caps
IsBounded (RemoveVolume n) = ⊤
IsBounded (Attach n a) = ⊤
IsBounded (Detach n node) = ⊤
IsBounded (DetachAll n) = ⊤
IsBounded (SetMutable n m) = map_bytes m ≤ MAX_MAP_BYTES
