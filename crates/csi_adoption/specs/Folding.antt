-- The folds over a table: their beginning, and each of their parts after rows.
use Rattle.std.specs.Prelude.{◌≡◌, ◌⊎◌, ℕ, Bool, false, List, [], ◌∷◌, Option, None, IfSome}
use Rattle.std.specs.List.{AllZip}
use Rattle.sqlite.specs.Order.{Row}
use Rattle.csi_config.specs.declared.config.Config.{Config}
use Rattle.csi_constraints.specs.Attachments.{has_flag, is_at_node}
use Rattle.csi_constraints.specs.Coded.{SaysMessage, has_cap, has_caps, has_params, key_at, keys_at, params_at}
use Rattle.csi_constraints.specs.Folds.{CountsRows, RisesOver, SumsText}
use Rattle.csi_constraints.specs.Kinds.{has_attachment_kinds, has_volume_kinds}
use Rattle.csi_constraints.specs.Named.{FindsBroken, FindsByTest}
use Rattle.csi_constraints.specs.Volumes.{is_in_pools, is_named, is_numbered, is_sized}
use Rattle.csi_constraints.specs.declared.sums.Weight.TheVariants.{Number, One}
use Rattle.csi_columns.specs.Encoding.{FitCaps, FitParams}
use Rattle.csi_adoption.specs.Starting.{IsBegun, IsRisingStart, IsUnbroken}
use Rattle.csi_adoption.specs.declared.attachments.AttachmentsFold.{AttachmentsFold}
use Rattle.csi_adoption.specs.declared.meta.Meta.{Meta}
use Rattle.csi_adoption.specs.declared.seen.AttachmentsSeen.{AttachmentsSeen}
use Rattle.csi_adoption.specs.declared.seen.VolumesSeen.{VolumesSeen}
use Rattle.csi_adoption.specs.declared.volumes.VolumesFold.{VolumesFold}

-- ---- over volumes

-- a fold over volumes before the first row
pub record BeginsVolumes (config : Config) (m : Meta) (fold : VolumesFold) : Type 0 where
  pub kinds : IsUnbroken 0 1 fold.kinds
  pub rising : IsRisingStart fold.rising
  pub next : fold.number.test.test.next ≡ m.next
  pub number : IsUnbroken 0 1 fold.number
  pub name : IsUnbroken 0 1 fold.name
  pub pools : fold.pool.test.test.config.now ≡ config
  pub pool : IsUnbroken 0 1 fold.pool
  pub bytes : IsUnbroken 0 1 fold.bytes
  pub caps : IsUnbroken 0 1 fold.caps
  pub format : fold.params.test.format ≡ m.format
  pub params : IsUnbroken 0 1 fold.params
  pub pool_bytes : AllZip (λ p sum. IsBegun 3 p.name (Number 2) sum) config.pools fold.pool_bytes.parts.items
  pub pool_volumes : AllZip (λ p sum. IsBegun 3 p.name One sum) config.pools fold.pool_volumes.parts.items
  pub none : fold.rows.rows ≡ 0

-- the row is the first one that a part finds to break its constraint
abbrev pub FindsFirst : {N : Type 0} → Option N → Bool → Type 0
FindsFirst found passes = (found ≡ None) × (passes ≡ false)

-- memory is asked for the name of the first row that breaks a constraint, and for a message that is read
pub data VolumeTakesMemory (fold : VolumesFold) (row : Row) : Type 0 where
  for_kinds : FindsFirst fold.kinds.found (has_volume_kinds row) → VolumeTakesMemory fold row
  for_number : FindsFirst fold.number.found (is_numbered fold.number.test.test.next row) → VolumeTakesMemory fold row
  for_name : FindsFirst fold.name.found (is_named row) → VolumeTakesMemory fold row
  for_pool : FindsFirst fold.pool.found (is_in_pools fold.pool.test.test.config.now.pools row) → VolumeTakesMemory fold row
  for_bytes : FindsFirst fold.bytes.found (is_sized row) → VolumeTakesMemory fold row
  for_caps : fold.caps.found ≡ None → SaysMessage 4 row ⊎ (has_caps row ≡ false) → VolumeTakesMemory fold row
  for_params : fold.params.found ≡ None → SaysMessage 5 row ⊎ (has_params fold.params.test.format row ≡ false) → VolumeTakesMemory fold row

-- a fold over volumes after rows
pub record FoldsVolumes (first : VolumesFold) (rows : List Row) (now : VolumesFold) : Type 0 where
  pub kinds : FindsByTest (λ _. has_volume_kinds) first.kinds rows now.kinds
  pub rising : RisesOver first.rising rows now.rising
  pub number : FindsByTest (λ test. is_numbered test.next) first.number rows now.number
  pub name : FindsByTest (λ _. is_named) first.name rows now.name
  pub pool : FindsByTest (λ test. is_in_pools test.config.now.pools) first.pool rows now.pool
  pub bytes : FindsByTest (λ _. is_sized) first.bytes rows now.bytes
  pub caps : FindsBroken (λ _. has_caps) (λ _ row. IfSome (keys_at 4 row) FitCaps) first.caps rows now.caps
  pub params : FindsBroken (λ test. has_params test.format) (λ _ row. IfSome (params_at 5 row) (λ ms. FitParams ms.0 ms.1)) first.params rows now.params
  pub pool_bytes : AllZip (λ a b. SumsText a rows b) first.pool_bytes.parts.items now.pool_bytes.parts.items
  pub pool_volumes : AllZip (λ a b. SumsText a rows b) first.pool_volumes.parts.items now.pool_volumes.parts.items
  pub rows_are : CountsRows first.rows rows now.rows

-- the result of a scan over volumes
abbrev pub volumes_seen : ℕ → VolumesFold → VolumesSeen
volumes_seen format fold = record {
  format = format;
  kinds = fold.kinds.found;
  number = fold.number.found;
  name = fold.name.found;
  pool = fold.pool.found;
  bytes = fold.bytes.found;
  caps = fold.caps.found;
  params = fold.params.found;
  pool_bytes = fold.pool_bytes.parts;
  pool_volumes = fold.pool_volumes.parts;
  rows = fold.rows.rows;
}

-- ---- over attachments

-- a fold over attachments before the first row
pub record BeginsAttachments (config : Config) (fold : AttachmentsFold) : Type 0 where
  pub kinds : IsUnbroken 0 2 fold.kinds
  pub rising : IsRisingStart fold.rising
  pub cap : IsUnbroken 1 2 fold.cap
  pub readonly : IsUnbroken 1 2 fold.readonly
  pub nodes : fold.node.test.test.config.now ≡ config
  pub node : IsUnbroken 1 2 fold.node
  pub node_volumes : AllZip (λ m sum. IsBegun 2 m.id One sum) config.nodes fold.node_volumes.parts.items

-- as `VolumeTakesMemory`, for a row of attachments
pub data AttachmentTakesMemory (fold : AttachmentsFold) (row : Row) : Type 0 where
  for_kinds : FindsFirst fold.kinds.found (has_attachment_kinds row) → AttachmentTakesMemory fold row
  for_cap : fold.cap.found ≡ None → SaysMessage 3 row ⊎ (has_cap row ≡ false) → AttachmentTakesMemory fold row
  for_readonly : FindsFirst fold.readonly.found (has_flag row) → AttachmentTakesMemory fold row
  for_node : FindsFirst fold.node.found (is_at_node fold.node.test.test.config.now.nodes row) → AttachmentTakesMemory fold row

-- a fold over attachments after rows
pub record FoldsAttachments (first : AttachmentsFold) (rows : List Row) (now : AttachmentsFold) : Type 0 where
  pub kinds : FindsByTest (λ _. has_attachment_kinds) first.kinds rows now.kinds
  pub rising : RisesOver first.rising rows now.rising
  pub cap : FindsBroken (λ _. has_cap) (λ _ row. IfSome (key_at 3 row) (λ key. FitCaps (key ∷ []))) first.cap rows now.cap
  pub readonly : FindsByTest (λ _. has_flag) first.readonly rows now.readonly
  pub node : FindsByTest (λ test. is_at_node test.config.now.nodes) first.node rows now.node
  pub node_volumes : AllZip (λ a b. SumsText a rows b) first.node_volumes.parts.items now.node_volumes.parts.items

-- the result of a scan over attachments
abbrev pub attachments_seen : AttachmentsFold → AttachmentsSeen
attachments_seen fold = record {
  kinds = fold.kinds.found;
  cap = fold.cap.found;
  readonly = fold.readonly.found;
  node = fold.node.found;
  node_volumes = fold.node_volumes.parts;
}
