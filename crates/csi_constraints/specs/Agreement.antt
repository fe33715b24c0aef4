-- A row that represents a volume or an attachment passes a constraint exactly if a State may have the volume
-- or the attachment.
use Rattle.std.specs.Prelude.{◌≡◌, ℕ, ◌≤◌, ◌<◌, true, false, not, List, [], ◌∷◌, ◌++◌, None, Some, IsSome, IsUtf8}
use Rattle.std.specs.Bool.{Decides}
use Rattle.std.specs.FinMap.{empty}
use Rattle.sqlite.specs.Order.{Row}
use Rattle.sqlite.specs.declared.types.Value.{Value}
use Rattle.sqlite.specs.declared.types.Value.TheVariants.{Blob}
use Rattle.csi_types.specs.Checks.{map_bytes}
use Rattle.csi_types.specs.Names.{refused_name}
use Rattle.csi_types.specs.declared.limits.TheConstants.{MAX_MAP_BYTES}
use Rattle.csi_config.specs.Faults.{is_whole}
use Rattle.csi_config.specs.declared.config.Config.{Config}
use Rattle.csi_keeper.specs.Capability.{has_key, is_supported_key}
use Rattle.csi_keeper.specs.Coexistence.{coexist}
use Rattle.csi_keeper.specs.Invariant.{AreKeys}
use Rattle.csi_keeper.specs.Lookup.{node_of, pool_named}
use Rattle.csi_keeper.specs.State.{AttachmentKey}
use Rattle.csi_keeper.specs.declared.capability.CapKey.{CapKey}
use Rattle.csi_keeper.specs.declared.volume.Attachment.{Attachment}
use Rattle.csi_keeper.specs.declared.volume.Volume.{Volume}
use Rattle.csi_sql.specs.declared.formats.TheConstants.{FIRST_FORMAT}
use Rattle.csi_constraints.specs.Scans.{with_owner}
use Rattle.csi_columns.specs.Encoding.{caps_bytes, FitCaps, FitParams}
use Rattle.csi_columns.specs.Entries.{attachment_entry, volume_entry}
use Rattle.csi_constraints.specs.Apart.{are_apart}
use Rattle.csi_constraints.specs.Attachments.{has_flag, is_at_node}
use Rattle.csi_constraints.specs.Coded.{has_cap, has_caps, has_params}
use Rattle.csi_constraints.specs.Joins.{is_owned}
use Rattle.csi_constraints.specs.Kinds.{has_attachment_kinds, has_volume_kinds}
use Rattle.csi_constraints.specs.Volumes.{is_in_pools, is_named, is_numbered, is_sized}

-- an attachment's row after its rowid
abbrev pub keyed_entry : Value → AttachmentKey × Attachment → Row
keyed_entry rowid e = rowid ∷ attachment_entry e

-- the row of a volume, whose name and pool are texts, in tables of a format
pub record VolumeAgrees (config : Config) (format next : ℕ) (e : ℕ × Volume) : Type 0 where
  pub kinds : IsUtf8 e.1.name → IsUtf8 e.1.pool → has_volume_kinds (volume_entry e) ≡ true
  pub number : Decides (is_numbered next (volume_entry e)) ((1 ≤ e.0) × (e.0 < next))
  pub name : IsUtf8 e.1.name → Decides (is_named (volume_entry e)) (refused_name e.1.name ≡ None)
  pub pool : Decides (is_in_pools config.pools (volume_entry e)) (IsSome (pool_named config.pools e.1.pool))
  pub bytes : Decides (is_sized (volume_entry e)) (is_whole e.1.bytes ≡ true)
  pub caps : FitCaps e.1.caps → Decides (has_caps (volume_entry e)) (AreKeys e.1.caps)
  pub params : FitParams e.1.params e.1.mutable
      → Decides (has_params format (volume_entry e)) ((map_bytes e.1.params ≤ MAX_MAP_BYTES) × (map_bytes e.1.mutable ≤ MAX_MAP_BYTES)
      × (format ≡ FIRST_FORMAT → e.1.mutable ≡ empty))

-- the row of an attachment, whose node is a text
pub record AttachmentAgrees (config : Config) (rowid : Value) (e : AttachmentKey × Attachment) : Type 0 where
  pub kinds : IsUtf8 e.0.1 → has_attachment_kinds (keyed_entry rowid e) ≡ true
  pub readonly : has_flag (keyed_entry rowid e) ≡ true
  pub node : Decides (is_at_node config.nodes (keyed_entry rowid e)) (IsSome (node_of config e.0.1))
  pub cap : FitCaps (e.1.cap ∷ []) → Decides (has_cap (keyed_entry rowid e)) (is_supported_key e.1.cap ≡ true)

-- an attachment's row with the caps of a volume after it
abbrev pub owned_entry : AttachmentKey × Attachment → List CapKey → Row
owned_entry e «keys» = attachment_entry e ++ Blob (caps_bytes «keys») ∷ []

-- an attachment and its volume, both with capabilities that pass; and an attachment without a volume
pub record OwnerAgrees (e : AttachmentKey × Attachment) («keys» : List CapKey) : Type 0 where
  pub owned : FitCaps (e.1.cap ∷ []) → is_supported_key e.1.cap ≡ true → FitCaps «keys» → AreKeys «keys»
      → is_owned (owned_entry e «keys») ≡ has_key «keys» (Some e.1.cap)
  pub unowned : (row : Row) → is_owned (with_owner row []) ≡ false

-- the rows of two attachments, both with a capability that passes
pub record PairAgrees (e f : AttachmentKey × Attachment) : Type 0 where
  -- attachments of one volume
  pub beside : e.0.0 ≡ f.0.0 → FitCaps (e.1.cap ∷ []) → is_supported_key e.1.cap ≡ true → FitCaps (f.1.cap ∷ []) → is_supported_key f.1.cap ≡ true
      → are_apart (attachment_entry e) (attachment_entry f) ≡ not (coexist e.1 f.1)
  -- attachments of two volumes
  pub other : (e.0.0 ≡ f.0.0 → ⊥) → are_apart (attachment_entry e) (attachment_entry f) ≡ false
