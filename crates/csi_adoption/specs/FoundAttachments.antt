-- The attachments that rows represent, together with the volumes that other rows represent.
use Rattle.std.specs.Prelude.{◌≡◌, ℕ, ◌≤◌, true, List, Some, IsSome, IsPermutation, length, map, filter, bytes_eq}
use Rattle.std.specs.FinMap.{FinMap, entries, get}
use Rattle.std.specs.List.{AllByRecursion, list_all}
use Rattle.std.specs.Ordering.{nat_cmp}
use Rattle.sqlite.specs.Order.{Row}
use Rattle.sqlite.specs.Tree.{Trees}
use Rattle.sqlite_catalog.specs.Listing.{IsSound}
use Rattle.csi_config.specs.Values.{Has}
use Rattle.csi_config.specs.declared.config.Config.{Config}
use Rattle.csi_config.specs.declared.nodes.Node.{Node}
use Rattle.csi_keeper.specs.Capability.{has_key}
use Rattle.csi_keeper.specs.Coexistence.{coexist}
use Rattle.csi_keeper.specs.Invariant.{IsInvariant, IsVolume}
use Rattle.csi_keeper.specs.Lookup.{node_of}
use Rattle.csi_keeper.specs.State.{State, attachment_key_cmp}
use Rattle.csi_keeper.specs.Texts.{Text}
use Rattle.csi_keeper.specs.declared.volume.Attachment.{Attachment}
use Rattle.csi_keeper.specs.declared.volume.Volume.{Volume}
use Rattle.csi_sql.specs.Rows.{seen_attachment, seen_volume}
use Rattle.csi_sql.specs.Tables.{schema}
use Rattle.csi_constraints.specs.Scans.{IsInOrder, keyed_attachment, owners}
use Rattle.csi_constraints.specs.Apart.{NoneApart}
use Rattle.csi_constraints.specs.Joins.{is_owned}
use Rattle.csi_sql.specs.Effects.{AreKeyed}
use Rattle.csi_columns.specs.Entries.{attachment_entry, volume_entry}
use Rattle.csi_tables.specs.Holding.{IsPlaced, IsRowsOf, IsStored}
use Rattle.csi_adoption.specs.Passing.{AttachmentsAreKnown, AttachmentsPass}

-- an attachment that may exist at a number and a node if these are the volumes
pub record StandsAmong (config : Config) (volumes : FinMap nat_cmp Volume) (n : ℕ) (node : Text) (a : Attachment) : Type 0 where
  pub at : a.node ≡ node
  pub known : IsSome (node_of config node)
  pub volume : Volume
  pub stands : get volumes n ≡ Some volume
  pub cap : has_key volume.caps (Some a.cap) ≡ true

-- the rows of the table represent attachments that a State with these volumes may have
pub record FoundAttachments (config : Config) (volumes : FinMap nat_cmp Volume) (db : Trees) : Type 0 where
  pub attachments : FinMap attachment_key_cmp Attachment
  pub listed : IsPermutation (map attachment_entry (entries attachments)) (map seen_attachment (db 3))
  pub placed : AllByRecursion IsPlaced (entries attachments)
  pub keyed : AreKeyed seen_attachment (db 3)
  pub each : (n : ℕ) (node : Text) (a : Attachment) → get attachments (n, node) ≡ Some a → StandsAmong config volumes n node a
  -- any two attachments of a volume coexist
  pub beside : (n : ℕ) (d e : Text) (a b : Attachment) → get attachments (n, d) ≡ Some a → get attachments (n, e) ≡ Some b → (d ≡ e → ⊥) → coexist a b ≡ true
  -- no node holds more volumes than it may
  pub nodes : (m : Node) → Has config.nodes m → length (map (λ e. e.0.0) (filter (λ e. bytes_eq e.0.1 m.id) (entries attachments))) ≤ m.max_volumes

-- ---- laws

-- tables that pass every constraint have attachments, if the rows of volumes represent these volumes
abbrev pub AttachmentsAreFound : Type 0
AttachmentsAreFound =
    (config : Config) (next : ℕ) (db : Trees) (volumes : FinMap nat_cmp Volume) (volumes_in_order rows owned places : List Row)
    → IsSound schema db
    → IsInOrder (map seen_volume (db 1)) volumes_in_order → map volume_entry (entries volumes) ≡ volumes_in_order → AllByRecursion IsStored (entries volumes)
    → ((n : ℕ) (v : Volume) → get volumes n ≡ Some v → IsVolume config next n v)
    → IsInOrder (map keyed_attachment (db 3)) rows → AttachmentsPass config rows → AttachmentsAreKnown rows
    → IsPermutation (owners (db 3) (db 1)) owned → list_all is_owned owned ≡ true
    → IsPermutation (map seen_attachment (db 3)) places → NoneApart places
    → FoundAttachments config volumes db

-- the rows of a State's attachments pass every constraint of attachments
abbrev pub AttachmentsDoPass : Type 0
AttachmentsDoPass =
    (config : Config) (format : ℕ) (s : State) (db : Trees) (rows : List Row)
    → IsRowsOf format s db → IsInvariant config s → IsInOrder (map keyed_attachment (db 3)) rows → AttachmentsPass config rows

-- each attachment of a State passes together with its volume
abbrev pub OwnersDoPass : Type 0
OwnersDoPass = (config : Config) (format : ℕ) (s : State) (db : Trees) (owned : List Row) → IsRowsOf format s db → IsInvariant config s
    → IsPermutation (owners (db 3) (db 1)) owned → list_all is_owned owned ≡ true

-- no two attachments of a State are apart
abbrev pub PlacesDoPass : Type 0
PlacesDoPass = (config : Config) (format : ℕ) (s : State) (db : Trees) (places : List Row) → IsRowsOf format s db → IsInvariant config s
    → IsPermutation (map seen_attachment (db 3)) places → NoneApart places
