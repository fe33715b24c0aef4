-- The State that rows, indexes and totals represent.
use Rattle.std.specs.Prelude.{◌≡◌, ℕ, ◌<◌, ◌≤◌, ◌^◌, List, Some}
use Rattle.std.specs.FinMap.{get, len}
use Rattle.csi_keeper.specs.declared.volume.Attachment.{Attachment}
use Rattle.csi_keeper.specs.declared.volume.Volume.{Volume}
use Rattle.csi_keeper.specs.declared.totals.Totals.{Totals}
use Rattle.csi_keeper.specs.Totals.{AreTotals}
use Rattle.csi_keeper.specs.State.{State, AttachmentKey}
use Rattle.csi_keeper.specs.Texts.{Text}
use Rattle.csi_maps.specs.Hashing.{name_hash}
use Rattle.csi_maps.specs.Rows.{volumes_of, places_of, Nodes, AreSpotted}
use Rattle.csi_maps.specs.Naming.{Lists, at_hash, at_text}
use Rattle.csi_maps.specs.declared.names.Names.{Names}

-- rows, an index of names, an index of nodes and kept totals represent a State
pub record IsKept (next : ℕ) (volumes : List (ℕ × Volume)) (names : Names) (pools : Totals)
    (attachments : List (AttachmentKey × Attachment)) (spots : Nodes) (s : State) : Type 0 where
  pub next_is : s.next ≡ next
  pub volumes_are : s.volumes ≡ volumes_of volumes
  pub attachments_are : s.attachments ≡ places_of attachments
  pub named : (n : ℕ) (v : Volume) → get s.volumes n ≡ Some v → Lists names v.name n
  -- and each number in the index belongs to a volume with this hash or this name
  pub hashes_stand : (h n : ℕ) → at_hash names h ≡ Some n → (v : Volume) × (get s.volumes n ≡ Some v) × (name_hash v.name ≡ h)
  pub texts_stand : (q : Text) (n : ℕ) → at_text names q ≡ Some n → (v : Volume) × (get s.volumes n ≡ Some v) × (v.name ≡ q)
  -- no two volumes share a name
  pub single : (n m : ℕ) (v w : Volume) → get s.volumes n ≡ Some v → get s.volumes m ≡ Some w → v.name ≡ w.name → n ≡ m
  pub totals : AreTotals pools s
  pub spotted : AreSpotted attachments spots
  -- so neither total overflows
  pub few : len s.volumes < s.next
  pub small : (n : ℕ) (v : Volume) → get s.volumes n ≡ Some v → v.bytes ≤ 2 ^ 62
