-- A fold over no rows changes nothing.
use Rattle.std.specs.Prelude.{[]}
use Rattle.csi_constraints.specs.Folds.{SumsText}
use Rattle.csi_constraints.specs.facts.Starts.{counts_none, each_itself, finds_none, rises_over_none, sums_none}
use Rattle.csi_adoption.specs.Folding.{FoldsAttachments, FoldsVolumes}
use Rattle.csi_adoption.specs.declared.attachments.AttachmentsFold.{AttachmentsFold}
use Rattle.csi_adoption.specs.declared.volumes.VolumesFold.{VolumesFold}

pub volumes_start : (fold : VolumesFold) → FoldsVolumes fold [] fold
volumes_start fold = record {
  kinds = finds_none _ _ fold.kinds;
  rising = rises_over_none fold.rising;
  number = finds_none _ _ fold.number;
  name = finds_none _ _ fold.name;
  pool = finds_none _ _ fold.pool;
  bytes = finds_none _ _ fold.bytes;
  caps = finds_none _ _ fold.caps;
  params = finds_none _ _ fold.params;
  pool_bytes = each_itself (λ a b. SumsText a [] b) sums_none fold.pool_bytes.parts.items;
  pool_volumes = each_itself (λ a b. SumsText a [] b) sums_none fold.pool_volumes.parts.items;
  rows_are = counts_none fold.rows;
}

pub attachments_start : (fold : AttachmentsFold) → FoldsAttachments fold [] fold
attachments_start fold = record {
  kinds = finds_none _ _ fold.kinds;
  rising = rises_over_none fold.rising;
  cap = finds_none _ _ fold.cap;
  readonly = finds_none _ _ fold.readonly;
  node = finds_none _ _ fold.node;
  node_volumes = each_itself (λ a b. SumsText a [] b) sums_none fold.node_volumes.parts.items;
}
