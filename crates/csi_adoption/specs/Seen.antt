-- The results of scans, in the form that definitions use.
use Rattle.std.specs.Prelude.{ℕ, List, map, Option}
use Rattle.csi_constraints.specs.declared.sums.TextSum.{TextSum}
use Rattle.csi_constraints.specs.declared.named.RowName.{RowName}
use Rattle.csi_adoption.specs.declared.seen.AttachmentsSeen.{AttachmentsSeen}
use Rattle.csi_adoption.specs.declared.seen.VolumesSeen.{VolumesSeen}

-- the first volume that breaks each constraint, the bytes and the number of each pool's volumes, and the
-- number of all volumes
pub record VolumesFound : Type 0 where
  pub kinds : Option RowName
  pub number : Option RowName
  pub name : Option RowName
  pub pool : Option RowName
  pub bytes : Option RowName
  pub caps : Option RowName
  pub params : Option RowName
  pub pool_bytes : List ℕ
  pub pool_volumes : List ℕ
  pub rows : ℕ

-- the first attachment that breaks each constraint, and the number of attachments at each node
pub record AttachmentsFound : Type 0 where
  pub kinds : Option RowName
  pub cap : Option RowName
  pub readonly : Option RowName
  pub node : Option RowName
  pub node_volumes : List ℕ

abbrev pub sums_of : List TextSum → List ℕ
sums_of parts = map (λ t. t.sum) parts

abbrev pub reported_volumes : VolumesSeen → VolumesFound
reported_volumes seen = record {
  kinds = seen.kinds;
  number = seen.number;
  name = seen.name;
  pool = seen.pool;
  bytes = seen.bytes;
  caps = seen.caps;
  params = seen.params;
  pool_bytes = sums_of seen.pool_bytes.items;
  pool_volumes = sums_of seen.pool_volumes.items;
  rows = seen.rows;
}

abbrev pub reported_attachments : AttachmentsSeen → AttachmentsFound
reported_attachments seen = record {
  kinds = seen.kinds;
  cap = seen.cap;
  readonly = seen.readonly;
  node = seen.node;
  node_volumes = sums_of seen.node_volumes.items;
}
