-- A new volume, made of the parts that its response is written from.
use Rattle.std.specs.Prelude.{List, [], ◌∷◌, ◌++◌, ◌==◌, if◌then◌else◌}
use Rattle.std.specs.FinMap.{empty, insert, len}
use Rattle.csi_types.specs.Maps.{TextMap}
use Rattle.csi_types.specs.declared.volume.VolumeInfo.{VolumeInfo}
use Rattle.csi_codec.specs.declared.created.CreatedVolume.{CreatedVolume}

-- the topology with these segments; no topology if there are no segments
abbrev pub topology_of : TextMap → List TextMap
topology_of segments = if len segments == 0 then [] else segments ∷ []

abbrev pub created_volume : CreatedVolume → VolumeInfo
created_volume v = record {
  bytes = v.bytes;
  id = v.prefix.now ++ v.suffix.now;
  context = insert empty v.key.now v.value.now;
  topology = topology_of v.segments.now;
}
