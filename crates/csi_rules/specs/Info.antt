-- The answer about a volume (CSI specification, 'CreateVolume', the message Volume).
use Rattle.std.specs.Prelude.{ℕ, ℤ, pos, ◌-◌, ◌^◌, ◌==◌, min, List, [], ◌∷◌, Option, None, Some, codes, if◌then◌else◌}
use Rattle.std.specs.FinMap.{empty, insert, len}
use Rattle.csi_types.specs.Maps.{TextMap}
use Rattle.csi_types.specs.declared.volume.VolumeInfo.{VolumeInfo}
use Rattle.csi_config.specs.declared.config.Config.{Config}
use Rattle.csi_config.specs.declared.pools.Pool.{Pool}
use Rattle.csi_keeper.specs.Lookup.{pool_named}
use Rattle.csi_keeper.specs.declared.volume.Volume.{Volume}
use Rattle.csi_rules.specs.Ids.{id}
use Rattle.csi_keeper.specs.Texts.{Text}

-- the number as an int64, at most the greatest one
abbrev pub signed : ℕ → ℤ
signed n = pos (min n (2 ^ 63 - 1))

abbrev pub segments_of : Option Pool → TextMap
segments_of None = empty
segments_of (Some p) = p.segments

-- the segments of the pool with this name
abbrev pub segments_at : Config → Text → TextMap
segments_at config pool = segments_of (pool_named config.pools pool)

-- the topology with these segments; no topology if there are no segments
abbrev pub topology_of : TextMap → List TextMap
topology_of segments = if len segments == 0 then [] else segments ∷ []

-- the answer about a volume whose pool has these segments
abbrev pub info_at : TextMap → Volume → VolumeInfo
info_at segments v = record { bytes = signed v.bytes; id = id v.number; context = insert empty (codes "pool") v.pool; topology = topology_of segments }

-- the answer about a volume
abbrev pub info : Config → Volume → VolumeInfo
info config v = info_at (segments_at config v.pool) v
