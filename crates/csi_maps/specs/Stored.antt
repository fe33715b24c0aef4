-- A volume as it is kept in memory.
use Rattle.std.specs.Prelude.{ℕ, List, map}
use Rattle.csi_keeper.specs.declared.volume.Volume.{Volume}
use Rattle.csi_maps.specs.declared.stored.StoredVolume.{StoredVolume}

-- the volume that is kept under a number
abbrev pub as_volume : ℕ → StoredVolume → Volume
as_volume n v = record { number = n; name = v.name; bytes = v.bytes; pool = v.pool; caps = v.caps; params = v.params; mutable = v.mutable }

-- the volumes that are kept
abbrev pub as_volumes : List (ℕ × StoredVolume) → List (ℕ × Volume)
as_volumes es = map (λ e. (e.0, as_volume e.0 e.1)) es
