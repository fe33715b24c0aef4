use Rattle.std.proofs.Common.{◌≡◌, ℕ, List, map, take}
use Rattle.std.specs.List.{AllByRecursion}
use Rattle.csi_keeper.specs.declared.volume.Volume.{Volume}
use Rattle.csi_columns.specs.Entries.{volume_entry}
use Rattle.csi_tables.specs.Holding.{IsStored}
use Rattle.csi_tables.specs.Reading.{AreReadOf, ShowsVolume}
use Rattle.csi_tables.proofs.rows.volumes_from.Given as goal

abbrev pub invariant-loop-row : goal.invariant-loop-row
invariant-loop-row l = ((es : List (ℕ × Volume)) → AllByRecursion IsStored es → l.rows ≡ map volume_entry es → l.volumes ≡ map (λ e. e.1) (take l.row-index es)) × AreReadOf ShowsVolume (take l.row-index l.rows) l.volumes
