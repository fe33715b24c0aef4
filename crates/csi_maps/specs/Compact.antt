-- A map that is kept only if it has entries.
use Rattle.std.specs.Prelude.{Option, Some, None}
use Rattle.std.specs.FinMap.{empty}
use Rattle.csi_types.specs.Maps.{TextMap}

abbrev pub or_empty : Option TextMap → TextMap
or_empty None = empty
or_empty (Some m) = m
