-- How a scan fails.
use Rattle.sqlite.specs.Held.{Held}
use Rattle.sqlite.specs.Store.{Ghosts}
use Rattle.sqlite.specs.declared.error.Error.{Error}
use Rattle.csi_sql.specs.Folding.{GivesTooMany}
use Rattle.csi_constraints.specs.Texts.{Scan, text}

module _ {S : Type 0} (g : Ghosts S) (old : Held S) where
  -- one of the scans has too many rows
  abbrev pub HasTooMany : Error → Type 0
  HasTooMany e = (scan : Scan) × GivesTooMany g (text scan) old e
