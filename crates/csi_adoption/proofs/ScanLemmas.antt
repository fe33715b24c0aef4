-- One more row of meta.
use Rattle.std.proofs.Common.{◌≡◌, refl, List, [], ◌∷◌, ◌++◌}
use Rattle.sqlite.specs.Order.{Row}
use Rattle.csi_adoption.specs.Judging.{with_row, with_rows}
use Rattle.csi_adoption.specs.declared.meta.MetaRows.{MetaRows}

pub one_more : (seen : MetaRows) (rows : List Row) (row : Row) → with_rows seen (rows ++ row ∷ []) ≡ with_row (with_rows seen rows) row
one_more seen [] row = refl
one_more seen (r ∷ rows) row = one_more (with_row seen r) rows row
