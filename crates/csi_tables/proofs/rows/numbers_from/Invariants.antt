use Rattle.std.proofs.Common.{◌≡◌, ℕ, List, [], ◌∷◌, map, take}
use Rattle.csi_sql.specs.Rows.{number_value}
use Rattle.csi_tables.specs.Reading.{AreReadOf, ShowsNumber}
use Rattle.csi_tables.proofs.rows.numbers_from.Given as goal

abbrev pub invariant-loop-row : goal.invariant-loop-row
invariant-loop-row l = ((ns : List ℕ) → l.rows ≡ map (λ n. number_value n ∷ []) ns → l.numbers ≡ take l.row-index ns) × AreReadOf ShowsNumber (take l.row-index l.rows) l.numbers
