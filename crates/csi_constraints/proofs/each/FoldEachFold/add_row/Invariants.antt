use Rattle.std.proofs.Common.{◌≡◌, ◌++◌, ◌∷◌, [], List, ℕ, ◌<◌, ◌≤◌, length, get_or}
use Rattle.sqlite.specs.Order.{Row as Values}
use Rattle.csi_constraints.proofs.each.FoldEachFold.add_row.Given as goal

abbrev pub invariant-loop-part : goal.invariant-loop-part
invariant-loop-part g l =
    (length l.part-items ≡ length l.initial.part-items)
    × ((k : ℕ) (d : g.row.F.Denot) → k < l.part-index → (first : g.row.F.Denot) (rows : List Values) → g.F.Fold.folds first rows (get_or l.initial.part-items k d) → g.F.Fold.folds first (rows ++ l.row ∷ []) (get_or l.part-items k d))
    × ((k : ℕ) (d : g.row.F.Denot) → l.part-index ≤ k → get_or l.part-items k d ≡ get_or l.initial.part-items k d)
