use Rattle.std.proofs.Common.{take}
use Rattle.csi_keeper.proofs.page.fold_listed.Given as goal

abbrev pub invariant-loop-row : goal.invariant-loop-row
invariant-loop-row g l = record {
  folded : g.F.PageFold.folds l.fn.fold (take l.row-index l.listed) l.fold;
  kept : g.F.PageFold.keeps l.fn.fold l.fold;
}
