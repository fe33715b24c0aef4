use Rattle.std.proofs.Common.{◌≡◌, ◌+◌, map, length}
use Rattle.std.specs.Map.Iter.{deref_pair}
use Rattle.csi_maps.specs.Rows.{listed_in}
use Rattle.csi_maps.specs.Stored.{as_volume}
use Rattle.csi_maps.specs.Walking.{IsOver}
use Rattle.csi_maps.proofs.rows.fold_after.Given as goal

abbrev pub invariant-loop-number : goal.invariant-loop-number
invariant-loop-number g l = record {
  folded : g.F.PageFold.folds l.fn.fold (map (λ e. listed_in l.attachments.entries (as_volume e.0 e.1)) (map deref_pair l.yielded)) l.fold;
  kept : g.F.PageFold.keeps l.fn.fold l.fold;
  left : length l.yielded + l.left ≡ l.count;
  over : IsOver l.attachments.entries l.walk;
}
