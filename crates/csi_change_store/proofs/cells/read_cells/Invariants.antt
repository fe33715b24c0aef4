use Rattle.std.proofs.Common.{◌≡◌, false, length}
use Rattle.csi_change_store.proofs.CellsLemmas.{Reading}
use Rattle.csi_change_store.proofs.cells.read_cells.Given as goal

abbrev pub invariant-loop-next : goal.invariant-loop-next
invariant-loop-next l = record {
  reading : Reading l.kinds l.payload l.fields.rest l.cells;
  sound : l.fields.failed ≡ false;
}

abbrev pub decreases-loop-next : goal.decreases-loop-next
decreases-loop-next l = length l.fields.rest
