use Rattle.std.proofs.Common.{◌≡◌, ◌≤◌, map, length}
use Rattle.std.specs.Map.Iter.{deref_pair}
use Rattle.csi_maps.specs.Rows.{nodes_in}
use Rattle.csi_maps.specs.Walking.{IsOver}
use Rattle.csi_maps.proofs.rows.nodes_after.Given as goal

abbrev pub invariant-loop-number : goal.invariant-loop-number
invariant-loop-number l = record {
  reported : l.nodes ≡ map (λ e. nodes_in l.attachments.entries e.0) (map deref_pair l.yielded);
  most : length l.nodes ≤ l.count;
  over : IsOver l.attachments.entries l.walk;
}
