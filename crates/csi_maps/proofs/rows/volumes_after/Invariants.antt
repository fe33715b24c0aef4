use Rattle.std.proofs.Common.{◌≡◌, ◌≤◌, map, length}
use Rattle.std.specs.Map.Iter.{deref_pair}
use Rattle.csi_maps.specs.Stored.{as_volume}
use Rattle.csi_maps.proofs.rows.volumes_after.Given as goal

abbrev pub invariant-loop-number : goal.invariant-loop-number
invariant-loop-number l = record {
  reported : l.copies ≡ map (λ e. as_volume e.0 e.1) (map deref_pair l.yielded);
  most : length l.copies ≤ l.count;
}
