use Rattle.std.proofs.Common.{◌≡◌, length, map, take}
use Rattle.std.specs.FinMap.{len}
use Rattle.std.specs.Map.Iter.{deref_pair}
use Rattle.csi_types.specs.Segments.{entry_of}
use Rattle.csi_types.proofs.topology.segments.put_segments.Given as goal

abbrev pub invariant-loop-key : goal.invariant-loop-key
invariant-loop-key l = record {
  long : length l.segments ≡ len l.topology;
  counted : l.count ≡ length l.yielded;
  put : map entry_of (take l.count l.segments) ≡ map deref_pair l.yielded;
}
