use Rattle.std.proofs.Common.{◌≡◌, false, take}
use Rattle.std.specs.List.{list_any}
use Rattle.csi_types.specs.Topology.{same_topology}
use Rattle.csi_checks.proofs.topologies.is_among.Given as goal

abbrev pub invariant-loop-candidate : goal.invariant-loop-candidate
invariant-loop-candidate l = list_any (same_topology l.topology) (take l.candidate-index l.list) ≡ false
