use Rattle.std.proofs.Common.{◌≡◌, false, not, take}
use Rattle.std.specs.List.{list_any}
use Rattle.csi_types.specs.Topology.{same_topology}
use Rattle.csi_checks.proofs.topologies.is_any_outside.Given as goal

abbrev pub invariant-loop-topology : goal.invariant-loop-topology
invariant-loop-topology l =
    list_any (λ p. not (list_any (same_topology p) l.list)) (take l.topology-index l.topologies) ≡ false
