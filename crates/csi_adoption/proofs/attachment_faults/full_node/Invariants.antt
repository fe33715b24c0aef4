use Rattle.std.proofs.Common.{◌≡◌}
use Rattle.std.specs.Iterator.Adapters.{zip_first, zip_second}
use Rattle.std.specs.Slice.Iter.{iter_rest}
use Rattle.csi_adoption.specs.Faults.{full_node}
use Rattle.csi_adoption.specs.Seen.{sums_of}
use Rattle.csi_adoption.proofs.attachment_faults.full_node.Given as goal

-- the first full node of all nodes is the first full one of the nodes that are left
abbrev pub invariant-loop-node : goal.invariant-loop-node
invariant-loop-node l =
    (goal.iterator-loop-node).can_next l.node-iterator
    × (goal.iterator-loop-node).is_finite l.node-iterator
    × (full_node l.nodes (sums_of l.volumes) ≡ full_node (iter_rest (zip_first l.node-iterator)) (sums_of (iter_rest (zip_second l.node-iterator))))
