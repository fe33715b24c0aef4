use Rattle.std.proofs.Common.{◌≡◌, ◌++◌, length}
use Rattle.csi_types.proofs.map.entering.move_from.Given as goal

abbrev pub invariant-loop-listed : goal.invariant-loop-listed
invariant-loop-listed l = l.listed.items ++ l.tree.entries ≡ l.fn.listed.items ++ l.fn.tree.entries

abbrev pub decreases-loop-listed : goal.decreases-loop-listed
decreases-loop-listed l = length l.listed.items
