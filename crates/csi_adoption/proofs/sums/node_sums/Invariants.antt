use Rattle.std.proofs.Common.{take}
use Rattle.std.specs.List.{AllZip}
use Rattle.csi_constraints.specs.declared.sums.Weight.TheVariants.{One}
use Rattle.csi_adoption.specs.Starting.{IsBegun}
use Rattle.csi_adoption.proofs.sums.node_sums.Given as goal

abbrev pub invariant-loop-node : goal.invariant-loop-node
invariant-loop-node l = AllZip (λ m sum. IsBegun 2 m.id One sum) (take l.node-index l.nodes) l.parts.items
