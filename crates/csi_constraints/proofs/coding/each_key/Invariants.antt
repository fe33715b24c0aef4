use Rattle.std.proofs.Common.{◌≡◌, ◌++◌, drop}
use Rattle.std.specs.Option.{option_map}
use Rattle.csi_constraints.specs.Coding.{each_key}
use Rattle.csi_constraints.proofs.coding.each_key.Given as goal

abbrev pub invariant-loop-capability : goal.invariant-loop-capability
invariant-loop-capability l = each_key l.capabilities ≡ option_map (λ rest. l.«keys» ++ rest) (each_key (drop l.capability-index l.capabilities))
