use Rattle.std.proofs.Common.{◌≡◌, take}
use Rattle.csi_keeper.specs.Capability.{ordered}
use Rattle.csi_rules.proofs.capability.set_of.Given as goal

abbrev pub invariant-loop-key : goal.invariant-loop-key
invariant-loop-key l = l.set.keys ≡ ordered (take l.key-index l.keys)
