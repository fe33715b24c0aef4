use Rattle.std.proofs.Common.{◌≡◌, take}
use Rattle.csi_keeper.specs.Capability.{keys_of}
use Rattle.csi_rules.proofs.capability.key_set.Given as goal

abbrev pub invariant-loop-capability : goal.invariant-loop-capability
invariant-loop-capability l = l.keys.keys ≡ keys_of (take l.capability-index l.capabilities)
