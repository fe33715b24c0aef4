use Rattle.std.proofs.Common.{◌≡◌, take}
use Rattle.csi_machine.proofs.validate.copy_capabilities.Given as goal

abbrev pub invariant-loop-capability : goal.invariant-loop-capability
invariant-loop-capability l = l.copies ≡ take l.capability-index l.capabilities
