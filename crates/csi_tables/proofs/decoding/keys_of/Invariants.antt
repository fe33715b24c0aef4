use Rattle.std.proofs.Common.{◌≡◌, Some, map, take}
use Rattle.csi_keeper.specs.Capability.{key_of}
use Rattle.csi_tables.proofs.decoding.keys_of.Given as goal

abbrev pub invariant-loop-capability : goal.invariant-loop-capability
invariant-loop-capability l = map Some l.«keys» ≡ map key_of (take l.capability-index l.capabilities)
