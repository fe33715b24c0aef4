use Rattle.std.proofs.Common.{◌≡◌, drop}
use Rattle.csi_keeper.specs.Capability.{have_keys}
use Rattle.csi_rules.proofs.capability.have_all.Given as goal

-- all capabilities have their keys if the capabilities that are left do
abbrev pub invariant-loop-capability : goal.invariant-loop-capability
invariant-loop-capability l = have_keys l.keys.keys (drop l.capability-index l.capabilities) ≡ have_keys l.keys.keys l.capabilities
