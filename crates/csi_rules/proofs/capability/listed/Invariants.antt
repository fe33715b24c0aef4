use Rattle.std.proofs.Common.{◌≡◌}
use Rattle.csi_rules.proofs.capability.listed.Given as goal

abbrev pub invariant-loop-key : goal.invariant-loop-key
invariant-loop-key l = l.keys ≡ l.yielded
