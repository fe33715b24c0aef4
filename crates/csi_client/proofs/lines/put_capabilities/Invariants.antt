use Rattle.std.proofs.Common.{◌≡◌, ◌++◌, drop}
use Rattle.csi_client.specs.Lines.{each, capability_line}
use Rattle.csi_client.proofs.lines.put_capabilities.Given as goal

abbrev pub invariant-loop-number : goal.invariant-loop-number
invariant-loop-number l = l.out.items ++ each capability_line (drop l.number-index l.types) ≡ l.fn.out.items ++ each capability_line l.types
