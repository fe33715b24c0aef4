use Rattle.std.proofs.Common.{◌≡◌, ◌++◌}
use Rattle.std.specs.FinMap.{entries}
use Rattle.csi_client.specs.Lines.{each, context_line}
use Rattle.csi_client.proofs.lines.put_context.Given as goal

abbrev pub invariant-loop-key : goal.invariant-loop-key
invariant-loop-key l = l.out.items ++ each context_line l.key-iterator ≡ l.fn.out.items ++ each context_line (entries l.context)
