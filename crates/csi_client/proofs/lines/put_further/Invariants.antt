use Rattle.std.proofs.Common.{◌≡◌, ◌++◌, drop}
use Rattle.csi_client.specs.Lines.{further}
use Rattle.csi_client.proofs.lines.put_further.Given as goal

abbrev pub invariant-loop-node : goal.invariant-loop-node
invariant-loop-node l = l.out.items ++ further (drop l.node-index l.nodes) ≡ l.fn.out.items ++ further l.nodes
