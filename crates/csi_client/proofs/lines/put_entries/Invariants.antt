use Rattle.std.proofs.Common.{◌≡◌, ◌++◌, drop}
use Rattle.csi_client.specs.Lines.{each, entry_line}
use Rattle.csi_client.proofs.lines.put_entries.Given as goal

abbrev pub invariant-loop-entry : goal.invariant-loop-entry
invariant-loop-entry l = l.out.items ++ each entry_line (drop l.entry-index l.entries) ≡ l.fn.out.items ++ each entry_line l.entries
