use Rattle.csi_vectors.specs.Running.{AreRun}
use Rattle.csi_vectors.proofs.running.run_lines.Given as goal

-- `count` lines were run
abbrev pub invariant-loop-count : goal.invariant-loop-count
invariant-loop-count g l = AreRun l.fn.config (g.B.Read.remaining l.initial.reader) (g.W.Write.contents l.initial.writer) l.count (g.B.Read.remaining l.reader) (g.W.Write.contents l.writer) l.failed
