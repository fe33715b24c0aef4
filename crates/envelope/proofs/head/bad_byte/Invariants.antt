use Rattle.envelope.specs.Head.{AreGoodBytes}
use Rattle.envelope.proofs.head.bad_byte.Given as goal

abbrev pub invariant-loop-i : goal.invariant-loop-i
invariant-loop-i l = AreGoodBytes l.fn.kind l.bytes l.from l.end l.i
