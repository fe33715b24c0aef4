use Rattle.std.specs.Io.KnownBytes.{Keeps}
use Rattle.csid_connections.specs.Calling.{GoesOnCall}
use Rattle.csid_connections.proofs.turn.Steps.read.Given as goal

abbrev pub invariant-loop : goal.invariant-loop
invariant-loop g l = Keeps (g.R.Read.remaining l.fn.reader) (g.R.Read.remaining l.reader) × GoesOnCall l.fn.self.clock l.self.clock
