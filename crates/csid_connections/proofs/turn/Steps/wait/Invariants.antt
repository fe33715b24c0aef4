use Rattle.csid_connections.specs.Calling.{GoesOnCall}
use Rattle.csid_connections.proofs.turn.Steps.wait.Given as goal

abbrev pub invariant-loop : goal.invariant-loop
invariant-loop g l = GoesOnCall l.fn.self.clock l.self.clock
