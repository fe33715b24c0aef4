use Rattle.pbwire.proofs.CloseLemmas.{closed, after_empty}
use Rattle.pbwire.proofs.laws.closed.Goals as goal

pub returns-clause-begins : goal.returns-clause-begins
returns-clause-begins c = after_empty

pub returns-clause-spelled : goal.returns-clause-spelled
returns-clause-spelled c = closed
