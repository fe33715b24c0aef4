use Rattle.std.proofs.Common.{rules, inr}
use Rattle.csid_connections.proofs.clock.CallClock.left_for_others.Goals as goal

pub returns-in-Some : goal.returns-in-Some
returns-in-Some c = inr (search rules, search rules, (c.left_of-shared.result, c.left_of-own.result, search rules, search rules, search rules))
