use Rattle.std.proofs.Common.{rules}
use Rattle.csid_connections.proofs.WaitingLemmas.{turns_off, turns_on}
use Rattle.csid_connections.proofs.waiting.Waiting.look_at_first.Goals as goal

pub returns-in-None-clause-turns : goal.returns-in-None-clause-turns
returns-in-None-clause-turns c = turns_on _ _ _ _ c.pop_front.new.self.items _ c.in_ok-one.one c.ending_of.new.one (search rules) (search rules) (search rules)

pub returns-in-Some-clause-turns : goal.returns-in-Some-clause-turns
returns-in-Some-clause-turns c = turns_off _ _ _ _ c.pop_front.new.self.items _ c.in_ok-one.one (search rules) (search rules) (search rules)
