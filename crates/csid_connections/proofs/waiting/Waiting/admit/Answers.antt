use Rattle.std.proofs.Common.{rules}
use Rattle.csid_connections.proofs.WaitingLemmas.{came}
use Rattle.csid_connections.proofs.waiting.Waiting.admit.Goals as goal

pub returns-in-Ok-clause-comes : goal.returns-in-Ok-clause-comes
returns-in-Ok-clause-comes c =
    came c.args.now c.args.self.now.pending.items c.if-len-ge-MOST.self.pending.items c.push_back.new.self.items c.in-Ok.one _ (search rules) c.in-Ok.ensures c.push_back.ensures.items
