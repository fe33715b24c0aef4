use Rattle.std.proofs.Common.{rules, arith}
use Rattle.csid_connections.proofs.WaitingLemmas.{comes_next}
use Rattle.csid_connections.proofs.waiting.Waiting.accept_some.Goals as goal

pub loop-preserved : goal.loop-preserved
loop-preserved c =
    let so = c.loop.invariant in
    (search rules, search rules, comes_next c.args.now _ _ _ so.2.0 _ c.loop.self.left _ so.2.1 so.2.2 (search rules) c.admit.ensures.comes (search rules) (search rules))
