use Rattle.std.proofs.Common.{rules, ◌≡◌, true, suc, arith, ap}
use Rattle.csi_client.specs.Again.{is_unanswered, one_if, unanswered_count}
use Rattle.csi_client.proofs.again.call_again.Goals as goal

-- one more exchange, which is unanswered
pub loop-tried-preserved : goal.loop-tried-preserved
loop-tried-preserved g c =
    let i = c.loop-tried.invariant in
    let is_open : is_unanswered c.exchange-received.result ≡ true = search rules in
    let counted : unanswered_count c.exchange-received.result ≡ 1 = ap one_if is_open in
    record {
      begun = omega (arith, i.begun);
      made = omega (arith, i.begun, i.made, c.exchange-received.ensures.made);
      unanswered = omega (arith, i.begun, i.unanswered, counted, c.exchange-received.ensures.unanswered);
      sent = (suc i.sent.0, omega (arith, i.sent.1), (c.loop-tried.line, c.exchange-received.result, i.sent.2, c.exchange-received.ensures.sent, is_open));
    }
