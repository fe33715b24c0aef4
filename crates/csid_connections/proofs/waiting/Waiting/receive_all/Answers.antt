use Rattle.std.proofs.Common.{rules, refl}
use Rattle.csid_connections.proofs.WaitingLemmas.{begin_turns, end_turns, same_rules, turn_step}
use Rattle.csid_connections.proofs.waiting.Waiting.receive_all.Goals as goal

pub loop-turn-init : goal.loop-turn-init
loop-turn-init c = record { few = search rules; left = refl; idle = refl; turning = begin_turns _ _ _ _ }

pub loop-turn-preserved : goal.loop-turn-preserved
loop-turn-preserved c =
    let so = c.loop-turn.invariant in
    record {
      few = search rules;
      left = search rules;
      idle = search rules;
      turning = turn_step _ _ _ _ _ _ _ (search rules) so.turning (same_rules _ _ _ _ _ _ _ so.idle so.left c.look_at_first.ensures.turns);
    }

pub returns-clause-looks : goal.returns-clause-looks
returns-clause-looks c = end_turns _ _ _ _ _ c.loop-turn.turn (search rules) c.loop-turn.invariant.turning
