use Rattle.std.proofs.Common.{rules, map}
use Rattle.csi_rules.specs.Choice.{room_value}
use Rattle.csi_rules.specs.facts.Choice.{choice_found, choice_missed}
use Rattle.csi_rules.proofs.choice.pool_among.Goals as goal

pub returns-in-Some : goal.returns-in-Some
returns-in-Some c = choice_found (map room_value c.args.rooms.now) c.args.terms.now c.loop-term.term-index c.args.size c.term-item.result _ (search rules) c.term-item.is (search rules) c.loop-term.invariant

pub loop-term-preserved : goal.loop-term-preserved
loop-term-preserved c = choice_missed (map room_value c.args.rooms.now) c.args.terms.now c.loop-term.term-index c.args.size c.term-item.result (search rules) c.term-item.is (search rules) c.loop-term.invariant
