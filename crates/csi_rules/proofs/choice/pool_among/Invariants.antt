use Rattle.std.proofs.Common.{◌≡◌, map, drop}
use Rattle.csi_rules.specs.Choice.{choice, room_value}
use Rattle.csi_rules.proofs.choice.pool_among.Given as goal

-- the choice for all terms is the choice for the terms that are left
abbrev pub invariant-loop-term : goal.invariant-loop-term
invariant-loop-term l = choice (map room_value l.rooms) (drop l.term-index l.terms) l.size ≡ choice (map room_value l.rooms) l.terms l.size
