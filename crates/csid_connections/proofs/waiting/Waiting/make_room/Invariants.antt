use Rattle.std.proofs.Common.{◌≡◌, ◌≤◌, length}
use Rattle.csid_connections.specs.Waiting.{closed}
use Rattle.csid_connections.proofs.waiting.Waiting.make_room.Given as goal

abbrev pub invariant-loop-turn : goal.invariant-loop-turn
invariant-loop-turn l = (length l.self.pending.items ≤ length l.fn.self.pending.items) × (l.self.pending.items ≡ closed l.turn l.fn.self.pending.items)
    × (l.self.left ≡ l.fn.self.left) × (l.self.idle ≡ l.fn.self.idle)
