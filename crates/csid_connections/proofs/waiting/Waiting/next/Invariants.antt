use Rattle.std.proofs.Common.{◌≡◌, ℕ}
use Rattle.csid_connections.specs.Waiting.{StayFew, Waits}
use Rattle.csid_connections.proofs.waiting.Waiting.next.Given as goal

abbrev pub invariant-loop : goal.invariant-loop
invariant-loop l = StayFew l.fn.self.pending.items l.self.pending.items × (l.self.idle ≡ l.fn.self.idle)
    × ((looks : ℕ) × Waits l.fn.self.idle looks l.fn.self.pending.items l.self.pending.items l.fn.self.left l.self.left)
