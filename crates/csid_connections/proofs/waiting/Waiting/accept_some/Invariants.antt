use Rattle.std.proofs.Common.{◌≡◌, ◌+◌, ℕ}
use Rattle.csid_connections.specs.Waiting.{ComeIn, StayFew}
use Rattle.csid_connections.proofs.waiting.Waiting.accept_some.Given as goal

abbrev pub invariant-loop : goal.invariant-loop
invariant-loop l = StayFew l.fn.self.pending.items l.self.pending.items × (l.self.idle ≡ l.fn.self.idle)
    × ((taken : ℕ) × ComeIn l.now taken l.fn.self.pending.items l.self.pending.items × (l.self.left + taken ≡ l.fn.self.left))
