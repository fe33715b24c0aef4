use Rattle.std.proofs.Common.{◌≡◌, ◌≤◌, length}
use Rattle.csid_connections.proofs.WaitingLemmas.{Turning}
use Rattle.csid_connections.proofs.waiting.Waiting.receive_all.Given as goal

abbrev pub invariant-loop-turn : goal.invariant-loop-turn
invariant-loop-turn l = record {
  few : length l.self.pending.items ≤ length l.fn.self.pending.items;
  left : l.self.left ≡ l.fn.self.left;
  idle : l.self.idle ≡ l.fn.self.idle;
  turning : Turning l.fn.self.idle l.fn.self.left l.now l.fn.self.pending.items l.self.pending.items l.turn;
}
