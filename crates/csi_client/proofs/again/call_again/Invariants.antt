use Rattle.std.proofs.Common.{◌≡◌, ◌≤◌, ◌+◌, ◌-◌, ℕ}
use Rattle.csi_client.specs.Again.{AreUnanswered}
use Rattle.csi_client.proofs.again.call_again.Given as goal

-- all exchanges so far were unanswered
abbrev pub invariant-loop-tried : goal.invariant-loop-tried
invariant-loop-tried g l = record {
  begun : 1 ≤ l.tried;
  made : g.L.Line.exchanges l.line ≡ g.L.Line.exchanges l.initial.line + (l.tried - 1);
  unanswered : g.L.Line.unanswered l.line ≡ g.L.Line.unanswered l.initial.line + (l.tried - 1);
  sent : (earlier : ℕ) × (l.tried ≡ earlier + 1) × AreUnanswered g.L.Line.exchanged l.initial.line l.line l.frame earlier;
}
