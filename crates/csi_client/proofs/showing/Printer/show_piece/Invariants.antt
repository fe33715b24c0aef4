use Rattle.std.proofs.Common.{◌≡◌, ◌+◌, ◌-◌, ◌≤◌, ◌++◌, ℕ, List, length, take, Option}
use Rattle.csi_client.specs.Live.{Live, IsReady}
use Rattle.csi_client.proofs.showing.Printer.show_piece.Given as goal

abbrev pub invariant-loop-at : goal.invariant-loop-at
invariant-loop-at g l = record {
  within : l.at ≤ length l.piece;
  count : l.framer.past + length l.framer.held ≡ l.initial.framer.past + length l.initial.framer.held + l.at;
  ready : IsReady l.framer;
  method : l.self.method ≡ l.initial.self.method;
  live : (read : List ℕ) (held : Option (List ℕ))
      → Live l.initial.self.method read l.initial.framer held (g.W.Write.contents l.initial.writer) l.initial.self.refused
      → Live l.initial.self.method (read ++ take l.at l.piece) l.framer held (g.W.Write.contents l.writer) l.self.refused;
}

abbrev pub decreases-loop-at : goal.decreases-loop-at
decreases-loop-at g l = length l.piece - l.at
