use Rattle.std.proofs.Common.{◌≡◌, ◌+◌, ◌*◌, ◌≤◌, ℕ, List, length}
use Rattle.std.specs.Io.KnownBytes.{Consumes}
use Rattle.csi_client.specs.Live.{Live, IsReady}
use Rattle.csi_client.proofs.showing.show_all.Given as goal

abbrev pub invariant-loop-turn : goal.invariant-loop-turn
invariant-loop-turn g l = record {
  few : l.framer.past + length l.framer.held ≤ 4096 * l.turn;
  ready : IsReady l.framer;
  method : l.printer.method ≡ l.fn.method;
  run : (read : List ℕ) × Consumes (g.R.Read.remaining l.initial.reader) (g.R.Read.remaining l.reader) read
      × Live l.fn.method read l.framer (g.W.Write.contents l.initial.writer) (g.W.Write.contents l.writer) l.printer.refused;
}
