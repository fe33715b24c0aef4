use Rattle.std.proofs.Common.{◌+◌, ◌*◌, ◌≤◌, ℕ, List, length}
use Rattle.std.specs.Io.KnownBytes.{Consumes}
use Rattle.csi_server.specs.Live.{IsLive, IsReady, Replying}
use Rattle.csi_server.proofs.running.run_service.Given as goal

abbrev pub invariant-loop-turn : goal.invariant-loop-turn
invariant-loop-turn g l = record {
  few : l.framer.past + length l.framer.held ≤ 4096 * l.turn;
  ready : IsReady l.framer;
  run : (read : List ℕ) × (l.turn ≤ length read) × Consumes (g.R.Read.remaining l.initial.reader) (g.R.Read.remaining l.reader) read
      × ((s : g.S.Service.State) → (g.S.Service.model l.config l.initial.service).holds s
      → IsLive (g.S.Service.machine l.config) (g.S.Service.model l.config l.initial.service) (g.S.Service.model l.config l.service) s read l.framer (g.W.Write.contents l.initial.writer) (g.W.Write.contents l.writer))
      × Replying read l.framer (g.W.Write.contents l.initial.writer) (g.W.Write.contents l.writer);
  clean : (g.S.Service.model l.config l.initial.service).doubt ≤ (g.S.Service.model l.config l.service).doubt;
}
