use Rattle.std.proofs.Common.{◌+◌, ◌*◌, ◌≤◌, ℕ, List, length}
use Rattle.std.specs.Io.KnownBytes.{Consumes}
use Rattle.csi_client.specs.Receiving.{IsGathering}
use Rattle.csi_client.proofs.receiving.gather.Given as goal

abbrev pub invariant-loop-turn : goal.invariant-loop-turn
invariant-loop-turn g l = record {
  few : l.framer.past + length l.framer.held ≤ 4096 * l.turn;
  run : (read : List ℕ) × (l.turn ≤ length read) × Consumes (g.R.Read.remaining l.initial.reader) (g.R.Read.remaining l.reader) read × IsGathering read l.framer;
}
