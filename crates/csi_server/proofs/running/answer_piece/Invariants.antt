use Rattle.std.proofs.Common.{◌-◌, ◌≤◌, ◌++◌, ℕ, List, length, take, Option}
use Rattle.csi_server.specs.Live.{IsLive, Advances, Replying}
use Rattle.csi_server.proofs.running.answer_piece.Given as goal

abbrev pub invariant-loop-at : goal.invariant-loop-at
invariant-loop-at g l = record {
  within : l.at ≤ length l.piece;
  took : Advances l.initial.framer l.framer l.at;
  clean : (g.S.Service.model l.config l.initial.service).doubt ≤ (g.S.Service.model l.config l.service).doubt;
  live : (start : g.row.S.Denot) (s : g.S.Service.State) (read : List ℕ) (held : Option (List ℕ))
      → IsLive (g.S.Service.machine l.config) (g.S.Service.model l.config start) (g.S.Service.model l.config l.initial.service) s read l.initial.framer held (g.W.Write.contents l.initial.writer)
      → IsLive (g.S.Service.machine l.config) (g.S.Service.model l.config start) (g.S.Service.model l.config l.service) s (read ++ take l.at l.piece) l.framer held (g.W.Write.contents l.writer);
  replying : (read : List ℕ) (held : Option (List ℕ)) → Replying read l.initial.framer held (g.W.Write.contents l.initial.writer)
      → Replying (read ++ take l.at l.piece) l.framer held (g.W.Write.contents l.writer);
}

abbrev pub decreases-loop-at : goal.decreases-loop-at
decreases-loop-at g l = length l.piece - l.at
