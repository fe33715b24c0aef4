use Rattle.std.proofs.Common.{◌≡◌, ◌++◌, length}
use Rattle.csi_maps.specs.Rows.{nodes_in}
use Rattle.csi_maps.specs.Walking.{ahead, AreAhead}
use Rattle.csi_maps.proofs.WalkLemmas.{nodes_at}
use Rattle.csi_maps.proofs.walk.Walk.go_to.Given as goal

abbrev pub invariant-loop-place : goal.invariant-loop-place
invariant-loop-place l = record {
  reported : l.self.nodes ++ nodes_at l.number (ahead l.self) ≡ nodes_in l.attachments.entries l.number;
  over : AreAhead l.attachments.entries (ahead l.self) l.number;
  passed : l.self.passed ≡ l.number;
}

abbrev pub decreases-loop-place : goal.decreases-loop-place
decreases-loop-place l = length (ahead l.self)
