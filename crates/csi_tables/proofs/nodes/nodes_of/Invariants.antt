use Rattle.std.proofs.Common.{◌≡◌, ◌≤◌, List, map, take}
use Rattle.std.specs.List.{AllByRecursion}
use Rattle.csi_keeper.specs.State.{AttachmentKey}
use Rattle.csi_tables.specs.Places.{place_row, nodes_at}
use Rattle.csi_tables.specs.Reading.{ShowNodes}
use Rattle.csi_tables.proofs.nodes.nodes_of.Given as goal

abbrev pub invariant-loop-passed : goal.invariant-loop-passed
invariant-loop-passed l = ((ps : List AttachmentKey) → l.places ≡ map place_row ps → (l.nodes ≡ nodes_at (take l.passed ps) l.number) × AllByRecursion (λ p. p.0 ≤ l.number) (take l.passed ps)) × ShowNodes l.number (take l.passed l.places) l.nodes
