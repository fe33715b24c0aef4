use Rattle.std.proofs.Common.{◌≡◌, List, ◌++◌, map, take, drop}
use Rattle.std.specs.List.{AllByRecursion}
use Rattle.csi_keeper.specs.State.{AttachmentKey}
use Rattle.csi_keeper.specs.Texts.{Text}
use Rattle.csi_tables.specs.Places.{place_row, nodes_at, IsRisen, AreRising, AreTexts}
use Rattle.csi_tables.specs.Reading.{AreNodesOf}
use Rattle.csi_tables.proofs.nodes.nodes_of_each.Given as goal

abbrev pub invariant-loop-number : goal.invariant-loop-number
invariant-loop-number l =
    ((ps : List AttachmentKey) → IsRisen ps → AreRising l.numbers → l.places ≡ map place_row ps
    → (l.«all» ≡ map (nodes_at ps) (take l.number-index l.numbers)) × ((qs : List AttachmentKey) × IsRisen qs × (l.rest ≡ map place_row qs) × AllByRecursion (λ n. nodes_at qs n ≡ nodes_at ps n) (drop l.number-index l.numbers) × (AreTexts ps → AreTexts qs)))
    × ((more : List (List Text)) → AreNodesOf (drop l.number-index l.numbers) l.rest more → AreNodesOf l.numbers l.places (l.«all» ++ more))
