use Rattle.std.proofs.Common.{◌∙◌}
use Rattle.csi_types.proofs.SegmentLemmas.{some_two_permuted}
use Rattle.csi_types.proofs.topology.has_alike_neighbours.Goals as goal

pub returns : goal.returns
returns c = c.has_tied_neighbours.ensures ∙ some_two_permuted _ _ c.sort_segments.ensures.all
