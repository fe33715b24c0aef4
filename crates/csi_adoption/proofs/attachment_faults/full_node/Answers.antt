use Rattle.std.proofs.Common.{◌∙◌, sym}
use Rattle.std.proofs.lemmas.Slice.Zip.{either_empty_from_Zip}
use Rattle.csi_adoption.proofs.FullLemmas.{none_left}
use Rattle.csi_adoption.proofs.attachment_faults.full_node.Goals as goal

pub returns : goal.returns
returns c =
    sym (c.loop-node.invariant.2 ∙ none_left (λ m. m.max_volumes) _ _ (either_empty_from_Zip c.loop-node.node-iterator c.next.new.self c.next.result c.in-None.is c.next.ensures.steps))
