use Rattle.std.proofs.Common.{◌∙◌, sym}
use Rattle.std.proofs.lemmas.Slice.Zip.{either_empty_from_Zip}
use Rattle.csi_adoption.proofs.FullLemmas.{none_left}
use Rattle.csi_adoption.proofs.volume_faults.full_pool.Goals as goal

pub returns : goal.returns
returns c =
    sym (c.loop-pool.invariant.2 ∙ none_left (λ p. p.bytes) _ _ (either_empty_from_Zip c.loop-pool.pool-iterator c.next.new.self c.next.result c.in-None.is c.next.ensures.steps))
