use Rattle.std.proofs.Common.{length}
use Rattle.csi_vectors.specs.Judging.{IsUnrefused}
use Rattle.csi_vectors.proofs.judging.has_refusal.Given as goal

-- if no reply of the rest refuses, no reply refuses
abbrev pub invariant-loop-reply : goal.invariant-loop-reply
invariant-loop-reply l = IsUnrefused l.rest → IsUnrefused l.replies

abbrev pub decreases-loop-reply : goal.decreases-loop-reply
decreases-loop-reply l = length l.rest
