use Rattle.std.proofs.Common.{◌≡◌, length}
use Rattle.csi_maps.specs.Hashing.{hashed}
use Rattle.csi_maps.proofs.hash.name_hash.Given as goal

abbrev pub invariant-loop-word : goal.invariant-loop-word
invariant-loop-word l = hashed l.hash l.rest ≡ hashed 0 l.name

abbrev pub decreases-loop-word : goal.decreases-loop-word
decreases-loop-word l = length l.rest
