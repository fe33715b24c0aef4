use Rattle.std.proofs.Common.{◌≡◌, drop}
use Rattle.csi_maps.specs.Hashing.{hashed}
use Rattle.csi_maps.proofs.hash.hash_tail.Given as goal

abbrev pub invariant-loop-byte : goal.invariant-loop-byte
invariant-loop-byte l = hashed l.hash (drop l.byte-index l.tail) ≡ hashed l.start l.tail
