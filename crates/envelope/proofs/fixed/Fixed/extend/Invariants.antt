use Rattle.std.proofs.Common.{◌≡◌, ◌++◌, take}
use Rattle.envelope.proofs.fixed.Fixed.extend.Given as goal

abbrev pub invariant-loop-byte : goal.invariant-loop-byte
invariant-loop-byte g l = l.self ≡ l.initial.self ++ take l.byte-index l.bytes
