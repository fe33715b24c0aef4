use Rattle.std.proofs.Common.{◌≡◌, take}
use Rattle.csi_keeper.proofs.copies.copy_keys.Given as goal

abbrev pub invariant-loop-key : goal.invariant-loop-key
invariant-loop-key l = l.copy ≡ take l.key-index l.key-items
