use Rattle.std.proofs.Common.{◌≡◌, vec_len}
use Rattle.csi_files.specs.Reserving.{AreBlocks}
use Rattle.csi_files.proofs.reserve.room.Given as goal

-- there are `counter` blocks
abbrev pub invariant-loop : goal.invariant-loop
invariant-loop l = (vec_len l.blocks ≡ l.counter) × AreBlocks l.blocks.items
