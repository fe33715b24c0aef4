use Rattle.std.proofs.Common.{◌≡◌, ◌≤◌, vec_len}
use Rattle.csi_files.specs.Reserving.{AreBlocks}
use Rattle.csi_files.proofs.reserve.Reserve.fill.Given as goal

-- there are `counter` blocks, and some are missing
abbrev pub invariant-loop : goal.invariant-loop
invariant-loop l =
    (vec_len l.self.blocks ≡ l.counter) × (l.self.wanted ≡ l.initial.self.wanted) × (l.self.is_held ≡ l.initial.self.is_held) × (vec_len l.initial.self.blocks ≤ vec_len l.self.blocks)
    × (AreBlocks l.initial.self.blocks.items → AreBlocks l.self.blocks.items)
