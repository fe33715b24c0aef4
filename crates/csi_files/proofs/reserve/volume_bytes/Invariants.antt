use Rattle.std.proofs.Common.{◌≡◌, ◌+◌, length, sum_by, take}
use Rattle.csi_keeper.specs.State.{up_to_u64}
use Rattle.csi_files.specs.Reserving.{cap_bytes}
use Rattle.csi_files.proofs.reserve.volume_bytes.Given as goal

abbrev pub invariant-loop-cap : goal.invariant-loop-cap
invariant-loop-cap l = l.bytes ≡ up_to_u64 (256 + length l.volume.name + length l.volume.pool + sum_by cap_bytes (take l.cap-index l.cap-items))
