use Rattle.std.proofs.Common.{◌≡◌, map, take}
use Rattle.csi_keeper.specs.State.{up_to_u64}
use Rattle.csi_rules.specs.Choice.{count, room_value}
use Rattle.csi_rules.proofs.choice.count.Given as goal

abbrev pub invariant-loop-room : goal.invariant-loop-room
invariant-loop-room l = l.count ≡ up_to_u64 (count (map room_value (take l.room-index l.rooms)))
