use Rattle.std.proofs.Common.{◌≡◌, map, take, sum_by}
use Rattle.csi_keeper.specs.State.{up_to_u64}
use Rattle.csi_rules.specs.Choice.{free, room_value}
use Rattle.csi_machine.specs.calls.Capacity.{served, greatest}
use Rattle.csi_machine.proofs.calls.capacity.free_in.Given as goal

abbrev pub invariant-loop-room : goal.invariant-loop-room
invariant-loop-room l =
    let seen = served (map room_value (take l.room-index l.rooms)) l.topology in
    record {
      sum : l.sum ≡ up_to_u64 (sum_by free seen);
      greatest : l.greatest ≡ greatest (map free seen);
    }
