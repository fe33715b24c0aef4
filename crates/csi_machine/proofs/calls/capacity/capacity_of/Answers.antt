use Rattle.std.proofs.Common.{map}
use Rattle.csi_rules.specs.Choice.{room_value}
use Rattle.csi_machine.proofs.CapacityLemmas.{sum_small}
use Rattle.csi_machine.proofs.calls.capacity.capacity_of.Goals as goal

pub report_capacity-requires-2-clause-available : goal.report_capacity-requires-2-clause-available
report_capacity-requires-2-clause-available c = sum_small (map room_value c.args.rooms.now) c.args.request.now.topology c.free_in-sum.result.0 c.requires c.free_in-sum.ensures.sum
