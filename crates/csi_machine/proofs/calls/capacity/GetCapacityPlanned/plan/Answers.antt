use Rattle.std.proofs.Common.{◌≤◌, ◌^◌, List, map, sum_by, subst, sym}
use Rattle.csi_rules.specs.declared.choice.Room as code
use Rattle.csi_rules.specs.Choice.{room_value, free}
use Rattle.csi_machine.proofs.CapacityLemmas.{rooms_fit}
use Rattle.csi_machine.proofs.calls.capacity.GetCapacityPlanned.plan.Goals as goal

pub capacity_of-requires : goal.capacity_of-requires
capacity_of-requires g c =
    subst (λ (rs : List code.Room). sum_by free (map room_value rs) ≤ 2 ^ 62) (sym c.deref.ensures.value) (rooms_fit c.args.config.now c.in_ok-rooms.rooms.items c.pool_bytes_whole.ensures.all c.in_ok-rooms.ensures.pools)
