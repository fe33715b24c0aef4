-- GetCapacity (CSI specification, 'GetCapacity').
use Rattle.std.specs.Prelude.{ℕ, pos, max, min, Bool, true, List, Option, Some, None, map, filter, fold, sum_by, if◌then◌else◌}
use Rattle.std.specs.List.{list_all}
use Rattle.csi_types.specs.Checks.{is_supported}
use Rattle.csi_types.specs.Maps.{TextMap}
use Rattle.csi_types.specs.declared.requests.GetCapacity.{GetCapacity}
use Rattle.csi_types.specs.declared.responses.Response.TheVariants as response
use Rattle.csi_config.specs.declared.config.Config.{Config}
use Rattle.csi_machine.specs.declared.plan.Plan.{Plan}
use Rattle.csi_rules.specs.Choice.{Room, rooms, free}
use Rattle.csi_machine.specs.Plan.{respond}
use Rattle.csi_keeper.specs.State.{State}
use Rattle.csi_rules.specs.Topology.{serves}

abbrev pub is_served : Option TextMap → Room → Bool
is_served None room = true
is_served (Some term) room = serves room.0.segments term

-- the pools that serve a topology, or all of them
abbrev pub served : List Room → Option TextMap → List Room
served rs at = filter (is_served at) rs

abbrev pub greatest : List ℕ → ℕ
greatest xs = fold max 0 xs

-- the greatest size that a volume can have
abbrev pub greatest_size : Config → List Room → ℕ
greatest_size config rs = min config.sizes.greatest_bytes (greatest (map free rs))

abbrev pub report_capacity : ℕ → ℕ → Plan
report_capacity available maximum = respond (response.Capacity (pos available) (Some (pos maximum)))

-- nothing is available for a capability that is not supported
abbrev pub capacity_of : Config → List Room → GetCapacity → Plan
capacity_of config rs r =
    if list_all is_supported r.capabilities
    then report_capacity (sum_by free (served rs r.topology)) (greatest_size config (served rs r.topology))
    else report_capacity 0 0

abbrev pub capacity : Config → State → GetCapacity → Plan
capacity config s r = capacity_of config (rooms config s) r
