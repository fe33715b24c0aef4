-- The outcome of a create, as a plan.
use Rattle.std.specs.Prelude.{Some}
use Rattle.csi_types.specs.declared.responses.Response.TheVariants as response
use Rattle.csi_keeper.specs.declared.change.Change.TheVariants.{AddVolume}
use Rattle.csi_machine.specs.declared.creation.Creation.{Creation}
use Rattle.csi_machine.specs.declared.creation.Creation.TheVariants as creation
use Rattle.csi_machine.specs.declared.plan.Plan.{Plan}
use Rattle.csi_rules.specs.Info.{info_at}
use Rattle.csi_machine.specs.Plan.{refuse, respond, make}

abbrev pub plan_of : Creation → Plan
plan_of (creation.Refused reason) = refuse reason
plan_of (creation.Existing v segments) = respond (response.Create (Some (info_at segments.now v)))
plan_of (creation.Made v segments) = make (response.Create (Some (info_at segments.now v))) (AddVolume v)
