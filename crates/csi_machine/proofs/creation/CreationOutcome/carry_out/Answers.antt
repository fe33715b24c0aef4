use Rattle.std.proofs.Common.{rules, ap}
use Rattle.csi_keeper.specs.declared.change.Change.TheVariants.{AddVolume}
use Rattle.csi_machine.specs.Creation.{plan_of}
use Rattle.csi_machine.specs.declared.creation.Creation.{Creation}
use Rattle.csi_machine.proofs.CarryingLemmas.{not_carried}
use Rattle.csi_machine.proofs.creation.CreationOutcome.carry_out.Goals as goal

pub returns-in_err-apply_owned-in-Made : goal.returns-in_err-apply_owned-in-Made
returns-in_err-apply_owned-in-Made g c =
    not_carried (plan_of c.args.self) (AddVolume c.in-Made.volume) _ _ (ap (λ (creation : Creation). (plan_of creation).change) c.in-Made.is)
    c.apply_owned.result c.from_residual.result c.in_err-apply_owned-in-Made.field-0.0 (search rules) (search rules) c.apply_owned.ensures
