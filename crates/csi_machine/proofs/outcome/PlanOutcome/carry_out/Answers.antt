use Rattle.std.proofs.Common.{rules}
use Rattle.csi_machine.proofs.CarryingLemmas.{not_carried}
use Rattle.csi_machine.proofs.outcome.PlanOutcome.carry_out.Goals as goal

pub returns-in_err-apply_owned : goal.returns-in_err-apply_owned
returns-in_err-apply_owned g c =
    not_carried c.args.self c.into_value.result _ _ (search rules) c.apply_owned.result c.from_residual.result c.in_err-apply_owned.field-0.0 (search rules) (search rules) c.apply_owned.ensures
