use Rattle.std.proofs.Common.{◌∙◌, refl, sym, None, Some}
use Rattle.csi_checks.specs.Parts.{parts_in}
use Rattle.csi_checks.proofs.LadderLemmas.{chained}
use Rattle.csi_checks.proofs.requests.first_reason.Goals as goal

pub returns-in-Some : goal.returns-in-Some
returns-in-Some c = chained (parts_in c.args.parts.now) (Some c.in-Some.reason) _ _ (sym c.in-Some.is ∙ c.reason_of_kind.ensures) refl refl

pub returns-in-Some-reason_of_size : goal.returns-in-Some-reason_of_size
returns-in-Some-reason_of_size c =
    chained (parts_in c.args.parts.now) None (Some c.in-Some-reason_of_size.reason) _ (sym c.in_default.is ∙ c.reason_of_kind.ensures)
    (sym c.in-Some-reason_of_size.is ∙ c.reason_of_size.ensures) refl

pub returns : goal.returns
returns c =
    chained (parts_in c.args.parts.now) None None _ (sym c.in_default.is ∙ c.reason_of_kind.ensures) (sym c.in_default-reason_of_size.is ∙ c.reason_of_size.ensures) c.reason_of_term.ensures
