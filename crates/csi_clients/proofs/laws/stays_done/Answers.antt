use Rattle.std.proofs.Common.{◌∙◌, ap}
use Rattle.csi_machine.specs.Step.{step}
use Rattle.csi_machine.specs.Verdicts.{Report}
use Rattle.csi_clients.proofs.StaysLemmas.{AreLaws, done_step, stays, step_done}
use Rattle.csi_clients.proofs.laws.stays_done.Goals as goal

laws : (c : goal.After-inclusions) → AreLaws
laws c = record {
  given = c.overlays.ensures.given;
  kept = c.overlays.ensures.kept;
  values = c.overlays.ensures.values;
  has = λ m given h. (c.inclusions.ensures.values m given).0 h;
  from = λ m given h. (c.inclusions.ensures.values m given).1 h;
}

pub returns-clause-found : goal.returns-clause-found
returns-clause-found c s r others body inv passed done all_alone =
    let config = c.args.config.now in
    done_step config _ r body (stays (laws c) config c.kept.ensures others s r body inv passed all_alone (step_done (laws c) config s r body inv done))

pub returns-clause-taken : goal.returns-clause-taken
returns-clause-taken c s r others body inv checked passed reported all_alone =
    let config = c.args.config.now in
    let t = (step config s r).1 in
    let later = c.kept.ensures s r inv checked in
    let done = c.repeat.ensures s r inv checked ∙ ap (λ (w : Report). (w, t)) reported in
    done_step config _ r body (stays (laws c) config c.kept.ensures others t r body later passed all_alone (step_done (laws c) config t r body later done))
