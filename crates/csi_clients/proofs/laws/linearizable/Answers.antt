use Rattle.csi_clients.proofs.DoneLemmas.{Stays}
use Rattle.csi_clients.proofs.LinearizabilityLemmas.{begun, finished}
use Rattle.csi_clients.proofs.StaysLemmas.{AreLaws, done_step, stays_one, step_done}
use Rattle.csi_clients.proofs.laws.linearizable.Goals as goal

laws : (c : goal.After-inclusions) → AreLaws
laws c = record {
  given = c.overlays.ensures.given;
  kept = c.overlays.ensures.kept;
  values = c.overlays.ensures.values;
  has = λ m given h. (c.inclusions.ensures.values m given).0 h;
  from = λ m given h. (c.inclusions.ensures.values m given).1 h;
}

stay : (c : goal.After-inclusions) → Stays c.args.config.now
stay c s q r body inv passed alone done =
    let config = c.args.config.now in
    done_step config _ r body (stays_one (laws c) config s q r body inv (c.kept.ensures s q inv passed) alone (step_done (laws c) config s r body inv done))

pub returns-clause-begun : goal.returns-clause-begun
returns-clause-begun c s t todo sessions heard inv passed life = begun c.args.config.now c.kept.ensures c.repeat.ensures (stay c) s t todo sessions heard inv passed life

pub returns-clause-finished : goal.returns-clause-finished
returns-clause-finished c s t todo sessions heard inv passed life answered =
    finished c.args.config.now s t todo sessions heard answered
    (begun c.args.config.now c.kept.ensures c.repeat.ensures (stay c) s t todo sessions heard inv passed life)
