use Rattle.csi_machine.proofs.AnsweringLemmas.{settled_sound}
use Rattle.csi_machine.proofs.NumberLemmas.{step_rises}
use Rattle.csi_machine.proofs.laws.numbers.Goals as goal

pub returns : goal.returns
returns c s r inv passed = step_rises c.args.config.now r (settled_sound c.args.config.now c.configured.ensures r passed) s inv
