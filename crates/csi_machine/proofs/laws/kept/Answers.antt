use Rattle.csi_machine.proofs.AnsweringLemmas.{keeps, settled_sound}
use Rattle.csi_machine.proofs.laws.kept.Goals as goal

pub returns : goal.returns
returns c s r inv passed = keeps c.args.config.now r (settled_sound c.args.config.now c.configured.ensures r passed) s inv
