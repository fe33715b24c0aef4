use Rattle.csi_keeper.proofs.InvariantLemmas.{first_invariant}
use Rattle.csi_keeper.proofs.laws.first.Goals as goal

pub returns : goal.returns
returns c = first_invariant c.args.config.now
