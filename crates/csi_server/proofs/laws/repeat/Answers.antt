use Rattle.csi_server.proofs.TriesLemmas.{call_repeated}
use Rattle.csi_server.proofs.laws.repeat.Goals as goal

pub returns : goal.returns
returns c s call inv = call_repeated c.args.config.now c.repeat.ensures s call inv
