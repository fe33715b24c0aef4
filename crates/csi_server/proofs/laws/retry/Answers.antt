use Rattle.csi_server.proofs.TriesLemmas.{calls_retried}
use Rattle.csi_server.proofs.laws.retry.Goals as goal

pub returns : goal.returns
returns c s t requests sessions heard = calls_retried c.args.config.now c.retry.ensures s t requests sessions heard
