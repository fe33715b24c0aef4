use Rattle.csi_server.proofs.PendingLemmas.{either}
use Rattle.csi_server.proofs.laws.pending.Goals as goal

pub returns : goal.returns
returns g c old new s events run only t h = either c.args.config.now s events run.allowed t (run.survive only t h)
