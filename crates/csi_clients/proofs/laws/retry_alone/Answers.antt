use Rattle.csi_clients.proofs.AloneLemmas.{retried}
use Rattle.csi_clients.proofs.laws.retry_alone.Goals as goal

pub returns : goal.returns
returns c s t requests sessions reported inv passed tries life = retried c.args.config.now c.linearizable.ensures.finished s t requests sessions reported inv passed tries life
