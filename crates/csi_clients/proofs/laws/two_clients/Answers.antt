use Rattle.csi_clients.proofs.ExampleLemmas.{two_clients}
use Rattle.csi_clients.proofs.laws.two_clients.Goals as goal

pub returns : goal.returns
returns c s r q apart = two_clients c.args.config.now s r q apart
