use Rattle.csi_clients.proofs.ExampleLemmas.{lost, refused}
use Rattle.csi_clients.proofs.laws.gives_up.Goals as goal

pub returns-clause-lost : goal.returns-clause-lost
returns-clause-lost c s r q = lost c.args.config.now s r q

pub returns-clause-refused : goal.returns-clause-refused
returns-clause-refused c s r q = refused c.args.config.now s r q
