use Rattle.csi_clients.proofs.FilesLemmas.{lives_are_linearizable}
use Rattle.csi_clients.proofs.laws.linearizable_files.Goals as goal

pub returns : goal.returns
returns g c = lives_are_linearizable c.args.config.now c.linearizable_calls.ensures.begun
