use Rattle.csi_server.proofs.KeptLemmas.{run_keeps, pending_keeps}
use Rattle.csi_server.proofs.laws.kept.Goals as goal

pub returns : goal.returns
returns c = record { run = run_keeps c.args.config.now c.kept.ensures; pending = pending_keeps c.args.config.now c.kept.ensures }
