use Rattle.csi_server.proofs.NumberLemmas.{run_rises, pending_rises}
use Rattle.csi_server.proofs.laws.numbers.Goals as goal

pub returns : goal.returns
returns c = record {
  run = run_rises c.args.config.now c.kept.ensures c.numbers.ensures;
  pending = pending_rises c.args.config.now c.kept.ensures c.numbers.ensures;
}
