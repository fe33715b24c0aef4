use Rattle.csi_files.proofs.LifeLemmas as lives
use Rattle.csi_files.proofs.laws.numbered.Goals as goal

pub returns : goal.returns
returns c = lives.numbers_once c.args.config.now c.numbers.ensures.run c.numbers.ensures.pending
