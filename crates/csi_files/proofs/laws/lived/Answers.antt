use Rattle.csi_files.proofs.LifeLemmas as lives
use Rattle.csi_files.proofs.laws.lived.Goals as goal

pub returns : goal.returns
returns c = lives.lives_once c.args.config.now c.retry.ensures
