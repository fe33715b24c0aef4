use Rattle.csi_files.proofs.LifeLemmas as lives
use Rattle.csi_files.proofs.laws.went_on_at.Goals as goal

pub returns : goal.returns
returns g c = lives.path_goes_on g.S.Start c.args.config.now
