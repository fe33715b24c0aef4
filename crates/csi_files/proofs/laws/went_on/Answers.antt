use Rattle.csi_files.proofs.LifeLemmas as lives
use Rattle.csi_files.proofs.laws.went_on.Goals as goal

pub returns : goal.returns
returns g c = lives.runs_go_on g.D.Disk g.met.D.Disk.seen_may_stay c.args.config.now
