use Rattle.csi_clients.proofs.OtherVolumesLemmas.{later}
use Rattle.csi_clients.proofs.laws.made_later.Goals as goal

pub returns : goal.returns
returns c s r others inv passed away = later c.args.config.now c.kept.ensures others s r inv passed away
