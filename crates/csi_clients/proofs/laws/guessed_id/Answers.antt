use Rattle.csi_clients.proofs.GuessedIdLemmas.{guessed_id}
use Rattle.csi_clients.proofs.laws.guessed_id.Goals as goal

pub returns : goal.returns
returns c s d r change inv number made = guessed_id c.args.config.now s d r inv number change made
