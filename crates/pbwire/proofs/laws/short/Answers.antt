use Rattle.pbwire.proofs.VarintLemmas.{minimal_last}
use Rattle.pbwire.proofs.laws.short.Goals as goal

pub returns : goal.returns
returns c = minimal_last 9
