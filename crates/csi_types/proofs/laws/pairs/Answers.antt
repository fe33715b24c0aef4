use Rattle.std.proofs.Common.{◌∙◌, [], sym}
use Rattle.csi_types.proofs.PairLemmas.{some_two_before, or_false}
use Rattle.csi_types.proofs.laws.pairs.Goals as goal

pub returns : goal.returns
returns g c test xs = sym (or_false _) ∙ some_two_before test [] xs
