use Rattle.envelope.proofs.Longer.{longer_keeps}
use Rattle.envelope.proofs.laws.longer_keeps.Goals as goal

pub returns : goal.returns
returns c bytes more calls others end other s t = longer_keeps bytes more calls others end other s t
