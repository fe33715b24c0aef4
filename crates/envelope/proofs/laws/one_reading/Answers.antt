use Rattle.envelope.proofs.Reading.{one_reading}
use Rattle.envelope.proofs.laws.one_reading.Goals as goal

pub returns : goal.returns
returns c bytes calls others end other s t = one_reading bytes calls others end other s t
