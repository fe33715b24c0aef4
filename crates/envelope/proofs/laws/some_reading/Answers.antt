use Rattle.envelope.proofs.Existing.{some_reading}
use Rattle.envelope.proofs.laws.some_reading.Goals as goal

pub returns : goal.returns
returns c bytes each = some_reading bytes each
