use Rattle.envelope.proofs.Printable.{decimal_printable}
use Rattle.envelope.proofs.laws.decimal_is_text.Goals as goal

pub returns : goal.returns
returns c n small = decimal_printable n small
