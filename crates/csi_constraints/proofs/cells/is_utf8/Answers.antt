use Rattle.csi_constraints.proofs.TextLemmas.{utf8_reported}
use Rattle.csi_constraints.proofs.cells.is_utf8.Goals as goal

pub returns : goal.returns
returns c = utf8_reported c.args.bytes.now c.from_utf8.result _ _ c.from_utf8.ensures.cases c.is_ok.ensures.value
