use Rattle.csi_constraints.proofs.TextLemmas.{text_kept, text_left}
use Rattle.csi_constraints.proofs.cells.as_utf8.Goals as goal

pub returns-in-Ok : goal.returns-in-Ok
returns-in-Ok c = text_kept c.args.bytes.now c.in-Ok.text.now c.in-Ok.ensures.cases.0 c.in-Ok.ensures.cases.1

pub returns-in-Err : goal.returns-in-Err
returns-in-Err c = text_left c.args.bytes.now c.in-Err.ensures.cases.0
