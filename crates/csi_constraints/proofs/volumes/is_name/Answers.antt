use Rattle.csi_constraints.proofs.TextLemmas.{is_a_name, is_no_name}
use Rattle.csi_constraints.proofs.volumes.is_name.Goals as goal

pub returns-in-Some : goal.returns-in-Some
returns-in-Some c = is_a_name c.args.name.now c.in-Some.name.now _ _ c.in-Some.ensures c.name_reason.ensures c.is_none.ensures

pub returns-in-None : goal.returns-in-None
returns-in-None c = is_no_name _ c.in-None.ensures
