use Rattle.std.proofs.lemmas.Result.{err_from_is_err_and}
use Rattle.csi_change_store.proofs.items.flag_of.Goals as goal

pub returns-in_err-from_str-in_default-clause-fault : goal.returns-in_err-from_str-in_default-clause-fault
returns-in_err-from_str-in_default-clause-fault c = let p = err_from_is_err_and c.from_residual.result c.from_residual.ensures.1 in rw (p.1, p.2) tt
