use Rattle.csi_adoption.proofs.FailingLemmas.{scan_failed}
use Rattle.csi_adoption.proofs.meta.see_meta.Goals as goal

pub returns-in_err-scan_meta-clause-failed : goal.returns-in_err-scan_meta-clause-failed
returns-in_err-scan_meta-clause-failed g c = scan_failed g.S.Store c.args.conn.now c.scan_meta.new.conn c.from_residual.result c.in_err-scan_meta.field-0.0 c.in_err-scan_meta.ensures.failed c.from_residual.ensures.1
