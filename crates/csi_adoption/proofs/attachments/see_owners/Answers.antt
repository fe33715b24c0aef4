use Rattle.csi_adoption.proofs.FailingLemmas.{scan_failed}
use Rattle.csi_adoption.proofs.attachments.see_owners.Goals as goal

pub returns-clause-seen : goal.returns-clause-seen
returns-clause-seen g c clean =
    let seen = rw c.in_ok-scan_owners.was at (c.scan_owners.ensures.ok clean) in
    (seen.0, seen.1, (seen.2 tt).1)

pub returns-in_err-scan_owners-clause-failed : goal.returns-in_err-scan_owners-clause-failed
returns-in_err-scan_owners-clause-failed g c = scan_failed g.S.Store c.args.conn.now c.scan_owners.new.conn c.from_residual.result c.in_err-scan_owners.field-0.0 c.in_err-scan_owners.ensures.failed c.from_residual.ensures.1
