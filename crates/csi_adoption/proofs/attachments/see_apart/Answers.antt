use Rattle.std.proofs.Common.{refl}
use Rattle.csi_adoption.proofs.PlaceLemmas.{do_not_fall}
use Rattle.csi_adoption.proofs.FailingLemmas.{scan_failed}
use Rattle.csi_adoption.proofs.attachments.see_apart.Goals as goal

pub returns-clause-seen : goal.returns-clause-seen
returns-clause-seen g c clean =
    let seen = rw c.in_ok-scan_places.was at (c.scan_places.ensures.ok clean) in
    (seen.0, seen.1, (seen.2 refl refl (do_not_fall seen.0 seen.1.sorted)).0)

pub returns-in_err-scan_places-clause-failed : goal.returns-in_err-scan_places-clause-failed
returns-in_err-scan_places-clause-failed g c = scan_failed g.S.Store c.args.conn.now c.scan_places.new.conn c.from_residual.result c.in_err-scan_places.field-0.0 c.in_err-scan_places.ensures.failed c.from_residual.ensures.1
