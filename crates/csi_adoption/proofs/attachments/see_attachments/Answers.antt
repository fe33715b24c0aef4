use Rattle.std.proofs.Common.{subst, sym}
use Rattle.csi_adoption.specs.Judging.{SeesAttachments}
use Rattle.csi_adoption.proofs.SeeingLemmas.{sees_attachments}
use Rattle.csi_adoption.proofs.FailingLemmas.{fallen, scan_failed, scan_short, unrisen_attachments}
use Rattle.csi_adoption.proofs.attachments.see_attachments.Goals as goal

pub returns-clause-seen : goal.returns-clause-seen
returns-clause-seen g c clean =
    let seen = rw c.in_ok-scanned.was at (c.scan_attachments-scanned.ensures.ok clean) in (
      seen.0,
      seen.1,
      subst (SeesAttachments c.args.config.now seen.0) (sym c.into_seen-seen.ensures) (sees_attachments c.args.config.now _ seen.0 _ c.in_ok-fold.ensures seen.2 c.if-not-rises.false),
    )

pub returns-in_err-fold-clause-failed : goal.returns-in_err-fold-clause-failed
returns-in_err-fold-clause-failed g c = scan_short g.S.Store c.args.conn.now c.args.conn.now c.from_residual.result c.from_residual.ensures.1

pub returns-in_err-scanned-clause-failed : goal.returns-in_err-scanned-clause-failed
returns-in_err-scanned-clause-failed g c =
    scan_failed g.S.Store c.args.conn.now c.scan_attachments-scanned.new.conn c.from_residual-in_err-scanned.result c.in_err-scanned.field-0.0 (rw c.in_err-scanned.was at c.scan_attachments-scanned.ensures.failed) c.from_residual-in_err-scanned.ensures.1

pub returns-then-not-rises-clause-failed : goal.returns-then-not-rises-clause-failed
returns-then-not-rises-clause-failed g c =
    unrisen_attachments g.S.Store c.args.conn.now c.scan_attachments-scanned.new.conn (rw c.in_ok-scanned.was at c.scan_attachments-scanned.ensures.same) (λ clean.
    let seen = rw c.in_ok-scanned.was at (c.scan_attachments-scanned.ensures.ok clean) in
    (seen.0, seen.1, fallen _ seen.0 _ c.in_ok-fold.ensures.rising seen.2.rising c.if-not-rises.true))
