use Rattle.std.proofs.Common.{map, subst}
use Rattle.sqlite.specs.Tree.{Trees}
use Rattle.csi_constraints.specs.Scans.{keyed_attachment, IsInOrder}
use Rattle.csi_adoption.proofs.ChainLemmas.{clean_before, ended, failed, same_trees, chained}
use Rattle.csi_adoption.proofs.FailingLemmas.{cause_after, handed_error}
use Rattle.csi_adoption.proofs.adopting.see_tables.Goals as goal

pub returns-in_err-attachments-clause-scans : goal.returns-in_err-attachments-clause-scans
returns-in_err-attachments-clause-scans g c =
    failed g.S.Store c.args.conn.now c.see_attachments.new.conn _ c.from_residual-in_err-attachments.result c.from_residual-in_err-attachments.ensures.0
    (chained g.S.Store c.args.conn.now c.see_volumes.new.conn c.see_attachments.new.conn c.in_ok-volumes.volumes _ c.in_ok-volumes.ensures.scans c.in_err-attachments.ensures.scans)

pub returns-clause-scans : goal.returns-clause-scans
returns-clause-scans g c =
    ended g.S.Store c.args.conn.now c.see_attachments.new.conn c.in_ok-attachments.attachments _
    (chained g.S.Store c.args.conn.now c.see_volumes.new.conn c.see_attachments.new.conn c.in_ok-volumes.volumes _ c.in_ok-volumes.ensures.scans c.in_ok-attachments.ensures.scans)

pub returns-clause-seen : goal.returns-clause-seen
returns-clause-seen g c = λ clean.
    let before = clean_before g.S.Store c.see_volumes.new.conn c.see_attachments.new.conn _ c.in_ok-attachments.ensures.scans clean in
    let volumes = c.in_ok-volumes.ensures.seen before in
    let attachments = c.in_ok-attachments.ensures.seen clean in
    let same = same_trees g.S.Store c.args.conn.now c.see_volumes.new.conn (c.in_ok-volumes.ensures.scans.same before) in
    record {
      volume_rows = volumes.0;
      attachment_rows = attachments.0;
      volumes = volumes.1;
      attachments = subst (λ (db : Trees). IsInOrder (map keyed_attachment (db 3)) attachments.0) same attachments.1;
      sees = volumes.2;
      placed = attachments.2;
    }

pub returns-in_err-attachments-clause-failed : goal.returns-in_err-attachments-clause-failed
returns-in_err-attachments-clause-failed g c =
    handed_error g.S.Store c.args.conn.now c.see_attachments.new.conn c.from_residual-in_err-attachments.result c.in_err-attachments.field-0.0 c.from_residual-in_err-attachments.ensures.1
    (cause_after g.S.Store c.args.conn.now c.see_volumes.new.conn c.see_attachments.new.conn c.in_ok-volumes.volumes c.in_err-attachments.field-0.0 c.in_ok-volumes.ensures.scans c.in_err-attachments.ensures.scans.survives c.in_err-attachments.ensures.failed)

pub returns-in_err-volumes-clause-failed : goal.returns-in_err-volumes-clause-failed
returns-in_err-volumes-clause-failed g c = handed_error g.S.Store c.args.conn.now c.see_volumes.new.conn c.from_residual.result c.in_err-volumes.field-0.0 c.from_residual.ensures.1 c.in_err-volumes.ensures.failed
