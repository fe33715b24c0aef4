use Rattle.csi_files.proofs.LeaveLemmas.{holds_commit, still_left}
use Rattle.csi_files.proofs.leaving.close.Goals as goal

pub returns-in-Ok-clause-copied : goal.returns-in-Ok-clause-copied
returns-in-Ok-clause-copied g c clean =
    let left = c.leave_open-files.ensures in
    holds_commit g.D.Disk g.met.D.Disk.seen_may_stay c.args.conn c.leave_open-files.result.0 c.in-Ok.files left.left (λ sure. left.open sure c.if-not-is_open.false) c.in-Ok.ensures.moved clean

pub returns-in-Ok-clause-left : goal.returns-in-Ok-clause-left
returns-in-Ok-clause-left g c =
    still_left g.D.Disk g.met.D.Disk.seen_may_stay c.args.conn c.leave_open-files.result.0 c.in-Ok.files c.leave_open-files.ensures.left c.in-Ok.ensures.moved.keeps

pub returns-in-Err-clause-uncopied : goal.returns-in-Err-clause-uncopied
returns-in-Err-clause-uncopied g c = (
  still_left g.D.Disk g.met.D.Disk.seen_may_stay c.args.conn c.leave_open-files.result.0 c.in-Err.left c.leave_open-files.ensures.left c.in-Err.ensures.kept,
  c.cause_of-cause.result,
  c.store_error-in-Err.ensures,
)
