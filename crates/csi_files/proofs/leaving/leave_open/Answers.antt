use Rattle.csi_files.proofs.LeaveLemmas.{leaves, was_open}
use Rattle.csi_files.proofs.leaving.leave_open.Goals as goal

pub returns-clause-left : goal.returns-clause-left
returns-clause-left g c =
    let back = c.into_store-store.ensures in
    leaves g.D.Disk c.args.conn c.into_store-store.result c.close.result c.close.ensures back.numbered back.sound back.quiet

pub returns-clause-open : goal.returns-clause-open
returns-clause-open g c =
    was_open g.D.Disk c.args.conn c.into_store-store.result c.close.result c.close.ensures c.into_store-store.ensures.undone c.is_broken-is_open.result c.is_broken-is_open.ensures.shown
