use Rattle.std.proofs.Common.{rules}
use Rattle.csi_sql.proofs.CommitLemmas.{done, undone}
use Rattle.csi_sql.proofs.changes.detach_all.Goals as goal

pub returns : goal.returns
returns g c = done g.S.Store c.args.conn.now c.commit.result (rw (c.transaction-tx.ensures.begun, c.conn.view_is) at c.in_ok-delete_attachments.ensures.runs) c.commit.new.self.0 c.commit.ensures (search rules)

pub returns-in_err-delete_attachments : goal.returns-in_err-delete_attachments
returns-in_err-delete_attachments g c =
    undone g.S.Store c.args.conn.now c.from_residual.result (λ why. why) (rw (c.transaction-tx.ensures.begun, c.conn.view_is) at c.in_err-delete_attachments.ensures.runs) c.drop-tx.new.self.0 c.drop-tx.ensures (search rules) c.from_residual.ensures.1
