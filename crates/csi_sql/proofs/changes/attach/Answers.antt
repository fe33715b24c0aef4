use Rattle.std.proofs.Common.{rules}
use Rattle.csi_sql.proofs.CommitLemmas.{done, undone}
use Rattle.csi_sql.proofs.changes.attach.Goals as goal

pub returns : goal.returns
returns g c = done g.S.Store c.args.conn.now c.commit.result (rw (c.transaction-tx.ensures.begun, c.conn.view_is) at c.in_ok-insert_attachment.ensures.runs) c.commit.new.self.0 c.commit.ensures (search rules)

pub returns-in_err-insert_attachment : goal.returns-in_err-insert_attachment
returns-in_err-insert_attachment g c =
    undone g.S.Store c.args.conn.now c.from_residual.result (λ why. why) (rw (c.transaction-tx.ensures.begun, c.conn.view_is) at c.in_err-insert_attachment.ensures.runs) c.drop-tx.new.self.0 c.drop-tx.ensures (search rules) c.from_residual.ensures.1
