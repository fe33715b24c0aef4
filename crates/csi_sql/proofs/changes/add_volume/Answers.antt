use Rattle.std.proofs.Common.{◌+◌, inl, Ok, Err, rules}
use Rattle.csi_sql.specs.Rows.{volume_row}
use Rattle.csi_sql.proofs.CommitLemmas.{done, runs_both, undone}
use Rattle.csi_sql.proofs.changes.add_volume.Goals as goal

pub returns : goal.returns
returns g c =
    let row = volume_row c.args.volume c.args.name.now c.args.bytes c.args.pool.now c.args.caps.now c.args.params.now in
    let ran = runs_both row (c.args.volume + 1) (Ok c.in_ok-set_next.field-0) (rw (c.transaction-tx.ensures.begun, c.conn.view_is) at c.in_ok-insert_volume.ensures.runs) c.in_ok-set_next.ensures.runs in
    done g.S.Store c.args.conn.now c.commit.result ran c.commit.new.self.0 c.commit.ensures (search rules)

pub returns-in_err-insert_volume : goal.returns-in_err-insert_volume
returns-in_err-insert_volume g c =
    undone g.S.Store c.args.conn.now c.from_residual.result (λ why. inl why) (rw (c.transaction-tx.ensures.begun, c.conn.view_is) at c.in_err-insert_volume.ensures.runs)
    c.drop-tx.new.self.0 c.drop-tx.ensures (search rules) c.from_residual.ensures.1

pub returns-in_err-set_next : goal.returns-in_err-set_next
returns-in_err-set_next g c =
    let row = volume_row c.args.volume c.args.name.now c.args.bytes c.args.pool.now c.args.caps.now c.args.params.now in
    let ran = runs_both row (c.args.volume + 1) (Err c.in_err-set_next.field-0.0) (rw (c.transaction-tx.ensures.begun, c.conn.view_is) at c.in_ok-insert_volume.ensures.runs) c.in_err-set_next.ensures.runs in
    undone g.S.Store c.args.conn.now c.from_residual-in_err-set_next.result (λ why. why) ran
    c.drop-tx-in_err-set_next.new.self.0 c.drop-tx-in_err-set_next.ensures (search rules) c.from_residual-in_err-set_next.ensures.1
