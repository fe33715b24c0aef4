use Rattle.csi_keeper.specs.declared.change.Change.TheVariants.{Detach}
use Rattle.csi_sql.specs.Deletes.{Drops, is_place}
use Rattle.csi_sql.specs.Rows.{seen_attachment}
use Rattle.csi_tables.proofs.ChangeLemmas.{changes, changes_not, stays}
use Rattle.csi_tables.proofs.RowLemmas.{nothing_detached, rows_detached}
use Rattle.csi_tables.proofs.changes.unmake_attachment.Goals as goal

pub returns-then-number-ge-NUMBERS : goal.returns-then-number-ge-NUMBERS
returns-then-number-ge-NUMBERS g c = stays (Detach c.args.number c.args.node.now) (nothing_detached c.args.number c.args.node.now c.if-number-ge-NUMBERS.true) c.make_nothing.ensures

pub returns-in_err-detach : goal.returns-in_err-detach
returns-in_err-detach g c =
    changes_not g.S.Store c.read_back.ensures (Detach c.args.number c.args.node.now) (Drops 3 seen_attachment (is_place c.args.number c.args.node.now)) (λ old new h. h.schema) (λ s old new has p allowed h. rows_detached s c.args.number c.args.node.now old new has p h)
    c.from_residual.result c.in_err-detach.field-0.0 (λ why. (c.in_err-detach.field-0.0, why)) (rw c.as_str.ensures.bytes at c.in_err-detach.ensures) c.from_residual.ensures.1

pub returns : goal.returns
returns g c =
    changes g.S.Store c.read_back.ensures (Detach c.args.number c.args.node.now) (Drops 3 seen_attachment (is_place c.args.number c.args.node.now)) (λ old new h. h.schema) (λ s old new has p allowed h. rows_detached s c.args.number c.args.node.now old new has p h)
    g.met.S.Store.settled (rw c.as_str.ensures.bytes at c.in_ok-detach.ensures)
