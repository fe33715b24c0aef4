use Rattle.csi_keeper.specs.declared.change.Change.TheVariants.{DetachAll}
use Rattle.csi_sql.specs.Deletes.{Drops, is_of}
use Rattle.csi_sql.specs.Rows.{seen_attachment}
use Rattle.csi_tables.proofs.ChangeLemmas.{changes, changes_not, stays}
use Rattle.csi_tables.proofs.RowLemmas.{nothing_detached_all, rows_detached_all}
use Rattle.csi_tables.proofs.changes.unmake_attachments.Goals as goal

pub returns-then-number-ge-NUMBERS : goal.returns-then-number-ge-NUMBERS
returns-then-number-ge-NUMBERS g c = stays (DetachAll c.args.number) (nothing_detached_all c.args.number c.if-number-ge-NUMBERS.true) c.make_nothing.ensures

pub returns-in_err-detach_all : goal.returns-in_err-detach_all
returns-in_err-detach_all g c =
    changes_not g.S.Store c.read_back.ensures (DetachAll c.args.number) (Drops 3 seen_attachment (is_of c.args.number)) (λ old new h. h.schema) (λ s old new has p allowed h. rows_detached_all s c.args.number old new has p h)
    c.from_residual.result c.in_err-detach_all.field-0.0 (λ why. (c.in_err-detach_all.field-0.0, why)) c.in_err-detach_all.ensures c.from_residual.ensures.1

pub returns : goal.returns
returns g c =
    changes g.S.Store c.read_back.ensures (DetachAll c.args.number) (Drops 3 seen_attachment (is_of c.args.number)) (λ old new h. h.schema) (λ s old new has p allowed h. rows_detached_all s c.args.number old new has p h)
    g.met.S.Store.settled c.in_ok-detach_all.ensures
