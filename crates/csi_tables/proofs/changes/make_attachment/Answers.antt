use Rattle.std.proofs.Common.{inr, ◌∙◌, arith, [], ◌∷◌}
use Rattle.csi_keeper.specs.declared.change.Change.TheVariants.{Attach}
use Rattle.csi_sql.specs.Effects.{AddsAttachment}
use Rattle.csi_sql.specs.Rows.{attachment_row}
use Rattle.csi_columns.specs.Encoding.{caps_bytes}
use Rattle.csi_tables.proofs.ChangeLemmas.{changes, changes_not}
use Rattle.csi_tables.proofs.RowLemmas.{rows_attached}
use Rattle.csi_tables.proofs.changes.make_attachment.Goals as goal

pub returns-in_err-attach-clause-changes : goal.returns-in_err-attach-clause-changes
returns-in_err-attach-clause-changes g c =
    let a = c.args.attachment.now in
    changes_not g.S.Store c.read_back.ensures (Attach c.args.number a) (AddsAttachment (attachment_row c.args.number a.node (caps_bytes (a.cap ∷ [])) a.readonly)) (λ old new h. h.schema)
    (λ s old new has p allowed h. rows_attached s c.args.number a old new has p (omega (arith, c.if-number-ge-NUMBERS.false)) c.as_str.ensures.utf8 c.in_ok-cap.ensures.fits allowed.1 h)
    c.from_residual-in_err-attach.result c.in_err-attach.field-0.0 (λ why. inr (c.in_err-attach.field-0.0, why))
    (rw (c.as_str.ensures.bytes, c.deref.ensures.value ∙ c.in_ok-cap.ensures.bytes) at c.in_err-attach.ensures) c.from_residual-in_err-attach.ensures.1

pub returns-clause-changes : goal.returns-clause-changes
returns-clause-changes g c =
    let a = c.args.attachment.now in
    changes g.S.Store c.read_back.ensures (Attach c.args.number a) (AddsAttachment (attachment_row c.args.number a.node (caps_bytes (a.cap ∷ [])) a.readonly)) (λ old new h. h.schema)
    (λ s old new has p allowed h. rows_attached s c.args.number a old new has p (omega (arith, c.if-number-ge-NUMBERS.false)) c.as_str.ensures.utf8 c.in_ok-cap.ensures.fits allowed.1 h)
    g.met.S.Store.settled (rw (c.as_str.ensures.bytes, c.deref.ensures.value ∙ c.in_ok-cap.ensures.bytes) at c.in_ok-attach.ensures)
