use Rattle.std.proofs.Common.{refl, sym, subst}
use Rattle.sqlite.specs.Held.{state}
use Rattle.csi_keeper.specs.declared.change.Change.{Change}
use Rattle.csi_keeper.specs.declared.change.Change.TheVariants.{Attach, Detach, DetachAll, SetMutable}
use Rattle.csi_keeper.specs.facts.Mutable.{totals_kept}
use Rattle.csi_tables.specs.Refusing.{RefusesChange, StoreChanges}
use Rattle.csi_tables.proofs.ChangeLemmas.{beside, on_ok}
use Rattle.csi_tables.proofs.KeepLemmas.{on_err, on_ok_so}
use Rattle.csi_tables.proofs.RowLemmas.{storable_attached, storable_detached, storable_detached_all}
use Rattle.csi_tables.proofs.changes.make.Goals as goal

pub returns-in-AddVolume : goal.returns-in-AddVolume
returns-in-AddVolume g c =
    subst (λ (x : Change). StoreChanges g.S.Store (c.args.conn.now, c.args.totals.now) (c.make_volume.new.conn, c.make_volume.new.totals) x (RefusesChange x c.args.totals.now (state g.S.Store c.args.conn.now)) c.make_volume.result) (sym c.in-AddVolume.is)
    c.make_volume.ensures

pub returns-in-RemoveVolume : goal.returns-in-RemoveVolume
returns-in-RemoveVolume g c =
    subst (λ (x : Change). StoreChanges g.S.Store (c.args.conn.now, c.args.totals.now) (c.unmake_volume.new.conn, c.unmake_volume.new.totals) x (RefusesChange x c.args.totals.now (state g.S.Store c.args.conn.now)) c.unmake_volume.result) (sym c.in-RemoveVolume.is)
    c.unmake_volume.ensures

pub returns-in-Attach : goal.returns-in-Attach
returns-in-Attach g c =
    subst (λ (x : Change). StoreChanges g.S.Store (c.args.conn.now, c.args.totals.now) (c.make_attachment.new.conn, c.args.totals.now) x (RefusesChange x c.args.totals.now (state g.S.Store c.args.conn.now)) c.make_attachment.result) (sym c.in-Attach.is)
    (beside c.make_attachment.result (Attach c.in-Attach.number c.in-Attach.attachment) (on_ok c.make_attachment.result (λ s clean held allowed storable totals. totals))
    (on_ok_so (λ stored s clean held allowed h. storable_attached s c.in-Attach.number c.in-Attach.attachment stored.0 stored.1 stored.2 allowed.1 h) c.make_attachment.result c.make_attachment.ensures.stored) (on_err c.make_attachment.result (λ q. refl)) c.make_attachment.ensures.changes)

pub returns-in-Detach : goal.returns-in-Detach
returns-in-Detach g c =
    subst (λ (x : Change). StoreChanges g.S.Store (c.args.conn.now, c.args.totals.now) (c.unmake_attachment.new.conn, c.args.totals.now) x (RefusesChange x c.args.totals.now (state g.S.Store c.args.conn.now)) c.unmake_attachment.result) (sym c.in-Detach.is)
    (beside c.unmake_attachment.result (Detach c.in-Detach.number c.in-Detach.node) (on_ok c.unmake_attachment.result (λ s clean held allowed storable totals. totals))
    (on_ok c.unmake_attachment.result (λ s clean held allowed h. storable_detached s c.in-Detach.number c.in-Detach.node h)) (on_err c.unmake_attachment.result (λ q. refl)) c.unmake_attachment.ensures)

pub returns-in-DetachAll : goal.returns-in-DetachAll
returns-in-DetachAll g c =
    subst (λ (x : Change). StoreChanges g.S.Store (c.args.conn.now, c.args.totals.now) (c.unmake_attachments.new.conn, c.args.totals.now) x (RefusesChange x c.args.totals.now (state g.S.Store c.args.conn.now)) c.unmake_attachments.result) (sym c.in-DetachAll.is)
    (beside c.unmake_attachments.result (DetachAll c.in-DetachAll.number) (on_ok c.unmake_attachments.result (λ s clean held allowed storable totals. totals))
    (on_ok c.unmake_attachments.result (λ s clean held allowed h. storable_detached_all s c.in-DetachAll.number h)) (on_err c.unmake_attachments.result (λ q. refl)) c.unmake_attachments.ensures)

pub returns-in-SetMutable : goal.returns-in-SetMutable
returns-in-SetMutable g c =
    subst (λ (x : Change). StoreChanges g.S.Store (c.args.conn.now, c.args.totals.now) (c.make_mutable.new.conn, c.args.totals.now) x (RefusesChange x c.args.totals.now (state g.S.Store c.args.conn.now)) c.make_mutable.result) (sym c.in-SetMutable.is)
    (beside c.make_mutable.result (SetMutable c.in-SetMutable.number c.in-SetMutable.mutable) (on_ok c.make_mutable.result (λ s clean held allowed storable totals. totals_kept c.args.totals.now s c.in-SetMutable.number c.in-SetMutable.mutable totals))
    (on_ok_so (λ stored s clean held allowed h. stored clean s held h) c.make_mutable.result c.make_mutable.ensures.stored) (on_err c.make_mutable.result (λ q. refl)) c.make_mutable.ensures.changes)
