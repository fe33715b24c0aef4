use Rattle.std.specs.Option.{option_map}
use Rattle.std.proofs.Common.{◌≡◌, ◌∙◌, ℕ, [], ◌∷◌, Option, Some, None, cond, sym, subst, arith, refl, Ok}
use Rattle.sqlite.specs.Held.{state}
use Rattle.csi_types.specs.Maps.{same_text}
use Rattle.csi_keeper.specs.Texts.{Text}
use Rattle.csi_keeper.specs.Totals.{AreTotals, less, total_of}
use Rattle.csi_keeper.specs.declared.change.Change.TheVariants.{RemoveVolume}
use Rattle.csi_keeper.specs.declared.totals.Totals.{Totals}
use Rattle.csi_keeper.specs.declared.volume.Volume.{Volume}
use Rattle.csi_keeper.specs.facts.Totals.{totals_removed}
use Rattle.csi_sql.specs.Deletes.{Drops, is_numbered}
use Rattle.csi_sql.specs.Rows.{number_value, seen_volume}
use Rattle.csi_sql.specs.Texts as texts
use Rattle.csi_tables.specs.Reading.{share}
use Rattle.csi_tables.proofs.ChangeLemmas.{beside, changes_after, changes_not_after, never_ok, on_ok, stays, unmade}
use Rattle.csi_tables.proofs.KeepLemmas.{on_err}
use Rattle.csi_tables.proofs.RowLemmas.{nothing_removed, none_removed, rows_removed, storable_removed}
use Rattle.csi_tables.proofs.RefusalLemmas.{refuses_same}
use Rattle.csi_tables.proofs.changes.unmake_volume.Goals as goal

none_shared : (o : Option Volume) → option_map share o ≡ None → o ≡ None
none_shared None is = refl
none_shared (Some v) is = absurd cc

one_shared : (o : Option Volume) (p : Text × ℕ) → option_map share o ≡ Some p → (v : Volume) × (o ≡ Some v) × (share v ≡ p)
one_shared None p is = absurd cc
one_shared (Some v) p is = (v, refl, cc)

-- the totals after a volume's share is subtracted
taken_as : (pools kept : Totals) (v : Volume) (p : Text × ℕ) → share v ≡ p → ((q : Text) → total_of kept q ≡ cond (same_text p.0 q) (less (total_of pools p.0) p.1) (total_of pools q))
    → (q : Text) → total_of kept q ≡ cond (same_text v.pool q) (less (total_of pools v.pool) v.bytes) (total_of pools q)
taken_as pools kept v p is taken = subst (λ (x : Text × ℕ). (q : Text) → total_of kept q ≡ cond (same_text x.0 q) (less (total_of pools x.0) x.1) (total_of pools q)) (sym is) taken

pub returns-then-number-ge-NUMBERS : goal.returns-then-number-ge-NUMBERS
returns-then-number-ge-NUMBERS g c =
    let n = c.args.number in
    let r = c.make_nothing.result in
    let same = nothing_removed n c.if-number-ge-NUMBERS.true in
    beside r (RemoveVolume n) (on_ok r (λ s clean held allowed storable totals. subst (AreTotals c.args.totals.now) (sym (same s storable)) totals)) (on_ok r (λ s clean held allowed h. storable_removed s n h)) (on_err r (λ q. refl))
    (stays (RemoveVolume n) same c.make_nothing.ensures)

pub returns-in_err-found : goal.returns-in_err-found
returns-in_err-found g c =
    let r = c.from_residual.result in
    let is = c.from_residual.ensures.1 in
    beside r (RemoveVolume c.args.number) (never_ok r _ _ is) (never_ok r _ _ is) (on_err r (λ q. refl)) (unmade (RemoveVolume c.args.number) r c.in_err-found.field-0.0 c.in_err-found.ensures is)

pub returns-in_err-remove_volume : goal.returns-in_err-remove_volume
returns-in_err-remove_volume g c =
    let n = c.args.number in
    let e = c.in_err-remove_volume.field-0.0 in
    let r = c.from_residual-in_err-remove_volume.result in
    let is = c.from_residual-in_err-remove_volume.ensures.1 in
    beside r (RemoveVolume n) (never_ok r _ _ is) (never_ok r _ _ is) (on_err r (λ q. refl)) (changes_not_after g.S.Store c.read_back.ensures (RemoveVolume n) (Drops 1 seen_volume (is_numbered n)) (λ old new h. h.schema) c.share.ensures (λ clean s held old new has p allowed h. rows_removed s n old new has p h)
    r e (λ clean s held shows now limit why. (e, refuses_same (texts.text texts.RemoveVolume) (number_value n ∷ []) (state g.S.Store c.args.conn.now) (state g.S.Store c.share.new.conn) e now limit why)) c.in_err-remove_volume.ensures is)

pub returns-in_default : goal.returns-in_default
returns-in_default g c =
    let n = c.args.number in
    beside (Ok tt) (RemoveVolume n)
    (λ s clean held allowed storable totals. subst (AreTotals c.args.totals.now) (sym (none_removed n s (none_shared _ (sym (c.in_ok-found.ensures.value (omega (arith, clean, c.remove_volume.ensures.survives.clean)) s held) ∙ c.in_default.is)))) totals)
    (λ s clean held allowed h. storable_removed s n h) tt (changes_after g.S.Store c.read_back.ensures (RemoveVolume n) (Drops 1 seen_volume (is_numbered n)) (λ old new h. h.schema) c.share.ensures (λ clean s held old new has p allowed h. rows_removed s n old new has p h)
    g.met.S.Store.settled c.in_ok-remove_volume.ensures)

pub returns : goal.returns
returns g c =
    let n = c.args.number in
    beside (Ok tt) (RemoveVolume n)
    (λ s clean held allowed storable totals.
    let found = one_shared _ (c.in-Some.pool, c.in-Some.bytes) (sym (c.in_ok-found.ensures.value (omega (arith, clean, c.remove_volume.ensures.survives.clean)) s held) ∙ c.in-Some.is) in
    totals_removed c.args.totals.now c.remove.new.self s n found.0 found.1 totals (taken_as c.args.totals.now c.remove.new.self found.0 (c.in-Some.pool, c.in-Some.bytes) found.2 c.remove.ensures))
    (λ s clean held allowed h. storable_removed s n h) tt (changes_after g.S.Store c.read_back.ensures (RemoveVolume n) (Drops 1 seen_volume (is_numbered n)) (λ old new h. h.schema) c.share.ensures (λ clean s held old new has p allowed h. rows_removed s n old new has p h)
    g.met.S.Store.settled c.in_ok-remove_volume.ensures)
