use Rattle.std.proofs.Common.{rules, inr, ◌≡◌, ◌∙◌, ap, subst, arith, ◌+◌, List, Ok}
use Rattle.csi_keeper.specs.declared.capability.CapKey.{CapKey}
use Rattle.csi_keeper.specs.declared.change.Change.TheVariants.{AddVolume}
use Rattle.csi_keeper.specs.facts.Totals.{totals_added}
use Rattle.csi_sql.specs.Effects.{AddsNumbered}
use Rattle.csi_sql.specs.Rows.{volume_row}
use Rattle.csi_columns.specs.Encoding.{caps_bytes, params_bytes, FitCaps}
use Rattle.csi_tables.proofs.ChangeLemmas.{beside, changes, changes_not, never_ok}
use Rattle.csi_tables.proofs.KeepLemmas.{on_err}
use Rattle.csi_tables.proofs.RowLemmas.{rows_added, storable_added}
use Rattle.csi_tables.proofs.TotalsLemmas.{counted_after}
use Rattle.csi_tables.proofs.changes.make_volume.Goals as goal

pub returns-in_err-add_volume : goal.returns-in_err-add_volume
returns-in_err-add_volume g c =
    let v = c.args.volume.now in
    let caps : c.deref.result.now ≡ caps_bytes v.caps = c.deref.ensures.value ∙ c.in_ok-caps.ensures.bytes ∙ ap caps_bytes c.as_slice.ensures in
    let fit = subst (λ (ks : List CapKey). FitCaps ks) c.as_slice.ensures c.in_ok-caps.ensures.fits in
    let params : c.deref-2.result.now ≡ params_bytes v.params v.mutable = c.deref-2.ensures.value ∙ c.in_ok-params.ensures.bytes in
    let r = c.from_residual-in_err-add_volume.result in
    let is = c.from_residual-in_err-add_volume.ensures.1 in
    beside r (AddVolume v) (never_ok r _ _ is) (never_ok r _ _ is) (on_err r c.reserve.ensures.unchanged) (changes_not g.S.Store c.read_back.ensures (AddVolume v) (AddsNumbered (volume_row v.number v.name v.bytes v.pool (caps_bytes v.caps) (params_bytes v.params v.mutable)) (v.number + 1)) (λ old new h. h.schema)
    (λ s old new has p allowed h. rows_added s v old new has p (omega (arith, c.requires.bounded.0)) c.as_str.ensures.utf8 c.as_str-2.ensures.utf8 fit c.in_ok-params.ensures.fits allowed h)
    r c.in_err-add_volume.field-0.0 (λ why. inr (c.in_err-add_volume.field-0.0, why)) (rw (c.as_str.ensures.bytes, c.as_str-2.ensures.bytes, caps, params) at c.in_err-add_volume.ensures) is)

pub returns : goal.returns
returns g c =
    let v = c.args.volume.now in
    let caps : c.deref.result.now ≡ caps_bytes v.caps = c.deref.ensures.value ∙ c.in_ok-caps.ensures.bytes ∙ ap caps_bytes c.as_slice.ensures in
    let fit = subst (λ (ks : List CapKey). FitCaps ks) c.as_slice.ensures c.in_ok-caps.ensures.fits in
    let params : c.deref-2.result.now ≡ params_bytes v.params v.mutable = c.deref-2.ensures.value ∙ c.in_ok-params.ensures.bytes in
    beside (Ok tt) (AddVolume v)
    (λ s clean held allowed storable totals. totals_added c.args.totals.now c.count.new.self s v allowed.1 totals (counted_after c.args.totals.now c.reserve.new.totals c.count.new.self v.pool v.bytes c.in_ok-reserve.ensures.room c.reserve.ensures.unchanged c.count.ensures.counted))
    (λ s clean held allowed h. storable_added s v (omega (arith, c.requires.bounded.0)) c.as_str.ensures.utf8 c.as_str-2.ensures.utf8 fit c.in_ok-params.ensures.fits allowed h) tt
    (changes g.S.Store c.read_back.ensures (AddVolume v) (AddsNumbered (volume_row v.number v.name v.bytes v.pool (caps_bytes v.caps) (params_bytes v.params v.mutable)) (v.number + 1)) (λ old new h. h.schema)
    (λ s old new has p allowed h. rows_added s v old new has p (omega (arith, c.requires.bounded.0)) c.as_str.ensures.utf8 c.as_str-2.ensures.utf8 fit c.in_ok-params.ensures.fits allowed h)
    g.met.S.Store.settled (rw (c.as_str.ensures.bytes, c.as_str-2.ensures.bytes, caps, params) at c.in_ok-add_volume.ensures))

pub returns-in_err-reserve : goal.returns-in_err-reserve
returns-in_err-reserve g c =
    let r = c.from_residual-in_err-reserve.result in
    let is = c.from_residual-in_err-reserve.ensures.1 in
    beside r (AddVolume c.args.volume.now) (never_ok r _ _ is) (never_ok r _ _ is) (on_err r c.reserve.ensures.unchanged) (search rules)
