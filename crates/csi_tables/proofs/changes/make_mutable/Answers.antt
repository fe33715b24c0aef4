use Rattle.std.specs.Option.{option_map}
use Rattle.std.proofs.Common.{◌≡◌, ◌∙◌, refl, sym, ap, subst, arith, Option, Some, None, IsSome, true≢false, [], ◌∷◌, rules}
use Rattle.sqlite.specs.Held.{state}
use Rattle.sqlite.specs.declared.types.Value.TheVariants.{Blob}
use Rattle.csi_types.specs.Maps.{TextMap}
use Rattle.csi_keeper.specs.declared.change.Change.TheVariants.{SetMutable}
use Rattle.csi_keeper.specs.declared.volume.Volume.{Volume}
use Rattle.csi_sql.specs.Rows.{number_value}
use Rattle.csi_sql.specs.Texts as texts
use Rattle.csi_sql.specs.Updates.{SetsParams}
use Rattle.csi_columns.specs.Encoding.{params_bytes, FitParams}
use Rattle.csi_tables.specs.Holding.{IsStorable}
use Rattle.csi_tables.proofs.ChangeLemmas.{changes_after, changes_never, changes_not_after, stays, unmade}
use Rattle.csi_tables.proofs.KeepLemmas.{is_quiet, fails_quiet, on_err, on_ok_so}
use Rattle.csi_tables.proofs.RowLemmas.{none_set, nothing_set, rows_mutable, stands_in, storable_mutable}
use Rattle.csi_tables.proofs.RefusalLemmas.{refuses_same}
use Rattle.csi_tables.proofs.changes.make_mutable.Goals as goal

none_stands : (o : Option Volume) → option_map (λ (v : Volume). v.params) o ≡ None → o ≡ None
none_stands None is = refl
none_stands (Some v) is = absurd cc

one_stands : (o : Option Volume) (p : TextMap) → option_map (λ (v : Volume). v.params) o ≡ Some p → (v : Volume) × (o ≡ Some v) × (v.params ≡ p)
one_stands None p is = absurd cc
one_stands (Some v) p is = (v, refl, cc)

pub returns-then-number-ge-NUMBERS-clause-changes : goal.returns-then-number-ge-NUMBERS-clause-changes
returns-then-number-ge-NUMBERS-clause-changes g c =
    stays (SetMutable c.args.number c.args.mutable.now) (nothing_set c.args.number c.args.mutable.now c.if-number-ge-NUMBERS.true) c.make_nothing.ensures

pub returns-then-number-ge-NUMBERS-clause-stored : goal.returns-then-number-ge-NUMBERS-clause-stored
returns-then-number-ge-NUMBERS-clause-stored g c =
    on_ok_so (λ made clean s held h. subst IsStorable (sym (nothing_set c.args.number c.args.mutable.now c.if-number-ge-NUMBERS.true s h)) h) c.make_nothing.result c.make_nothing.ensures.made

pub returns-in_err-stands-clause-changes : goal.returns-in_err-stands-clause-changes
returns-in_err-stands-clause-changes g c =
    unmade (SetMutable c.args.number c.args.mutable.now) c.from_residual.result c.in_err-stands.field-0.0 c.in_err-stands.ensures.reads c.from_residual.ensures.1

pub returns-in_default-clause-changes : goal.returns-in_default-clause-changes
returns-in_default-clause-changes g c =
    changes_never (SetMutable c.args.number c.args.mutable.now) c.in_ok-stands.ensures.reads
    (λ clean s held allowed. true≢false (sym (subst (λ (o : Option Volume). IsSome o) (sym (c.in_ok-stands.ensures.reads.value clean s held) ∙ none_stands c.in_ok-stands.stands (sym c.params_of.ensures ∙ c.in_default.is)) allowed)))

pub returns-in_default-clause-stored : goal.returns-in_default-clause-stored
returns-in_default-clause-stored g c clean s held h =
    subst IsStorable (sym (none_set c.args.number c.args.mutable.now s (sym (c.in_ok-stands.ensures.reads.value clean s held) ∙ none_stands c.in_ok-stands.stands (sym c.params_of.ensures ∙ c.in_default.is)))) h

pub returns-in_err-params-clause-changes : goal.returns-in_err-params-clause-changes
returns-in_err-params-clause-changes g c = record {
  made = search rules;
  failed = on_err c.from_residual-in_err-params.result (fails_quiet g.S.Store (SetMutable c.args.number c.args.mutable.now) c.args.conn.now c.by_number.new.conn (is_quiet g.S.Store c.args.conn.now c.by_number.new.conn c.by_number.ensures.reads.undone c.by_number.ensures.reads.survives));
  refused = search rules;
  limit = c.by_number.ensures.reads.survives.limit;
}

pub returns-in_err-set_params-clause-changes : goal.returns-in_err-set_params-clause-changes
returns-in_err-set_params-clause-changes g c =
    let n = c.args.number in
    let m = c.args.mutable.now in
    let found = one_stands c.in_ok-stands.stands c.in-Some.params (sym c.params_of.ensures ∙ c.in-Some.is) in
    let v = found.0 in
    let fits = subst (λ (p : TextMap). FitParams p m) (sym found.2) c.in_ok-params.ensures.fits in
    let bytes : c.deref.result.now ≡ params_bytes v.params m = c.deref.ensures.value ∙ c.in_ok-params.ensures.bytes ∙ ap (λ (p : TextMap). params_bytes p m) (sym found.2) in
    let e = c.in_err-set_params.field-0.0 in
    changes_not_after g.S.Store c.read_back.ensures (SetMutable n m) (SetsParams n (params_bytes v.params m)) (λ old new h. h.schema) c.by_number.ensures.reads
    (λ clean s held old new has p allowed h. rows_mutable s n m v old new has p (sym (c.in_ok-stands.ensures.reads.value (omega (arith, clean, c.set_params.ensures.survives.clean)) s held) ∙ found.1) fits h)
    c.from_residual-in_err-set_params.result e
    (λ clean s held shows now limit why. (v, stands_in s n v (state g.S.Store c.args.conn.now).now.trees shows.rows (sym (c.in_ok-stands.ensures.reads.value clean s held) ∙ found.1), e, refuses_same (texts.text texts.SetParams) (number_value n ∷ Blob (params_bytes v.params m) ∷ []) (state g.S.Store c.args.conn.now) (state g.S.Store c.by_number.new.conn) e now limit why))
    (rw bytes at c.in_err-set_params.ensures) c.from_residual-in_err-set_params.ensures.1

pub returns-clause-changes : goal.returns-clause-changes
returns-clause-changes g c =
    let n = c.args.number in
    let m = c.args.mutable.now in
    let found = one_stands c.in_ok-stands.stands c.in-Some.params (sym c.params_of.ensures ∙ c.in-Some.is) in
    let v = found.0 in
    let fits = subst (λ (p : TextMap). FitParams p m) (sym found.2) c.in_ok-params.ensures.fits in
    let bytes : c.deref.result.now ≡ params_bytes v.params m = c.deref.ensures.value ∙ c.in_ok-params.ensures.bytes ∙ ap (λ (p : TextMap). params_bytes p m) (sym found.2) in
    changes_after g.S.Store c.read_back.ensures (SetMutable n m) (SetsParams n (params_bytes v.params m)) (λ old new h. h.schema) c.by_number.ensures.reads
    (λ clean s held old new has p allowed h. rows_mutable s n m v old new has p (sym (c.in_ok-stands.ensures.reads.value (omega (arith, clean, c.set_params.ensures.survives.clean)) s held) ∙ found.1) fits h)
    g.met.S.Store.settled (rw bytes at c.in_ok-set_params.ensures)

pub returns-clause-stored : goal.returns-clause-stored
returns-clause-stored g c clean s held h =
    let found = one_stands c.in_ok-stands.stands c.in-Some.params (sym c.params_of.ensures ∙ c.in-Some.is) in
    storable_mutable s c.args.number c.args.mutable.now found.0 (sym (c.in_ok-stands.ensures.reads.value (omega (arith, clean, c.set_params.ensures.survives.clean)) s held) ∙ found.1)
    (subst (λ (p : TextMap). FitParams p c.args.mutable.now) (sym found.2) c.in_ok-params.ensures.fits) h
