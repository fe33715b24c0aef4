-- The clauses on rows, as facts about the State.
use Rattle.std.proofs.Common.{◌≡◌, inl, inr, ◌∙◌, refl, sym, ap, subst, IsTrue, arith, Result, Ok, Err, OnOk, OnErr}
use Rattle.sqlite.specs.Effect.{Database}
use Rattle.sqlite.specs.Held.{Held, state}
use Rattle.sqlite.specs.State as sql
use Rattle.sqlite.specs.State.{HasCleanDisk, Survives}
use Rattle.sqlite.specs.Store.{Ghosts}
use Rattle.sqlite.specs.Tree.{Trees}
use Rattle.csi_keeper.specs.State.{State, changed, Allows}
use Rattle.csi_keeper.specs.Totals.{AreTotals, total_of}
use Rattle.csi_keeper.specs.Texts.{Text}
use Rattle.csi_keeper.specs.declared.change.Change.{Change}
use Rattle.csi_sql.specs.Tables.{schema}
use Rattle.csi_sql.specs.Effects.{Changes, Leaves}
use Rattle.csi_sql.specs.Transactions.{IsUndone}
use Rattle.csi_columns.specs.Encoding.{ReadsBack}
use Rattle.csi_tables.specs.Holding.{IsRows, IsStorable, Holds, Shows, Store, conn_holds, conn_doubt, ConnIsQuiet, ConnMakes, ConnFails, StoreMakes, StoreFails}
use Rattle.csi_tables.proofs.StateLemmas.{same_state}

kept_holds : (old new : sql.State) → IsUndone old new → (s : State) → Holds old s → Holds new s
kept_holds old new undone s h is_open =
    let shows = h (undone.was_open is_open) in
    let same : new.now ≡ old.now = undone.now is_open ∙ sym shows.settled in
    record {
      schema = ap (λ (d : Database). d.schema) same ∙ shows.schema;
      settled = undone.now is_open ∙ sym (undone.committed is_open);
      rows = subst (λ (d : Database). IsRows s d.trees) (sym same) shows.rows;
    }

module _ {S : Type 0} (g : Ghosts S) where
  -- a read, or a change that was not begun
  pub is_quiet : (old new : Held S) → (HasCleanDisk (state g new) → IsUndone (state g old) (state g new)) → Survives (state g old) (state g new) (λ _. ⊥)
      → ConnIsQuiet g old new
  is_quiet old new undone h = record {
    clean = h.clean;
    state = λ clean. kept_holds (state g old) (state g new) (undone clean);
    crash = λ clean t it. elim (h.crash clean it.0 it.1) [ inl before ↦ (it.0, before, it.2) | inr none ↦ absurd none ];
    ties = λ _ tied clean db may. elim (h.crash clean db may) [ inl before ↦ tied (omega (arith, h.clean)) db before | inr none ↦ absurd none ];
    down = refl;
  }

  -- no call
  pub stays_quiet : (h : Held S) → ConnIsQuiet g h h
  stays_quiet h = record { clean = omega arith; state = λ clean s held. held; crash = λ clean t it. it; ties = λ clean tied. tied; down = refl }

  -- a change by one transaction, after a call that kept the State
  module _ (back : ReadsBack) (change : Change) (Effect : Database → Database → Type 0) (keeps : (old new : Database) → Effect old new → new.schema ≡ old.schema)
      (before old new : Held S) (q : ConnIsQuiet g before old)
      (steps : HasCleanDisk (state g new) → (s : State) → conn_holds g before s → (db after : Database) → db.schema ≡ schema → IsRows s db.trees → Allows s change → Effect db after → IsRows (changed s change) after.trees)
      (h : Survives (state g old) (state g new) (Leaves Effect (state g old))) where
    shown : HasCleanDisk (state g new) → (s : State) → conn_holds g before s → IsTrue (state g old).is_open → Shows (state g old) s
    shown clean s held = q.state (omega (arith, h.clean)) s held

    pub makes_after : ((s : S) (db : Trees) → IsTrue (g.view s).is_open → g.recovers s db → db ≡ (g.view s).committed) → (HasCleanDisk (state g new) → Changes Effect (state g old) (state g new))
        → ConnMakes g before new change
    makes_after settled made =
        let after = λ (clean : HasCleanDisk (state g new)) (s : State) (held : conn_holds g before s) (allowed : Allows s change).
        let it = made clean in
        let shows = shown clean s held it.was_open in
        steps clean s held (state g old).now (state g new).now shows.schema shows.rows allowed (it.effect shows.schema) in
        record {
          clean = omega (arith, q.clean, h.clean);
          state = λ clean s held allowed is_open.
              let it = made clean in
              let shows = shown clean s held it.was_open in
              record { schema = keeps _ _ (it.effect shows.schema) ∙ shows.schema; settled = sym it.committed; rows = after clean s held allowed };
          settled = λ clean s held allowed t it.
              let done = made clean in
              let db : it.0 ≡ (state g new).now.trees = settled new.store it.0 done.is_open it.1 ∙ ap (λ (d : Database). d.trees) done.committed in
              same_state back t (changed s change) (state g new).now.trees (subst (IsRows t) db it.2) (after clean s held allowed);
          ties = λ clean s held allowed _ _ trees may.
              let done = made clean in
              let db : trees ≡ (state g new).now.trees = settled new.store trees done.is_open may ∙ ap (λ (d : Database). d.trees) done.committed in
              (changed s change, subst (IsRows (changed s change)) (sym db) (after clean s held allowed));
          down = refl;
        }

    pub fails_after : (HasCleanDisk (state g new) → IsUndone (state g old) (state g new)) → ConnFails g before new change
    fails_after undone =
        record {
          clean = omega (arith, q.clean, h.clean);
          state = λ clean s held allowed. kept_holds (state g old) (state g new) (undone clean) s (q.state (omega (arith, h.clean)) s held);
          crash = λ clean s held allowed t it. elim (h.crash clean it.0 it.1) [
            | inl same ↦ inl (q.crash (omega (arith, h.clean)) t (it.0, same, it.2))
            | inr left ↦
                let shows = shown clean s held left.0 in
                inr (same_state back t (changed s change) left.1.trees (subst (IsRows t) left.3 it.2) (steps clean s held (state g old).now left.1 shows.schema shows.rows allowed (left.2 shows.schema)))
          ];
          ties = λ clean s held allowed tied _ trees may. elim (h.crash clean trees may) [
            | inl same ↦ q.ties (omega (arith, h.clean)) tied (omega (arith, h.clean)) trees same
            | inr left ↦
                let shows = shown clean s held left.0 in
                (changed s change, subst (IsRows (changed s change)) (sym left.3) (steps clean s held (state g old).now left.1 shows.schema shows.rows allowed (left.2 shows.schema)))
          ];
        }

  -- a change by one transaction
  module _ (back : ReadsBack) (change : Change) (Effect : Database → Database → Type 0) (keeps : (old new : Database) → Effect old new → new.schema ≡ old.schema)
      (steps : (s : State) (db after : Database) → db.schema ≡ schema → IsRows s db.trees → Allows s change → Effect db after → IsRows (changed s change) after.trees)
      (old new : Held S) (h : Survives (state g old) (state g new) (Leaves Effect (state g old))) where
    pub makes : ((s : S) (db : Trees) → IsTrue (g.view s).is_open → g.recovers s db → db ≡ (g.view s).committed) → (HasCleanDisk (state g new) → Changes Effect (state g old) (state g new))
        → ConnMakes g old new change
    makes = makes_after back change Effect keeps old old new (stays_quiet old) (λ clean s held. steps s) h

    pub fails : (HasCleanDisk (state g new) → IsUndone (state g old) (state g new)) → ConnFails g old new change
    fails = fails_after back change Effect keeps old old new (stays_quiet old) (λ clean s held. steps s) h

module _ {S : Type 0} (g : Ghosts S) (change : Change) (old new : Held S) where
  -- a read that fails makes no change
  pub fails_quiet : ConnIsQuiet g old new → ConnFails g old new change
  fails_quiet q = record { clean = q.clean; state = λ z s held allowed. q.state z s held; crash = λ z s held allowed t it. inl (q.crash z t it); ties = λ z s held allowed. q.ties z }

  -- a change that changes nothing is made by a read that finds the connection open
  pub makes_nothing : ReadsBack → ((s : S) (db : Trees) → IsTrue (g.view s).is_open → g.recovers s db → db ≡ (g.view s).committed) → ((s : State) → IsStorable s → changed s change ≡ s)
      → ConnIsQuiet g old new → (conn_doubt g new ≡ 0 → IsTrue (state g old).is_open) → ConnMakes g old new change
  makes_nothing back settled same q was_open = record {
    clean = q.clean;
    state = λ z s held allowed. subst (conn_holds g new) (sym (same s (held (was_open z)).rows.storable)) (q.state z s held);
    settled = λ z s held allowed t it.
        let shows = held (was_open z) in
        let before = q.crash z t it in
        let db : before.0 ≡ (state g old).now.trees = settled old.store before.0 (was_open z) before.1 ∙ ap (λ (d : Database). d.trees) (sym shows.settled) in
        same_state back t s (state g old).now.trees (subst (IsRows t) db before.2) shows.rows ∙ sym (same s shows.rows.storable);
    ties = λ z s held allowed. q.ties z;
    down = refl;
  }

module _ {S : Type 0} (g : Ghosts S) (change : Change) (old new : Held S) where
  -- a read that finds that the change is not allowed
  pub makes_never : ConnIsQuiet g old new → (conn_doubt g new ≡ 0 → (s : State) → conn_holds g old s → Allows s change → ⊥) → ConnMakes g old new change
  makes_never q never = record {
    clean = q.clean;
    state = λ z s held allowed. absurd (never z s held allowed);
    settled = λ z s held allowed. absurd (never z s held allowed);
    ties = λ z s held allowed. absurd (never z s held allowed);
    down = refl;
  }

-- ---- the totals with a connection

module _ {S : Type 0} (g : Ghosts S) (change : Change) (old new : Store S) where
  pub store_makes : ((s : State) → conn_doubt g new.0 ≡ 0 → conn_holds g old.0 s → Allows s change → IsStorable s → AreTotals old.1 s → AreTotals new.1 (changed s change))
      → ((s : State) → conn_doubt g new.0 ≡ 0 → conn_holds g old.0 s → Allows s change → IsStorable s → IsStorable (changed s change)) → ConnMakes g old.0 new.0 change → StoreMakes g old new change
  store_makes totals storable h = record {
    clean = h.clean;
    state = λ clean s held allowed. (h.state clean s held.0 allowed, totals s clean held.0 allowed held.2 held.1, storable s clean held.0 allowed held.2);
    settled = λ clean s held allowed. h.settled clean s held.0 allowed;
    ties = λ clean s held allowed. h.ties clean s held.0 allowed;
    down = refl;
  }

  pub store_fails : ((q : Text) → total_of new.1 q ≡ total_of old.1 q) → ConnFails g old.0 new.0 change → StoreFails g old new change
  store_fails totals h = record {
    clean = h.clean;
    state = λ clean s held allowed. (h.state clean s held.0 allowed, (λ q. totals q ∙ held.1 q), held.2);
    crash = λ clean s held allowed. h.crash clean s held.0 allowed;
    ties = λ clean s held allowed. h.ties clean s held.0 allowed;
  }

pub on_err : {X E : Type 0} {P : Type 0} (r : Result X E) → P → OnErr r P
on_err (Ok x) p = tt
on_err (Err e) p = p

pub on_ok_so : {X E : Type 0} {P Q : Type 0} → (P → Q) → (r : Result X E) → OnOk r P → OnOk r Q
on_ok_so f (Ok x) p = f p
on_ok_so f (Err e) p = tt

pub on_err_so : {X E : Type 0} {P Q : Type 0} → (P → Q) → (r : Result X E) → OnErr r P → OnErr r Q
on_err_so f (Ok x) p = tt
on_err_so f (Err e) p = f p
