-- The effect of a transaction over the tables, and of the transaction with two statements: the row of a
-- volume, and the next number.
use Rattle.std.proofs.Common.{◌≡◌, ◌∙◌, ◌∷◌, inr, refl, sym, ap, subst, arith, map, true, ℕ, Ok, Err, Result, OnOk, IsPermutation}
use Rattle.std.specs.Result.{IsErrAnd}
use Rattle.sqlite.specs.Effect.{Database}
use Rattle.sqlite.specs.Held.{Held, state}
use Rattle.sqlite.specs.Order.{Row}
use Rattle.sqlite.specs.State.{State, HasCleanDisk, Survives}
use Rattle.sqlite.specs.Store as store
use Rattle.sqlite.specs.declared.error.Error.{Error}
use Rattle.sqlite.proofs.InsideLemmas.{keeps_then}
use Rattle.sqlite.proofs.StateLemmas.{survives_then}
use Rattle.csi_sql.specs.Transactions.{CommitsOver, RunsOver}
use Rattle.csi_sql.specs.facts.Failing.{Committed, Dropped, commits, fails_after, undoes}
use Rattle.csi_sql.specs.Failing.{FailsOver}
use Rattle.csi_sql.specs.Refusing.{RefusesNext, RefusesNumbered}
use Rattle.csi_sql.specs.Rows.{seen_meta}
use Rattle.csi_sql.specs.Effects.{AddsNumbered, AddsVolume, SetsNext, Steps}
use Rattle.csi_sql.specs.Tables.{schema}

-- the row and the number, in order
adds_numbered : (old mid new : State) (row : Row) (next : ℕ) → Steps (AddsVolume row) old mid → Steps (SetsNext next) mid new → Steps (AddsNumbered row next) old new
adds_numbered old mid new row next one two = record {
  shown = record {
    was_open = one.shown.was_open;
    is_open = two.shown.is_open;
    now_is = refl;
    committed_is = two.shown.committed_is ∙ one.shown.committed_is;
    mode = two.shown.mode;
  };
  effect = λ has.
      let first = one.effect has in
      let second = two.effect (first.schema ∙ has) in
      record {
        schema = second.schema ∙ first.schema;
        sound = second.sound;
        rows = subst (λ t. IsPermutation (row ∷ old.now.trees 1) t) (sym second.volumes) first.rows;
        meta = λ format was at. second.meta format was (ap (map seen_meta) first.meta ∙ at);
        attachments = second.attachments ∙ first.attachments;
      };
}

module _ (row : Row) (next : ℕ) (a b c : State) (one : Steps (AddsVolume row) a b) where
  both_step : {Y : Type 0} (r : Result Y Error) → OnOk r (Steps (SetsNext next) b c) → OnOk r (Steps (AddsNumbered row next) a c)
  both_step (Ok y) two = adds_numbered a b c row next one two
  both_step (Err e) two = tt

  second_fails : {Y : Type 0} (r : Result Y Error) → Survives a b (λ _. ⊥) → FailsOver schema (RefusesNext next) b c r → FailsOver schema (RefusesNumbered row next) a c r
  second_fails (Ok y) left failed has = tt
  second_fails (Err e) left failed has =
      fails_after (RefusesNext next b) (RefusesNumbered row next a) a b c e left.counts one.shown.is_open left.limit
      (λ why. inr (b.now, one.effect, subst (λ limit. RefusesNext next (record a { now = b.now; step_limit = limit }) e) left.limit why)) (failed ((one.effect has).schema ∙ has))

pub runs_both : {S X Y : Type 0} {g : store.Ghosts S} {a b c : Held S} {P : State → Error → Type 0} {x : X} (row : Row) (next : ℕ) (r : Result Y Error) → RunsOver g a b schema (AddsVolume row) P (Ok x)
    → RunsOver g b c schema (SetsNext next) (RefusesNext next) r → RunsOver g a c schema (AddsNumbered row next) (RefusesNumbered row next) r
runs_both {g = g} {a = a} {b = b} {c = c} row next r one two =
    let earlier : HasCleanDisk (state g c) → HasCleanDisk (state g b) = λ clean. omega (arith, two.survives.clean) in
    record {
      ok = λ clean inside. let step = one.ok (earlier clean) inside in both_step row next (state g a) (state g b) (state g c) step r (two.ok clean step.shown.mode);
      failed = λ clean inside. let step = one.ok (earlier clean) inside in second_fails row next (state g a) (state g b) (state g c) step r one.survives (two.failed clean step.shown.mode);
      kept = λ clean inside. let step = one.ok (earlier clean) inside in keeps_then (state g a) (state g b) (state g c) (one.kept (earlier clean) inside) (two.kept clean step.shown.mode);
      survives = survives_then (state g a) (state g b) (state g c) (λ _. ⊥) (λ _. ⊥) (λ _. ⊥) (λ _ db none. none) (λ _ db none. none) one.survives two.survives;
    }

-- ---- a transaction over the tables

module _ {S : Type 0} (g : store.Ghosts S) (old : Held S) {X : Type 0} {Effect : Database → Database → Type 0} {Why Refuses : State → Error → Type 0} {mid new : Held S} where
  -- a transaction whose first statement failed
  pub undone : {Y : Type 0} {First : Database → Database → Type 0} {e : Error} (r : Result Y Error) → (Why (state g (record old { in_transaction = true })) e → Refuses (state g old) e)
      → RunsOver g (record old { in_transaction = true }) mid {X = X} schema First Why (Err e) → (end : Held S) → Dropped g schema old mid end → end ≡ new → IsErrAnd r (λ x. x ≡ e) → CommitsOver g old new schema Effect Refuses r
  undone {e = e} r why ran end dropped at is = undoes g schema old r e why ran end dropped at is

  -- a transaction whose statements succeeded
  pub done : {x : X} (r : Result (Unit {0}) Error) → RunsOver g (record old { in_transaction = true }) mid schema Effect Why (Ok x) → (end : Held S) → Committed g schema old mid end r → end ≡ new → CommitsOver g old new schema Effect Refuses r
  done r ran end ended at = commits g schema old r ran end ended at
