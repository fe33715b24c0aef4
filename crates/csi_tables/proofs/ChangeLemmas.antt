-- The effect of a change over a connection, from the effects of the calls below it.
use Rattle.std.proofs.Common.{◌≡◌, ◌∙◌, refl, arith, IsTrue, Result, Ok, Err, OnOk, OnErr}
use Rattle.std.specs.Result.{IsErrAnd}
use Rattle.sqlite.specs.Effect.{Database}
use Rattle.sqlite.specs.Held.{Held, state}
use Rattle.sqlite.specs.State as sql
use Rattle.sqlite.specs.State.{HasCleanDisk}
use Rattle.sqlite.specs.Store.{Ghosts}
use Rattle.sqlite.specs.Tree.{Trees}
use Rattle.sqlite.specs.declared.error.Error.{Error}
use Rattle.csi_keeper.specs.State.{State, changed, Allows}
use Rattle.csi_keeper.specs.Texts.{Text}
use Rattle.csi_keeper.specs.Totals.{AreTotals, total_of}
use Rattle.csi_keeper.specs.declared.change.Change.{Change}
use Rattle.csi_keeper.specs.declared.totals.Totals.{Totals}
use Rattle.csi_sql.specs.Tables.{schema}
use Rattle.csi_sql.specs.Transactions.{CommitsOver}
use Rattle.csi_tables.specs.Answers.{of_database}
use Rattle.csi_columns.specs.Encoding.{ReadsBack}
use Rattle.csi_tables.specs.Holding.{IsRows, IsStorable, Shows, conn_doubt, conn_holds}
use Rattle.csi_tables.specs.Refusing.{ConnChanges, ConnReads, ConnStays, StoreChanges}
use Rattle.csi_tables.specs.declared.fault.TablesFault.{TablesFault}
use Rattle.csi_tables.specs.declared.fault.TablesFault.TheVariants.{Refused}
use Rattle.csi_tables.proofs.CellLemmas.{handed_on}
use Rattle.csi_tables.proofs.KeepLemmas.{fails, fails_after, fails_quiet, is_quiet, makes, makes_after, makes_never, on_err, on_err_so, on_ok_so, store_fails, store_makes}
use Rattle.csi_tables.proofs.RefusalLemmas.{call_refused, refused_after, refused_so, reported_as}

-- an answer Ok is no refusal
made_unrefused : {X : Type 0} (x : X) (P : Type 0) → ◌≡◌ {A = Result X TablesFault} (Ok x) (Err Refused) → P
made_unrefused x P is = absurd cc

pub on_ok : {X P : Type 0} (r : Result X TablesFault) → P → OnOk r P
on_ok (Ok x) h = h
on_ok (Err fault) h = tt

pub never_ok : {X : Type 0} (r : Result X TablesFault) (P : TablesFault → Type 0) (Q : Type 0) → IsErrAnd r P → OnOk r Q
never_ok (Ok x) P Q is = absurd is
never_ok (Err fault) P Q is = tt

module _ {S X : Type 0} {g : Ghosts S} {old new : Held S} {Why : Type 0} where
  -- a change that changes nothing
  pub stays : {r : Result X TablesFault} (change : Change) → ((s : State) → IsStorable s → changed s change ≡ s) → ConnStays g old new r → ConnChanges g old new change Why r
  stays {r = r} change same h = record {
    made = on_ok_so (λ made. made change same) r h.made;
    failed = on_err_so (λ failed. failed change) r h.failed;
    refused = λ clean is s held known. refused_so ⊥ Why (state g old) (state g new) (λ none. absurd none) (h.refused clean is s held known);
    limit = h.limit;
  }

  -- a change after a read that failed
  pub unmade : {Z : Type 0} {What : State → Z → Type 0} (change : Change) (r : Result X TablesFault) (fault : TablesFault) → ConnReads g old new What (Err fault) → IsErrAnd r (λ y. y ≡ fault) → ConnChanges g old new change Why r
  unmade change r fault h is = record {
    made = never_ok r _ _ is;
    failed = on_err r (fails_quiet g change old new (is_quiet g old new h.undone h.survives));
    refused = λ clean reported s held known. refused_so ⊥ Why (state g old) (state g new) (λ none. absurd none) (h.refused clean (handed_on r (Err fault) fault Refused is reported refl) s held known);
    limit = h.survives.limit;
  }

  -- a change that a read finds not allowed
  pub changes_never : {Z : Type 0} {What : State → Z → Type 0} {z : Z} {x : X} (change : Change) → ConnReads g old new What (Ok z) → (conn_doubt g new ≡ 0 → (s : State) → conn_holds g old s → Allows s change → ⊥)
      → ConnChanges g old new change Why (Ok x)
  changes_never {x = x} change h never = record {
    made = makes_never g change old new (is_quiet g old new h.undone h.survives) never;
    failed = tt;
    refused = λ clean is. made_unrefused x _ is;
    limit = h.survives.limit;
  }

  -- a change together with the totals
  pub beside : (r : Result X TablesFault) (change : Change) {a b : Totals} → OnOk r ((s : State) → conn_doubt g new ≡ 0 → conn_holds g old s → Allows s change → IsStorable s → AreTotals a s → AreTotals b (changed s change))
      → OnOk r ((s : State) → conn_doubt g new ≡ 0 → conn_holds g old s → Allows s change → IsStorable s → IsStorable (changed s change)) → OnErr r ((q : Text) → total_of b q ≡ total_of a q)
      → ConnChanges g old new change Why r → StoreChanges g (old, a) (new, b) change Why r
  beside (Ok x) change {a = a} {b = b} totals storable same h = record {
    made = store_makes g change (old, a) (new, b) totals storable h.made;
    failed = tt;
    refused = λ clean is s held known. h.refused clean is s held.0 known;
    limit = h.limit;
  }
  beside (Err fault) change {a = a} {b = b} totals storable same h = record {
    made = tt;
    failed = store_fails g change (old, a) (new, b) same h.failed;
    refused = λ clean is s held known. h.refused clean is s held.0 known;
    limit = h.limit;
  }

-- a change that is made by one transaction
module _ {S : Type 0} (g : Ghosts S) (back : ReadsBack) (change : Change) (Effect : Database → Database → Type 0) (keeps : (old new : Database) → Effect old new → new.schema ≡ old.schema)
    (steps : (s : State) (db after : Database) → db.schema ≡ schema → IsRows s db.trees → Allows s change → Effect db after → IsRows (changed s change) after.trees)
    {X Y : Type 0} {old new : Held S} {Refuses : sql.State → Error → Type 0} {Why : Type 0} where
  pub changes : {x : X} {y : Y} → ((s : S) (db : Trees) → IsTrue (g.view s).is_open → g.recovers s db → db ≡ (g.view s).committed) → CommitsOver g old new schema Effect Refuses (Ok x) → ConnChanges g old new change Why (Ok y)
  changes {y = y} settled h = record { made = makes g back change Effect keeps steps old new h.survives settled h.ok; failed = tt; refused = λ clean is. made_unrefused y _ is; limit = h.survives.limit }

  pub changes_not : (r : Result Y TablesFault) (e : Error) → (Refuses (state g old) e → Why) → CommitsOver g old new {X = X} schema Effect Refuses (Err e) → IsErrAnd r (λ y. y ≡ of_database e) → ConnChanges g old new change Why r
  changes_not r e why h is = record {
    made = never_ok r _ _ is;
    failed = on_err r (fails g back change Effect keeps steps old new h.survives h.err);
    refused = λ clean reported s held known. call_refused g old new Refuses Why e s (λ shows. why) (reported_as r e is reported) (h.failed clean) held;
    limit = h.survives.limit;
  }

-- a change that is made by one transaction after a read
module _ {S : Type 0} (g : Ghosts S) (back : ReadsBack) (change : Change) (Effect : Database → Database → Type 0) (keeps : (old new : Database) → Effect old new → new.schema ≡ old.schema)
    {X Y Z : Type 0} {before old new : Held S} {What : State → Z → Type 0} {z : Result Z TablesFault} (read : ConnReads g before old What z) {Refuses : sql.State → Error → Type 0} {Why : Type 0}
    (steps : HasCleanDisk (state g new) → (s : State) → conn_holds g before s → (db after : Database) → db.schema ≡ schema → IsRows s db.trees → Allows s change → Effect db after → IsRows (changed s change) after.trees) where
  pub changes_after : {x : X} {y : Y} → ((s : S) (db : Trees) → IsTrue (g.view s).is_open → g.recovers s db → db ≡ (g.view s).committed) → CommitsOver g old new schema Effect Refuses (Ok x) → ConnChanges g before new change Why (Ok y)
  changes_after {y = y} settled h = record {
    made = makes_after g back change Effect keeps before old new (is_quiet g before old read.undone read.survives) steps h.survives settled h.ok;
    failed = tt;
    refused = λ clean is. made_unrefused y _ is;
    limit = h.survives.limit ∙ read.survives.limit;
  }

  pub changes_not_after : (r : Result Y TablesFault) (e : Error) → (HasCleanDisk (state g old) → (s : State) → conn_holds g before s → Shows (state g before) s → (state g old).now ≡ (state g before).now → (state g old).step_limit ≡ (state g before).step_limit → Refuses (state g old) e → Why)
      → CommitsOver g old new {X = X} schema Effect Refuses (Err e) → IsErrAnd r (λ y. y ≡ of_database e) → ConnChanges g before new change Why r
  changes_not_after r e why h is = record {
    made = never_ok r _ _ is;
    failed = on_err r (fails_after g back change Effect keeps before old new (is_quiet g before old read.undone read.survives) steps h.survives h.err);
    refused = λ clean reported s held known.
        let mid : HasCleanDisk (state g old) = omega (arith, h.survives.clean) in
        refused_after g before old new Why Refuses e s (read.undone mid) read.survives mid h.survives.counts (why mid s held) (reported_as r e is reported) (h.failed clean) held;
    limit = h.survives.limit ∙ read.survives.limit;
  }
