-- The reasons why a call over the tables was refused.
use Rattle.std.proofs.Common.{◌≡◌, ◌≢◌, ◌∙◌, inl, inr, refl, sym, ap, subst, arith, ℕ, ◌≤◌, Bool, true, false, List, [], ◌∷◌, map, Option, IfOk, IsTrue, IsSome, Result, Ok, Err}
use Rattle.std.specs.Result.{IsErrAnd}
use Rattle.sqlite.specs.Effect.{Database}
use Rattle.sqlite.specs.Held.{Held, state}
use Rattle.sqlite.specs.Order.{Row}
use Rattle.sqlite.specs.State as sql
use Rattle.sqlite.specs.State.{Survives, HasCleanDisk}
use Rattle.sqlite.specs.Store.{Ghosts}
use Rattle.sqlite.specs.declared.error.Error.{Error}
use Rattle.csi_keeper.specs.State.{State}
use Rattle.csi_keeper.specs.facts.Reads.{if_ok}
use Rattle.csi_keeper.specs.declared.change.StoreFault.{StoreFault}
use Rattle.csi_keeper.specs.declared.change.StoreFault.TheVariants as store
use Rattle.csi_sql.specs.Failing as fails
use Rattle.csi_sql.specs.Failing.{SqlRefuses, FailsFor}
use Rattle.csi_sql.specs.Tables.{schema}
use Rattle.csi_sql.specs.declared.formats.TheConstants.{LATEST_FORMAT}
use Rattle.csi_sql.specs.Refusing.{HasNoNext}
use Rattle.csi_sql.specs.Transactions.{IsUndone}
use Rattle.csi_sql.specs.Effects.{ReadsOnly}
use Rattle.csi_sql.specs.Rows.{meta_row, number_value, seen_meta}
use Rattle.csi_tables.specs.Answers.{answered, of_database}
use Rattle.csi_tables.specs.Holding.{Shows, conn_doubt, conn_holds}
use Rattle.csi_tables.specs.Refusing.{ConnReads, HasKnownModes, IsRefusal, by_disk, as_shut, at_limit, as_refused}
use Rattle.csi_tables.specs.declared.fault.TablesFault.{TablesFault}
use Rattle.csi_tables.specs.declared.fault.TablesFault.TheVariants.{NoMemory, Refused}
use Rattle.csi_tables.proofs.CellLemmas.{handed_on}

-- a `?` on an error of the database
pub reported_as : {X : Type 0} (r : Result X TablesFault) (e : Error) → IsErrAnd r (λ y. y ≡ of_database e) → r ≡ Err Refused → of_database e ≡ Refused
reported_as r e and is = let same : ◌≡◌ {A = Result ℕ TablesFault} (Err (of_database e)) (Err Refused) = handed_on r (Err (of_database e)) (of_database e) Refused and is refl in cc

refusal : (R : Error → Type 0) (Why : Type 0) (old new : sql.State) (e : Error) → (R e → Why) → of_database e ≡ Refused → FailsFor R old new e → IsRefusal Why old new
refusal R Why old new e f reported (fails.for_memory is) = absurd (let no : NoMemory ≡ Refused = sym (ap of_database is) ∙ reported in cc)
refusal R Why old new e f reported (fails.by_disk is more) = by_disk more
refusal R Why old new e f reported (fails.as_shut is shut) = as_shut shut
refusal R Why old new e f reported (fails.at_limit is some) = at_limit some
refusal R Why old new e f reported (fails.as_refused why) = as_refused (f why)

-- a refusal for one reason is a refusal for a weaker reason
pub refused_so : (P Q : Type 0) (old new : sql.State) → (P → Q) → IsRefusal P old new → IsRefusal Q old new
refused_so P Q old new f (by_disk more) = by_disk more
refused_so P Q old new f (as_shut shut) = as_shut shut
refused_so P Q old new f (at_limit some) = at_limit some
refused_so P Q old new f (as_refused why) = as_refused (f why)

open_or_shut : (b : Bool) → (P : Type 0) → (b ≡ true → P) → (b ≡ false → P) → P
open_or_shut true P f h = f refl
open_or_shut false P f h = h refl

-- meta has a row
pub has_next : {now : sql.State} {e : Error} (s : State) → Shows now s → HasNoNext now e → ⊥
has_next s shows none = let is : [] ≡ meta_row LATEST_FORMAT s.next ∷ [] = sym (ap (map seen_meta) none.1) ∙ shows.rows.meta in absurd cc

module _ {S : Type 0} (g : Ghosts S) (old new : Held S) where
  -- a statement or a transaction over a State failed
  pub call_refused : (R : sql.State → Error → Type 0) (Why : Type 0) (e : Error) (s : State) → (Shows (state g old) s → R (state g old) e → Why) → of_database e ≡ Refused
      → (old.schema ≡ schema → FailsFor (R (state g old)) (state g old) (state g new) e) → conn_holds g old s → IsRefusal Why (state g old) (state g new)
  call_refused R Why e s f reported failed held =
      open_or_shut (state g old).is_open (IsRefusal Why (state g old) (state g new))
      (λ is_open. let shows = held is_open in refusal (R (state g old)) Why (state g old) (state g new) e (f shows) reported (failed shows.schema))
      (λ shut. as_shut shut)

-- a read that the database failed
pub unread : {S X Y : Type 0} {g : Ghosts S} {old new : Held S} {Shown : Database → X → Type 0} {Refuses : sql.State → Error → Type 0} {What : State → Y → Type 0}
    → (r : Result Y TablesFault) (e : Error) → ((s : State) → Shows (state g old) s → Refuses (state g old) e → ⊥) → ReadsOnly g old new Shown Refuses (Err e) → IsErrAnd r (λ y. y ≡ of_database e) → ConnReads g old new What r
unread (Ok y) e never h is = absurd is
unread {Y = Y} {g = g} {old = old} {new = new} {Refuses = Refuses} (Err fault) e never h is = record {
  value = tt;
  refused = λ clean reported s held known. call_refused g old new Refuses ⊥ e s (never s) (reported_as {X = Y} (Err fault) e is reported) (h.failed clean) held;
  undone = h.undone;
  survives = h.survives;
}

each_reported : {Y : Type 0} (C : Type 0) (H : State → Type 0) (What : State → Y → Type 0) (r : Result Y TablesFault) → (C → (s : State) → H s → IfOk r (λ y. What s y)) → IfOk r (λ y. C → (s : State) → H s → What s y)
each_reported C H What (Ok y) f = f
each_reported C H What (Err fault) f = tt

-- a read whose rows can be read again
pub read_as : {S X Y : Type 0} {g : Ghosts S} {old new : Held S} {Shown : Database → X → Type 0} {Refuses : sql.State → Error → Type 0} {What : State → Y → Type 0} {x : X}
    → (r : Result Y TablesFault) → ReadsOnly g old new Shown Refuses (Ok x) → ((s : State) → Shows (state g old) s → Shown (state g old).now x → IfOk r (λ y. What s y))
    → ((s : State) → Shows (state g old) s → HasKnownModes s → Shown (state g old).now x → r ≡ Err Refused → ⊥) → ConnReads g old new What r
read_as {g = g} {old = old} {new = new} {What = What} r h reports never = record {
  value = each_reported (conn_doubt g new ≡ 0) (conn_holds g old) What r (λ clean s held.
      let reported = h.ok clean in
      let shows = held reported.was_open in
      reports s shows (reported.what shows.schema));
  refused = λ clean is s held known.
      let reported = h.ok clean in
      let shows = held reported.was_open in
      absurd (never s shows known (reported.what shows.schema) is);
  undone = h.undone;
  survives = h.survives;
}

none_reported : {X : Type 0} (P : X → Type 0) (Q : TablesFault → Type 0) (r : Result X TablesFault) → IsErrAnd r Q → IfOk r P
none_reported P Q (Ok x) is = absurd is
none_reported P Q (Err fault) is = tt

-- a read whose rows could not be read again
pub failed_after : {S X Y : Type 0} {g : Ghosts S} {old new : Held S} {Shown : Database → X → Type 0} {Refuses : sql.State → Error → Type 0} {What : State → Y → Type 0} {x : X}
    → (r : Result Y TablesFault) (fault : TablesFault) → ReadsOnly g old new Shown Refuses (Ok x) → IsErrAnd r (λ y. y ≡ fault)
    → ((s : State) → Shows (state g old) s → HasKnownModes s → Shown (state g old).now x → r ≡ Err Refused → ⊥) → ConnReads g old new What r
failed_after r fault h is never = read_as r h (λ s shows what. none_reported _ _ r is) never

-- a read of numbers
pub read_numbers : {S X : Type 0} {g : Ghosts S} {old new : Held S} {Shown : Database → X → Type 0} {Refuses : sql.State → Error → Type 0} {x : X}
    → (r : Result (List ℕ) TablesFault) (rows : List Row) (value : State → List ℕ) → ReadsOnly g old new Shown Refuses (Ok x) → IfOk r (λ xs. (ns : List ℕ) → rows ≡ map (λ n. number_value n ∷ []) ns → xs ≡ ns)
    → (r ≡ Err Refused → (ns : List ℕ) → rows ≢ map (λ n. number_value n ∷ []) ns) → ((s : State) → Shows (state g old) s → Shown (state g old).now x → rows ≡ map (λ n. number_value n ∷ []) (value s))
    → ConnReads g old new (λ s xs. xs ≡ value s) r
read_numbers r rows value h ok refused shown =
    read_as r h (λ s shows what. if_ok (λ xs read. read (value s) (shown s shows what)) r ok) (λ s shows known what is. refused is (value s) (shown s shows what))

-- ---- a change after a read

-- a refusal depends on the database and the limit alone
pub refuses_same : (text : List ℕ) (params : Row) (a b : sql.State) (e : Error) → b.now ≡ a.now → b.step_limit ≡ a.step_limit → SqlRefuses text params b e → SqlRefuses text params a e
refuses_same text params a b e now limit why =
    subst (λ (l : Option ℕ). SqlRefuses text params (record a { step_limit = l }) e) limit (subst (λ (db : Database). SqlRefuses text params (record a { now = db; step_limit = b.step_limit }) e) now why)

module _ {S : Type 0} (g : Ghosts S) (a b d : Held S) (Why : Type 0) where
  -- a cause after a read is a cause before it
  before_read : Survives (state g a) (state g b) (λ _. ⊥) → IsTrue (state g b).is_open → IsRefusal Why (state g b) (state g d) → IsRefusal Why (state g a) (state g d)
  before_read left is_open (by_disk more) = by_disk (omega (arith, left.counts, more))
  before_read left is_open (as_shut shut) = absurd (let no : true ≡ false = sym is_open ∙ shut in cc)
  before_read left is_open (at_limit some) = at_limit (subst IsSome left.limit some)
  before_read left is_open (as_refused why) = as_refused why

  pub refused_after : (R : sql.State → Error → Type 0) (e : Error) (s : State) → IsUndone (state g a) (state g b) → Survives (state g a) (state g b) (λ _. ⊥) → HasCleanDisk (state g b) → (state g b).faults ≤ (state g d).faults
      → (Shows (state g a) s → (state g b).now ≡ (state g a).now → (state g b).step_limit ≡ (state g a).step_limit → R (state g b) e → Why) → of_database e ≡ Refused
      → (b.schema ≡ schema → FailsFor (R (state g b)) (state g b) (state g d) e) → conn_holds g a s → IsRefusal Why (state g a) (state g d)
  refused_after R e s undone left clean up f reported failed held =
      open_or_shut (state g a).is_open (IsRefusal Why (state g a) (state g d))
      (λ was_open. elim (left.closes clean was_open) [
        | inl is_open ↦
            let shows = held was_open in
            let same : (state g b).now ≡ (state g a).now = undone.now is_open ∙ sym shows.settled in
            let has : b.schema ≡ schema = ap (λ (db : Database). db.schema) same ∙ shows.schema in
            before_read left is_open (refusal (R (state g b)) Why (state g b) (state g d) e (f shows same left.limit) reported (failed has))
        | inr more ↦ by_disk (omega (arith, more, up))
      ])
      (λ shut. as_shut shut)

-- ---- the report of a refusal

pub reported_refused : {X : Type 0} (answer : Result X TablesFault) (r : Result X StoreFault) → r ≡ answered answer → r ≡ Err store.Refused → answer ≡ Err Refused
reported_refused {X} answer r reported is = go answer (sym reported ∙ is)
  where
    go : (a : Result X TablesFault) → answered a ≡ Err store.Refused → a ≡ Err Refused
    go (Ok x) is = absurd cc
    go (Err NoMemory) is = absurd cc
    go (Err Refused) is = refl
