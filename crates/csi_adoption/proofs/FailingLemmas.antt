-- The reasons why adoption fails, one call after another.
use Rattle.std.proofs.Common.{◌≡◌, ◌∙◌, inl, inr, refl, sym, ap, subst, arith, ℕ, pos, not, ◌||◌, int_lt, Bool, true, false, true≢false, List, [], map, Option, None, Some, ℤ, Result, Ok, Err, IfErr, IsErrAnd, IsSome, IsTrue, cond}
use Rattle.sqlite.proofs.Callers.{unchanged_then}
use Rattle.sqlite.specs.Effect.{Database}
use Rattle.sqlite.specs.Held.{Held, state}
use Rattle.sqlite.specs.Order.{Row}
use Rattle.sqlite.specs.Schema.{Schema}
use Rattle.sqlite.specs.State.{HasCleanDisk, IsUnchanged, Survives}
use Rattle.sqlite.specs.State as sql
use Rattle.sqlite.specs.Store.{Ghosts}
use Rattle.sqlite.specs.Tree.{Trees}
use Rattle.sqlite.specs.declared.error.Error.{Error}
use Rattle.sqlite.specs.declared.error.Error.TheVariants.{SqliteFailure}
use Rattle.sqlite.specs.declared.error.ErrorCode.TheVariants.{DatabaseCorrupt, OutOfMemory}
use Rattle.csi_sql.specs.Failing as fails
use Rattle.csi_sql.specs.Failing.{SqlRefuses}
use Rattle.csi_sql.specs.Making.{RefusesTables}
use Rattle.csi_sql.specs.Tables.{first_text, no_schema, schema}
use Rattle.csi_sql.specs.Refusing.{RefusesFormat}
use Rattle.csi_sql.specs.Transactions.{IsUndone}
use Rattle.csi_sql.specs.Rows.{seen_volume}
use Rattle.csi_constraints.specs.ScanFailing.{HasTooMany}
use Rattle.csi_constraints.specs.Folds.{IsRising, RisesOver}
use Rattle.csi_constraints.specs.Scans.{keyed_attachment}
use Rattle.csi_constraints.specs.declared.rising.Rising.{Rising}
use Rattle.csi_adoption.specs.Faults.{failure_of, is_failure, is_store, wants_memory}
use Rattle.csi_adoption.specs.declared.fault.AdoptFault.{AdoptFault}
use Rattle.csi_adoption.specs.declared.fault.AdoptFault.TheVariants.{Foreign, Newer, Broken, Store, NoMemory}
use Rattle.csi_adoption.specs.declared.fault.Foreign.TheVariants as foreign
use Rattle.std.specs.Ordering.{int_eq}
use Rattle.csi_sql.specs.declared.formats.TheConstants.{FIRST_FORMAT, LATEST_FORMAT}
use Rattle.csi_adoption.specs.Failing.{AdoptionFails, DoNotRise, FailsCommitted, HasCause, HasUnrisen, JudgingFails, OfStore, Refuses, ScanFails, too_many, unrisen, format, tables, by_disk, as_shut, as_refused, WasShut}
use Rattle.csi_adoption.specs.Judging.{integers_judged, meta_judged, row_judged, valid_format, valid_next}
use Rattle.csi_adoption.specs.Scanning.{Scans}
use Rattle.csi_adoption.specs.Starting.{IsRisingStart}
use Rattle.csi_adoption.specs.declared.meta.Meta.{Meta}
use Rattle.csi_adoption.specs.declared.meta.MetaRows.{MetaRows}
use Rattle.csi_adoption.specs.declared.meta.MetaRows.TheVariants as meta
use Rattle.csi_adoption.proofs.FaultLemmas.{error_fails}

-- ---- the report of an error

of_failure : (P : Error → Type 0) (e : Error) → P e → OfStore P (failure_of e)
of_failure P e p = go (wants_memory e) refl
  where
    go : (b : Bool) → wants_memory e ≡ b → OfStore P (cond b NoMemory (Store e))
    go true was = tt
    go false was = (was, p)

of_no_store : (P : Error → Type 0) (fault : AdoptFault) → is_store fault ≡ false → OfStore P fault
of_no_store P (Foreign what) other = tt
of_no_store P (Newer number) other = tt
of_no_store P (Broken rule) other = tt
of_no_store P (Store e) other = absurd (true≢false other)
of_no_store P NoMemory other = tt

of_store_weaker : (P Q : Error → Type 0) → ((e : Error) → wants_memory e ≡ false → P e → Q e) → (fault : AdoptFault) → OfStore P fault → OfStore Q fault
of_store_weaker P Q f (Foreign what) p = tt
of_store_weaker P Q f (Newer number) p = tt
of_store_weaker P Q f (Broken rule) p = tt
of_store_weaker P Q f (Store e) p = (p.0, f e p.0 p.1)
of_store_weaker P Q f NoMemory p = tt

pub if_err : {X E : Type 0} (P : E → Type 0) (r : Result X E) (e : E) → IsErrAnd r (λ x. x ≡ e) → P e → IfErr r P
if_err P (Ok x) e is p = absurd is
if_err P (Err y) e is p = subst P (sym is) p

-- a failure of the database says nothing of rows
pub failure_reported : {X : Type 0} (P : Type 0) (r : Result X AdoptFault) (e : Error) → IsErrAnd r (λ x. x ≡ failure_of e) → IfErr r (λ fault. is_failure fault ≡ false → P)
failure_reported P r e is = if_err (λ fault. is_failure fault ≡ false → P) r (failure_of e) is (λ known. absurd (true≢false (sym (error_fails e) ∙ known)))

pub reported_if : {X : Type 0} (P : Type 0) (r : Result X AdoptFault) (f : AdoptFault) → IsErrAnd r (λ x. x ≡ f) → (is_failure f ≡ false → P) → IfErr r (λ fault. is_failure fault ≡ false → P)
reported_if P r f is p = if_err (λ fault. is_failure fault ≡ false → P) r f is p

pub any_reported : {X : Type 0} (P : Type 0) (r : Result X AdoptFault) → P → IfErr r (λ fault. is_failure fault ≡ false → P)
any_reported P (Ok x) p = tt
any_reported P (Err fault) p = λ known. p

-- ---- a cause

open_or_shut : (b : Bool) → (P : Type 0) → (b ≡ true → P) → (b ≡ false → P) → P
open_or_shut true P f h = f refl
open_or_shut false P f h = h refl

-- the integers of a column did not rise
pub fallen : (first : Rising) (rows : List Row) (now : Rising) → IsRisingStart first → RisesOver first rows now → now.good ≡ false → IsRising 0 None rows → ⊥
fallen first rows now start rises bad up =
    let back : IsRising first.column first.last rows = subst (λ n. IsRising n first.last rows) (sym start.column) (subst (λ l. IsRising 0 l rows) (sym start.last) up) in
    true≢false (sym (rises.1.good_is.1 (start.good, back)) ∙ bad)

-- a refusal depends on the database and the limit alone
refuses_format : (a b : sql.State) (e : Error) → b.now ≡ a.now → b.step_limit ≡ a.step_limit → RefusesFormat b e → RefusesFormat a e
refuses_format a b e now limit why =
    subst (λ (l : Option ℕ). RefusesFormat (record a { step_limit = l }) e) limit (subst (λ (db : Database). RefusesFormat (record a { now = db; step_limit = b.step_limit }) e) now why)

refuses_tables : (a b : sql.State) (e : Error) → IsTrue a.is_open → b.step_limit ≡ a.step_limit → RefusesTables b e → RefusesTables a e
refuses_tables a b e is_open limit why = (is_open, why.1, why.2, subst (λ (l : Option ℕ). SqlRefuses first_text [] (record a { now = why.1; step_limit = l }) e) limit why.3)

module _ {S : Type 0} (g : Ghosts S) where
  -- the refusal of a request is one of the refusals in the list
  refused_as : {P : Error → Type 0} (a b : Held S) (e : Error) → (P e → Refuses g a e) → fails.FailsFor P (state g a) (state g b) e → fails.FailsFor (Refuses g a) (state g a) (state g b) e
  refused_as a b e refuses (fails.for_memory is) = fails.for_memory is
  refused_as a b e refuses (fails.by_disk is more) = fails.by_disk is more
  refused_as a b e refuses (fails.as_shut is shut) = fails.as_shut is shut
  refused_as a b e refuses (fails.at_limit is some) = fails.at_limit is some
  refused_as a b e refuses (fails.as_refused why) = fails.as_refused (refuses why)

  -- a scan that failed
  pub scan_failed : {X : Type 0} (a b : Held S) (r : Result X Error) (e : Error) → (HasCleanDisk (state g b) → fails.FailsFor (HasTooMany g a) (state g a) (state g b) e) → IsErrAnd r (λ x. x ≡ e) → ScanFails g a b r
  scan_failed a b r e failed is = if_err (HasCause g a b) r e is (λ clean. refused_as a b e too_many (failed clean))

  -- an error for lack of memory has a cause
  pub scan_short : {X : Type 0} (a b : Held S) (r : Result X Error) → IsErrAnd r (λ x. x ≡ SqliteFailure OutOfMemory) → ScanFails g a b r
  scan_short a b r is = if_err (HasCause g a b) r (SqliteFailure OutOfMemory) is (λ clean. fails.for_memory refl)

  schema_before : {is : Schema} (a b : Held S) → IsUnchanged (state g a) (state g b) → (state g b).now.schema ≡ is → (state g a).now.schema ≡ is
  schema_before a b same has = sym (ap (λ (d : Database). d.schema) same.0.now_is) ∙ has

  -- a call refused after a scan is refused before it
  same_refuses : (a b : Held S) (e : Error) → IsUnchanged (state g a) (state g b) → (state g b).step_limit ≡ (state g a).step_limit → Refuses g b e → Refuses g a e
  same_refuses a b e same limit (too_many why) = too_many (why.0, (why.1.0, why.1.1, why.1.2, unchanged_then (state g a) (state g b) (state g why.1.1) same why.1.3, why.1.4, why.1.5))
  same_refuses a b e same limit (unrisen is_open is why) = unrisen same.0.was_open is (subst HasUnrisen (ap (λ (d : Database). d.trees) same.0.now_is) why)
  same_refuses a b e same limit (format is_open ours why) = format same.0.was_open (schema_before a b same ours) (refuses_format (state g a) (state g b) e same.0.now_is limit why)
  same_refuses a b e same limit (tables blank why) = tables (schema_before a b same blank) (refuses_tables (state g a) (state g b) e same.0.was_open limit why)

  cause_before : (a b c : Held S) (e : Error) → IsUnchanged (state g a) (state g b) → Survives (state g a) (state g b) (λ _. ⊥) → fails.FailsFor (Refuses g b) (state g b) (state g c) e → fails.FailsFor (Refuses g a) (state g a) (state g c) e
  cause_before a b c e same left (fails.for_memory is) = fails.for_memory is
  cause_before a b c e same left (fails.by_disk is more) = fails.by_disk is (omega (arith, left.counts, more))
  cause_before a b c e same left (fails.as_shut is shut) = absurd (true≢false (sym same.0.is_open ∙ shut))
  cause_before a b c e same left (fails.at_limit is some) = fails.at_limit is (subst IsSome left.limit some)
  cause_before a b c e same left (fails.as_refused why) = fails.as_refused (same_refuses a b e same left.limit why)

  -- the cause of an error after a scan is a cause before it
  pub cause_after : {X E : Type 0} {P : Trees → Type 0} (a b c : Held S) (x : X) (e : Error) → Scans g a b {E = E} (Ok x) → Survives (state g b) (state g c) P → HasCause g b c e → HasCause g a c e
  cause_after a b c x e one two cause clean = cause_before a b c e (one.same (omega (arith, clean, two.clean))) one.survives (cause clean)

  pub fault_after : {X E : Type 0} {P : Trees → Type 0} (a b c : Held S) (x : X) (fault : AdoptFault) → Scans g a b {E = E} (Ok x) → Survives (state g b) (state g c) P → OfStore (HasCause g b c) fault → OfStore (HasCause g a c) fault
  fault_after a b c x fault one two = of_store_weaker (HasCause g b c) (HasCause g a c) (λ e _. cause_after a b c x e one two) fault

  pub judging_after : {X Y E : Type 0} {P : Trees → Type 0} (a b c : Held S) (x : X) (r : Result Y AdoptFault) → Scans g a b {E = E} (Ok x) → Survives (state g b) (state g c) P → JudgingFails g b c r → JudgingFails g a c r
  judging_after a b c x (Ok y) one two failed = tt
  judging_after a b c x (Err fault) one two failed = fault_after a b c x fault one two failed

  -- rows that do not rise
  pub unrisen_volumes : (a b : Held S) → (HasCleanDisk (state g b) → IsUnchanged (state g a) (state g b)) → (HasCleanDisk (state g b) → DoNotRise (map seen_volume ((state g a).now.trees 1))) → HasCause g a b (SqliteFailure DatabaseCorrupt)
  unrisen_volumes a b same found clean = fails.as_refused (unrisen (same clean).0.was_open refl (inl (found clean)))

  pub unrisen_attachments : (a b : Held S) → (HasCleanDisk (state g b) → IsUnchanged (state g a) (state g b)) → (HasCleanDisk (state g b) → DoNotRise (map keyed_attachment ((state g a).now.trees 3))) → HasCause g a b (SqliteFailure DatabaseCorrupt)
  unrisen_attachments a b same found clean = fails.as_refused (unrisen (same clean).0.was_open refl (inr (found clean)))

  -- the UPDATE of the format
  pub format_cause : (a b : Held S) (e : Error) → (HasCleanDisk (state g b) → IsTrue (state g a).is_open × ((state g a).now.schema ≡ schema))
      → (HasCleanDisk (state g b) → (state g a).now.schema ≡ schema → fails.FailsFor (RefusesFormat (state g a)) (state g a) (state g b) e) → HasCause g a b e
  format_cause a b e stands failed clean = let it = stands clean in refused_as a b e (format it.0 it.1) (failed clean it.1)

  -- a statement that makes tables
  pub tables_cause : (a b : Held S) (e : Error) (fault : AdoptFault) → fault ≡ failure_of e → (state g a).now.schema ≡ no_schema
      → (HasCleanDisk (state g b) → fails.FailsFor (RefusesTables (state g a)) (state g a) (state g b) e) → OfStore (HasCause g a b) fault
  tables_cause a b e fault is blank failed = subst (OfStore (HasCause g a b)) (sym is) (of_failure (HasCause g a b) e (λ clean. refused_as a b e (tables blank) (failed clean)))

  pub ours : (a b : Held S) → (state g a).now.schema ≡ schema → IsUnchanged (state g a) (state g b) → (state g b).now.schema ≡ schema
  ours a b is same = ap (λ (d : Database). d.schema) same.0.now_is ∙ is

  -- ---- committed changes

  -- a connection that shows only committed changes
  pub settled_cause : {P : Trees → Type 0} (conn one two back : Held S) (fault : AdoptFault) → one ≡ record conn { step_limit = None } → (HasCleanDisk (state g two) → IsUndone (state g one) (state g two)) → Survives (state g one) (state g two) (λ _. ⊥)
      → Survives (state g two) (state g back) P → (HasCleanDisk (state g back) → IsTrue (state g back).is_open → IsTrue (state g two).is_open) → OfStore (HasCause g two back) fault → AdoptionFails g conn back fault
  settled_cause conn one two back fault limit undone left last opened = of_store_weaker (HasCause g two back) (λ e. HasCleanDisk (state g back) → FailsCommitted g conn back e) (λ e other cause clean.
      let clean' : HasCleanDisk (state g two) = omega (arith, last.clean, clean) in
      go e clean' (opened clean) (subst (λ (h : Held S). IsUndone (state g h) (state g two)) limit (undone clean')) (subst (λ (h : Held S). Survives (state g h) (state g two) (λ _. ⊥)) limit left) other (cause clean)) fault
    where
      start : Held S
      start = record conn { step_limit = None }

      shut_by : HasCleanDisk (state g two) → (IsTrue (state g back).is_open → IsTrue (state g two).is_open) → Survives (state g start) (state g two) (λ _. ⊥) → (state g two).is_open ≡ false → WasShut g conn back
      shut_by clean opened left shut = (
        open_or_shut (state g back).is_open _ (λ is_open. absurd (true≢false (sym (opened is_open) ∙ shut))) (λ is_shut. is_shut),
        open_or_shut (state g conn).is_open _
            (λ was_open. elim (left.closes clean was_open) [
              | inl is_open ↦ absurd (true≢false (sym is_open ∙ shut))
              | inr more ↦ inr (omega (arith, more, last.counts))
            ])
            (λ was_shut. inl was_shut),
      )

      -- only an open connection refuses a request
      open_of : (e : Error) → Refuses g two e → IsTrue (state g two).is_open
      open_of e (too_many why) = why.1.3.0.was_open
      open_of e (unrisen is_open is why) = is_open
      open_of e (format is_open ours why) = is_open
      open_of e (tables blank why) = why.0

      go : (e : Error) → HasCleanDisk (state g two) → (IsTrue (state g back).is_open → IsTrue (state g two).is_open) → IsUndone (state g start) (state g two) → Survives (state g start) (state g two) (λ _. ⊥) → wants_memory e ≡ false
          → fails.FailsFor (Refuses g two) (state g two) (state g back) e → FailsCommitted g conn back e
      go e clean opened undone left other (fails.for_memory is) = absurd (true≢false (sym (ap wants_memory is) ∙ other))
      go e clean opened undone left other (fails.by_disk is more) = by_disk is (omega (arith, left.counts, more))
      go e clean opened undone left other (fails.as_shut is shut) = as_shut is (shut_by clean opened left shut)
      go e clean opened undone left other (fails.at_limit is some) = absurd (true≢false (sym (subst IsSome left.limit some)))
      go e clean opened undone left other (fails.as_refused why) = let is_open = open_of e why in as_refused (undone.was_open is_open, two, left.limit, undone.now is_open, why)

  -- an answer that is an error of the database
  pub reported_after : {X : Type 0} (a b : Held S) (r : Result X AdoptFault) (e : Error) → IsErrAnd r (λ x. x ≡ failure_of e) → HasCause g a b e → JudgingFails g a b r
  reported_after a b r e is cause = if_err (OfStore (HasCause g a b)) r (failure_of e) is (of_failure (HasCause g a b) e cause)

  -- a fault that is no failure of the database needs no cause
  pub no_store : {X : Type 0} (a b : Held S) (r : Result X AdoptFault) (f : AdoptFault) → IsErrAnd r (λ x. x ≡ f) → is_store f ≡ false → JudgingFails g a b r
  no_store a b r f is other = if_err (OfStore (HasCause g a b)) r f is (of_no_store (HasCause g a b) f other)

  pub handed_fault : {X : Type 0} (a b : Held S) (r : Result X AdoptFault) (f : AdoptFault) → IsErrAnd r (λ x. x ≡ f) → OfStore (HasCause g a b) f → JudgingFails g a b r
  handed_fault a b r f is cause = if_err (OfStore (HasCause g a b)) r f is cause

  pub handed_error : {X : Type 0} (a b : Held S) (r : Result X Error) (e : Error) → IsErrAnd r (λ x. x ≡ e) → HasCause g a b e → ScanFails g a b r
  handed_error a b r e is cause = if_err (HasCause g a b) r e is cause

-- ---- the row of meta, which is no failure of the database

abbrev IsNoStore : Result Meta AdoptFault → Type 0
IsNoStore r = IfErr r (λ fault. is_store fault ≡ false)

integers_report : (key number next : ℤ) → IsNoStore (integers_judged key number next)
integers_report key number next = go (not (int_eq key (pos 1)) || int_lt number (pos FIRST_FORMAT)) (int_lt (pos LATEST_FORMAT) number)
  where
    go : (a b : Bool) → IsNoStore (cond a (Err (Foreign foreign.Meta)) (cond b (Err (Newer number)) (Ok (record { format = valid_format number; next = valid_next next }))))
    go true b = refl
    go false true = refl
    go false false = tt

row_reports : (key number next : Option ℤ) → IsNoStore (row_judged key number next)
row_reports (Some key) (Some number) (Some next) = integers_report key number next
row_reports (Some key) (Some number) None = refl
row_reports (Some key) None next = refl
row_reports None number next = refl

meta_reports : (rows : MetaRows) → IsNoStore (meta_judged rows)
meta_reports meta.None = refl
meta_reports (meta.One m) = row_reports m.key m.format m.next
meta_reports meta.Many = refl

pub meta_fails : {S : Type 0} (g : Ghosts S) (a b : Held S) (rows : MetaRows) (r : Result Meta AdoptFault) → r ≡ meta_judged rows → JudgingFails g a b r
meta_fails g a b rows r is = go r (subst IsNoStore (sym is) (meta_reports rows))
  where
    go : (r : Result Meta AdoptFault) → IsNoStore r → JudgingFails g a b r
    go (Ok m) none = tt
    go (Err fault) none = of_no_store (HasCause g a b) fault none
