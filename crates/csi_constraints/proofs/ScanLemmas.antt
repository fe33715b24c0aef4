-- A scan: a query of a fixed text, read row by row.
use Rattle.std.proofs.Common.{◌≡◌, ◌⊎◌, inl, inr, ◌∙◌, List, [], ap, false, true≢false, arith, sym, Ok, Err, Result, IfErr, OnOk, Option}
use Rattle.sqlite.specs.Order.{Row}
use Rattle.sqlite.specs.declared.error.Error.{Error}
use Rattle.sqlite.specs.State.{State, HasCleanDisk, Relays, Shown, is_disk_error}
use Rattle.sqlite.specs.Held.{Held, state}
use Rattle.sqlite.specs.Store.{Ghosts}
use Rattle.sqlite_trees.specs.declared.error.StoreError.{StoreError}
use Rattle.csi_sql.specs.Failing.{FailsFor, for_memory, by_disk, as_shut, at_limit, as_refused, Unrefused}
use Rattle.csi_sql.specs.Tables.{schema}
use Rattle.csi_sql.specs.facts.Failing.{IsSure, fails_weaker, sure_fails, sure_refused}
use Rattle.csi_sql.specs.Folding.{RefusesRows}
use Rattle.csi_constraints.specs.ScanFailing.{HasTooMany}
use Rattle.csi_sql.specs.Folding.{FoldsOver, HasFolded}
use Rattle.csi_constraints.specs.Texts.{Scan, text}

-- the result of a fold over rows, in terms of the rows
scanned : {F X E : Type 0} (folds : F → List Row → F → Type 0) (old new : F) (P Q : List Row → Type 0) (r : Result X E) → ((rows : List Row) → P rows → Q rows)
    → OnOk r (HasFolded folds old new P) → OnOk r (HasFolded folds old new Q)
scanned folds old new P Q (Ok x) f h = (h.0, f h.0 h.1, h.2)
scanned folds old new P Q (Err e) f h = tt

-- an error that the disk did not report
relays_other : (blamed : Option StoreError) (e : Error) → is_disk_error e ≡ false → Relays blamed e
relays_other blamed e other kind named is = absurd (true≢false (sym is ∙ other))

-- a scan is refused only because of its rows
scan_fails : {S X : Type 0} (g : Ghosts S) (scan : Scan) → IsSure schema (text scan) [] → (old : Held S) (new : State) (r : Result X Error) → old.schema ≡ schema
    → IfErr r (FailsFor (RefusesRows g (text scan) old) (state g old) new) → IfErr r (FailsFor (HasTooMany g old) (state g old) new)
scan_fails g scan sure old new (Ok x) has h = tt
scan_fails g scan sure old new (Err e) has h = go h
  where
    go : FailsFor (RefusesRows g (text scan) old) (state g old) new e → FailsFor (HasTooMany g old) (state g old) new e
    go (for_memory is) = for_memory is
    go (by_disk is more) = by_disk is more
    go (as_shut is shut) = as_shut is shut
    go (at_limit is some) = at_limit is some
    go (as_refused (inl why)) = fails_weaker Unrefused (HasTooMany g old) (state g old) new e (λ none. absurd none) (sure_fails schema (text scan) [] sure (state g old) new e has (as_refused why))
    go (as_refused (inr many)) = as_refused (scan, many)

scan_reported : {S X : Type 0} (g : Ghosts S) (scan : Scan) → IsSure schema (text scan) [] → (old : Held S) (new : State) (r : Result X Error) → old.schema ≡ schema
    → IfErr r (λ e. Relays new.blamed e ⊎ RefusesRows g (text scan) old e) → IfErr r (λ e. Relays new.blamed e ⊎ HasTooMany g old e)
scan_reported g scan sure old new (Ok x) has h = tt
scan_reported g scan sure old new (Err e) has (inl relayed) = inl relayed
scan_reported g scan sure old new (Err e) has (inr (inl why)) =
    inl (relays_other new.blamed e (ap is_disk_error (sure_refused schema (text scan) [] sure (state g old) new e has why).0))
scan_reported g scan sure old new (Err e) has (inr (inr many)) = inr (scan, many)

-- ---- a scan: a query of a fixed text

pub looks_as : {S F X : Type 0} {g : Ghosts S} {old new : Held S} {folds : F → List Row → F → Type 0} {before after : F} {What : List Row → Type 0} {r : Result X Error}
    → (scan : Scan) → IsSure schema (text scan) [] → (HasCleanDisk (state g old) → old.schema ≡ schema) → ((rows : List Row) → old.schema ≡ schema → Shown (text scan) [] (state g old) (state g new) rows → What rows)
    → FoldsOver g old new folds before after (Shown (text scan) [] (state g old) (state g new)) (RefusesRows g (text scan) old) r → FoldsOver g old new folds before after What (HasTooMany g old) r
looks_as {g = g} {old = old} {new = new} {folds = folds} {before = before} {after = after} {r = r} scan sure ours shows h = record {
  ok = λ clean. scanned folds before after _ _ r (λ rows. shows rows (ours (omega (arith, h.survives.clean)))) (h.ok clean);
  failed = λ clean. scan_fails g scan sure old (state g new) r (ours (omega (arith, h.survives.clean))) (h.failed clean);
  reported = λ clean. scan_reported g scan sure old (state g new) r (ours (omega (arith, h.survives.clean))) (h.reported clean);
  same = h.same;
  kept = h.kept;
  survives = h.survives;
}
