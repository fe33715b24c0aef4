-- Steps of a query that is read row by row.
use Rattle.std.proofs.Common.{◌≡◌, ◌⊎◌, inl, inr, ◌∙◌, List, [], ◌∷◌, ◌++◌, length, length-append, append-nil, ap, refl, true≢false, IsTrue, ℕ, ◌+◌, arith, sym, subst, Ok, Err, Result, OnOk, Option, Some, None}
use Rattle.std.specs.Result.{IsErrAnd}
use Rattle.sqlite.specs.Effect.{Database}
use Rattle.sqlite.specs.Clock.{timed}
use Rattle.sqlite.specs.Order.{Row}
use Rattle.sqlite.specs.declared.error.Error.{Error}
use Rattle.sqlite.specs.Given.{IsPlain}
use Rattle.sqlite.specs.Listing.{understood, reads_listing, IsSourceOf}
use Rattle.sqlite.specs.State.{State, HasCleanDisk, IsUnchanged, IsNotRun, IsRolledBack, KeepsCommit, Survives, CommitsShowing, Fails, FailsToQuery, FailsToShow, Relays, Shown, ShowsRows, is_disk_error, store_error}
use Rattle.sqlite_resolve.specs.declared.compiled.Compiled.{Compiled}
use Rattle.sqlite_schema.specs.declared.command.Returning.{Returning}
use Rattle.sqlite.proofs.StateLemmas.{survives_weaker}
use Rattle.sqlite.proofs.Callers.{never_commits, unchanged_then}
use Rattle.sqlite.specs.Held.{Held, state}
use Rattle.sqlite.specs.Store.{Ghosts}
use Rattle.sqlite.specs.View.{is_fault}
use Rattle.sqlite_trees.specs.declared.error.StoreError.{StoreError}
use Rattle.sqlite_trees.specs.declared.error.StoreError.TheVariants.{OutOfMemory, Io, Corrupt, Full, Broken, Unstorable}
use Rattle.csi_sql.specs.Failing.{FailsFor, SqlRefusesToRead}
use Rattle.csi_sql.specs.facts.Failing.{fails_after, query_fails}
use Rattle.csi_sql.specs.Folding.{RefusesRows}
use Rattle.csi_sql.specs.Folding.{FoldsOver}

pub commits_nothing : (sql : List ℕ) (params : Row) (old new : State) → (HasCleanDisk new → IsPlain (understood old.now.schema sql)) → Survives old new (CommitsShowing sql params old) → Survives old new (λ _. ⊥)
commits_nothing sql params old new plain = survives_weaker old new _ _ (λ clean db. never_commits sql params old db (plain clean))

pub unchanged_keeps : (old new : State) → IsUnchanged old new → KeepsCommit old new
unchanged_keeps old new h = record { was_open = λ _. h.0.was_open; committed = λ _. h.0.committed_is }

pub failed_keeps : (old new : State) (e : Error) → Fails old new ⊥ e ⊎ IsUnchanged old new → KeepsCommit old new
failed_keeps old new e (inl h) = record { was_open = h.3.was_open; committed = λ is_open. (h.3.undone is_open).1 }
failed_keeps old new e (inr h) = unchanged_keeps old new h

rolled_back_keeps : (old new : State) → IsRolledBack old new → KeepsCommit old new
rolled_back_keeps old new h = record { was_open = h.was_open; committed = λ is_open. (h.undone is_open).1 }

unshown_keeps : (old new : State) (sql : List ℕ) (c : Compiled) (params : Row) (e : Error) (what : Option Returning) → FailsToShow old new sql c params e what → KeepsCommit old new
unshown_keeps old new sql c params e None h = unchanged_keeps old new h.3
unshown_keeps old new sql c params e (Some what) (inl h) = unchanged_keeps old new h.1
unshown_keeps old new sql c params e (Some what) (inr h) = rolled_back_keeps old new h.3

-- a query that does not begin
pub fails_keeps : (sql : List ℕ) (params : Row) (old new : State) (e : Error) → FailsToQuery sql params old new e → KeepsCommit old new
unfolding FailsToQuery IsNotRun
fails_keeps sql params old new e (inl (inl h)) = unchanged_keeps old new h.1
fails_keeps sql params old new e (inl (inr h)) = rolled_back_keeps old new h.3
fails_keeps sql params old new e (inr h) = unshown_keeps old new sql h.0 _ e h.0.returning h.2

pub keeps_then : (a b c : State) → KeepsCommit a b → KeepsCommit b c → KeepsCommit a c
keeps_then a b c p q = record { was_open = λ is_open. p.was_open (q.was_open is_open); committed = λ is_open. q.committed is_open ∙ p.committed (q.was_open is_open) }

pub shown_from : (sql : List ℕ) (params : Row) (a b c : State) (rows : List Row) → IsPlain (understood a.now.schema sql) → IsUnchanged a b → Shown sql params b c rows → Shown sql params a c rows
unfolding Shown
shown_from sql params a b c rows plain same h =
    let now : b.now ≡ a.now = same.0.now_is in
    let none = (subst IsPlain h.1.is (subst (λ (d : Database). IsPlain (understood d.schema sql)) (sym now) plain)).0 in
    let full = timed params h.0.formats h.1.now in
    let it = subst (ShowsRows b c sql h.0 full rows) none h.2 in (
      h.0,
      record { is = subst (λ (d : Database). understood d.schema sql ≡ Ok h.0) now h.1.is; whole = h.1.whole; given = h.1.given; now = h.1.now },
      subst (ShowsRows a c sql h.0 full rows) (sym none) (it.0, subst (λ (d : Database). IsSourceOf (reads_listing d.schema sql) d it.0) now it.1, it.2, unchanged_then a b c same it.3),
    )

-- ---- the reason why a query failed

-- a query that is refused on a connection was refused before too, over the same database with the same limit
refused_before : (text : List ℕ) (old mid : State) (e : Error) → mid.now ≡ old.now → mid.step_limit ≡ old.step_limit → SqlRefusesToRead text [] mid e → SqlRefusesToRead text [] old e
refused_before text old mid e now limit why =
    subst (λ (l : Option ℕ). SqlRefusesToRead text [] (record old { step_limit = l }) e) limit (subst (λ (d : Database). SqlRefusesToRead text [] (record old { now = d; step_limit = mid.step_limit }) e) now why)

-- the reason why a query failed after rows were read
pub behind_rows : (text : List ℕ) (old mid new : State) (e : Error) → IsPlain (understood old.now.schema text) → Survives old mid (λ _. ⊥) → IsUnchanged old mid → FailsToQuery text [] mid new e
    → FailsFor (SqlRefusesToRead text [] old) old new e
behind_rows text old mid new e plain left same h =
    let now : mid.now ≡ old.now = same.0.now_is in
    let reported : FailsFor (SqlRefusesToRead text [] mid) mid new e = query_fails text [] mid new e (subst (λ (d : Database). IsPlain (understood d.schema text)) (sym now) plain) h in
    fails_after (SqlRefusesToRead text [] mid) (SqlRefusesToRead text [] old) old mid new e left.counts same.0.is_open left.limit
    (refused_before text old mid e now left.limit) reported

fault_of : (cause : StoreError) → IsTrue (is_disk_error (store_error cause)) → IsTrue (is_fault cause)
fault_of OutOfMemory is = absurd (true≢false (sym is))
fault_of Io is = refl
fault_of Corrupt is = refl
fault_of Full is = refl
fault_of Broken is = absurd (true≢false (sym is))
fault_of Unstorable is = absurd (true≢false (sym is))

store_relays : (old new : State) (e : Error) → Fails old new ⊥ e → Relays new.blamed e
store_relays old new e h kind named is = h.1 ∙ ap store_error (h.4 kind named (fault_of h.0 (sym (ap is_disk_error h.1) ∙ is)))

-- a query fails as the store named its fault, or is refused
pub query_reported : (text : List ℕ) (old new : State) (e : Error) → IsPlain (understood old.now.schema text) → FailsToQuery text [] old new e → Relays new.blamed e ⊎ SqlRefusesToRead text [] old e
unfolding FailsToQuery IsNotRun
query_reported text old new e plain (inl (inl none)) = inr (inl none.0)
query_reported text old new e plain (inl (inr failed)) = inl (store_relays old new e failed)
query_reported text old new e plain (inr (c, it, h)) =
    let bare = subst IsPlain it.is plain in
    let shown = rw (bare.0, bare.1, append-nil []) at h in
    inr (inr (c, it.is, shown.0, shown.1, shown.2))

-- as above, after rows were read
pub reported_after : (text : List ℕ) (old mid new : State) (e : Error) → IsPlain (understood old.now.schema text) → Survives old mid (λ _. ⊥) → IsUnchanged old mid → FailsToQuery text [] mid new e
    → Relays new.blamed e ⊎ SqlRefusesToRead text [] old e
reported_after text old mid new e plain left same h =
    let now : mid.now ≡ old.now = same.0.now_is in
    elim (query_reported text mid new e (subst (λ (d : Database). IsPlain (understood d.schema text)) (sym now) plain) h) [
      | inl relayed ↦ inl relayed
      | inr why ↦ inr (refused_before text old mid e now left.limit why)
    ]

-- the reason as a reason of a scan
pub reported_rows : {S : Type 0} (g : Ghosts S) (text : List ℕ) (old : Held S) (new : State) (e : Error) → Relays new.blamed e ⊎ SqlRefusesToRead text [] (state g old) e → Relays new.blamed e ⊎ RefusesRows g text old e
reported_rows g text old new e (inl relayed) = inl relayed
reported_rows g text old new e (inr why) = inr (inl why)

-- an error that is passed on is no answer
pub never_ok : {X : Type 0} (r : Result X Error) (e : Error) (P : Type 0) → IsErrAnd r (λ x. x ≡ e) → OnOk r P
never_ok (Ok x) e P is = absurd is
never_ok (Err x) e P is = tt

pub one_longer : {X : Type 0} (xs : List X) (x : X) (n : ℕ) → length xs ≡ n → length (xs ++ x ∷ []) ≡ n + 1
one_longer xs x n h = let e = length-append xs (x ∷ []) in omega (arith, e, h)

-- the rows of a query are dropped at the end, and leave the connection as the last row left it
pub dropped : {S F X : Type 0} {g : Ghosts S} {old new : Held S} {folds : F → List Row → F → Type 0} {before after : F} {Refuses : Error → Type 0} {r : Result X Error}
    → (text : List ℕ) (last end : Held S) → end ≡ last → end ≡ new → FoldsOver g old last folds before after (Shown text [] (state g old) (state g last)) Refuses r
    → FoldsOver g old new folds before after (Shown text [] (state g old) (state g new)) Refuses r
dropped {g = g} {old = old} {folds = folds} {before = before} {after = after} {Refuses = Refuses} {r = r} text last end is at =
    subst (λ (h : Held _). FoldsOver g old h folds before after (Shown text [] (state g old) (state g h)) Refuses r) (sym is ∙ at)
