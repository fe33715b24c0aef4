-- The connection's clauses about an error, as the definitions of `Failing`.
use Rattle.std.proofs.Common.{◌≡◌, ◌∙◌, ◌⊎◌, inl, inr, refl, sym, ap, subst, subst₂, ℕ, ◌≤◌, List, length, true, false, true≢false, [], append-nil}
use Rattle.std.proofs.Common.{IsTrue, IsSome, Option, Ok, Err, Result, IfErr, IsErrAnd, OnErr, OnOk, arith}
use Rattle.sqlite.specs.Calls.{IsWrite}
use Rattle.sqlite.specs.Clock.{timed}
use Rattle.sqlite.specs.Command.{Command}
use Rattle.sqlite.specs.Command.TheVariants.{Select}
use Rattle.sqlite.specs.Effect.{Database, RefusesQuery, RefusesToRead}
use Rattle.sqlite.specs.Given.{IsPlain}
use Rattle.sqlite.specs.Held.{Held, state}
use Rattle.sqlite.specs.Listing.{understood, reads_listing, IsSourceOf}
use Rattle.sqlite.specs.Order.{Row}
use Rattle.sqlite.specs.Query.{Query}
use Rattle.sqlite.specs.Schema.{Schema}
use Rattle.sqlite.specs.State.{State, HasCleanDisk, Executes, ExecutesIn, ExecutesInside, EndsScope, Fails, FailsToQuery, FailsToShow, HasCause}
use Rattle.sqlite.specs.State.{IsMisplaced, IsNoStatement, IsNotRun, IsRolledBack, KeepsCommit, KeepsCounts, RunsAlone, RunsCommand, Shows, Survives}
use Rattle.sqlite.specs.State.{shows_rows, store_error}
use Rattle.sqlite.specs.Steps.{FailsToCommit}
use Rattle.sqlite.specs.Store.{Ghosts}
use Rattle.sqlite.specs.Tree.{Trees}
use Rattle.sqlite.specs.declared.error.Error.{Error}
use Rattle.sqlite.specs.declared.error.Error.TheVariants.{SqliteFailure}
use Rattle.sqlite.specs.declared.error.ErrorCode.TheVariants as code
use Rattle.sqlite.proofs.Callers.{command_of, survives_begin}
use Rattle.sqlite.proofs.InsideLemmas.{inside_keeps}
use Rattle.sqlite.proofs.StateLemmas.{survives_then}
use Rattle.sqlite_resolve.specs.declared.compiled.Compiled.{Compiled}
use Rattle.sqlite_resolve.specs.declared.error.CompileError.{CompileError}
use Rattle.sqlite_trees.specs.declared.error.StoreError.{StoreError}
use Rattle.sqlite_trees.specs.declared.error.StoreError.TheVariants.{OutOfMemory, Io, Corrupt, Full, Broken, Unstorable}
use Rattle.csi_sql.specs.Failing.{FailsFor, FailsOver, for_memory, by_disk, as_shut, at_limit, as_refused, SqlRefuses, SqlRefusesToRead, Unrefused}
use Rattle.csi_sql.specs.facts.Steps.{survives_commit}
use Rattle.csi_sql.specs.Transactions.{ChangesFrom, CommitsOver, IsUndone, LeavesFrom, LeavesNothingNew, RunsOver, StepsFrom}

-- ---- one cause for another

pub fails_weaker : (P Q : Error → Type 0) (old new : State) (e : Error) → (P e → Q e) → FailsFor P old new e → FailsFor Q old new e
fails_weaker P Q old new e f (for_memory is) = for_memory is
fails_weaker P Q old new e f (by_disk is more) = by_disk is more
fails_weaker P Q old new e f (as_shut is shut) = as_shut is shut
fails_weaker P Q old new e f (at_limit is some) = at_limit is some
fails_weaker P Q old new e f (as_refused why) = as_refused (f why)

-- an error of earlier steps is still an error after later steps
pub fails_before : (P : Error → Type 0) (old mid new : State) (e : Error) → mid.faults ≤ new.faults → FailsFor P old mid e → FailsFor P old new e
fails_before P old mid new e up (for_memory is) = for_memory is
fails_before P old mid new e up (by_disk is more) = by_disk is (omega (arith, up, more))
fails_before P old mid new e up (as_shut is shut) = as_shut is shut
fails_before P old mid new e up (at_limit is some) = at_limit is some
fails_before P old mid new e up (as_refused why) = as_refused why

-- the earlier steps left the connection open
pub fails_after : (P Q : Error → Type 0) (old mid new : State) (e : Error) → old.faults ≤ mid.faults → IsTrue mid.is_open
    → mid.step_limit ≡ old.step_limit → (P e → Q e) → FailsFor P mid new e → FailsFor Q old new e
fails_after P Q old mid new e up is_open limit f (for_memory is) = for_memory is
fails_after P Q old mid new e up is_open limit f (by_disk is more) = by_disk is (omega (arith, up, more))
fails_after P Q old mid new e up is_open limit f (as_shut is shut) = absurd (true≢false (sym is_open ∙ shut))
fails_after P Q old mid new e up is_open limit f (at_limit is some) = at_limit is (subst IsSome limit some)
fails_after P Q old mid new e up is_open limit f (as_refused why) = as_refused (f why)

-- ---- an error that is passed on

pub handed : {X E : Type 0} (r : Result X E) (e : E) (P : E → Type 0) → IsErrAnd r (λ x. x ≡ e) → P e → IfErr r P
handed (Ok x) e P is h = tt
handed (Err x) e P is h = subst P (sym is) h

never_ok : {X E : Type 0} (r : Result X E) (e : E) (P : Type 0) → IsErrAnd r (λ x. x ≡ e) → OnOk r P
never_ok (Ok x) e P is = absurd is
never_ok (Err x) e P is = tt

on_err : {X E : Type 0} (r : Result X E) (P : Type 0) → P → OnErr r P
on_err (Ok x) P h = tt
on_err (Err x) P h = h

-- ---- errors that the store reported

caused : (P : Error → Type 0) (old new : State) (big : Type 0) (e : Error) (cause : StoreError) → (big → e ≡ SqliteFailure code.TooBig → P e)
    → e ≡ store_error cause → HasCause old new big cause → FailsFor P old new e
caused P old new big e OutOfMemory f is why = for_memory is
caused P old new big e Io f is why = by_disk (rw is refl) why
caused P old new big e Corrupt f is why = by_disk (rw is refl) why
caused P old new big e Full f is why = by_disk (rw is refl) why
caused P old new big e Broken f is why = as_shut is why
caused P old new big e Unstorable f is why = as_refused (f why is)

pub store_fails : (P : Error → Type 0) (old new : State) (big : Type 0) (e : Error) → (big → e ≡ SqliteFailure code.TooBig → P e)
    → Fails old new big e → FailsFor P old new e
store_fails P old new big e f h = caused P old new big e h.0 f h.1 h.2

-- inside a transaction a commit fails as the store does
pub commit_fails : (old new : State) (e : Error) → IsTrue old.in_transaction → FailsToCommit old new e → FailsFor (λ _. ⊥) old new e
commit_fails old new e inside (inl h) = store_fails (λ _. ⊥) old new ⊥ e (λ none _. none) h
commit_fails old new e inside (inr h) = absurd (true≢false (sym inside ∙ h.1))

-- ---- a write of a fixed text

-- one statement alone, with `count` parameters, that does not read the time
abbrev pub IsAlone : List ℕ → ℕ → Result Compiled CompileError → Type 0
IsAlone text count (Ok c) = (length text ≤ c.tail) × (length c.names ≡ count) × (c.formats ≡ [])
IsAlone text count (Err e) = ⊥

abbrev pub IsAloneWrite : List ℕ → ℕ → Result Compiled CompileError → Type 0
IsAloneWrite text count (Ok c) = (length text ≤ c.tail) × (length c.names ≡ count) × (c.formats ≡ []) × IsWrite c.command × (shows_rows false c ≡ false)
IsAloneWrite text count (Err e) = ⊥

pub no_fault : (text : List ℕ) (params : Row) (s : State) (e : Error) → IsAlone text (length params) (understood s.now.schema text)
    → IsNoStatement s text params e → ⊥
no_fault text params s e alone (inl h) = subst (IsAlone text (length params)) h.1 alone
no_fault text params s e alone (inr h) = let it = subst (IsAlone text (length params)) h.1 alone in elim h.2 [
  | inl more ↦ more.0 it.0
  | inr (inl given) ↦ given.0 (sym it.1)
  | inr (inr reads) ↦ reads.0 it.2
]

never_misplaced : (s : State) (command : Command) (e : Error) → IsWrite command → IsMisplaced s command e → ⊥
never_misplaced s command e writes (inl (is, inl h)) = subst IsWrite h.0 writes
never_misplaced s command e writes (inl (is, inr (inl c, h))) = subst IsWrite c writes
never_misplaced s command e writes (inl (is, inr (inr c, h))) = subst IsWrite c writes
never_misplaced s command e writes (inr (is, name, inl c, h)) = subst IsWrite c writes
never_misplaced s command e writes (inr (is, name, inr c, h)) = subst IsWrite c writes

alone_write : (text : List ℕ) (count : ℕ) (r : Result Compiled CompileError) → IsAloneWrite text count r → IsAlone text count r
alone_write text count (Ok c) h = (h.0, h.1, h.2)
alone_write text count (Err e) h = absurd h

module _ (text : List ℕ) (params : Row) (old new : State) (e : Error) (alone : IsAloneWrite text (length params) (understood old.now.schema text)) where
  command_fails : (c : Compiled) → understood old.now.schema text ≡ Ok c → (full : Row) → full ≡ params → RunsAlone false old new text c full (Err e)
      → FailsFor (SqlRefuses text params old) old new e
  command_fails c is full same h =
      let it = subst (IsAloneWrite text (length params)) is alone in
      let ran : RunsCommand old new text c params (Err e) = subst (λ p. RunsCommand old new text c p (Err e)) same (rw it.4 at h) in
      elim ran [
        | inl (inl misplaced, same) ↦ absurd (never_misplaced old c.command e it.3 misplaced)
        | inl (inr refused, same) ↦ as_refused (c, is, inl refused.1)
        | inr failed ↦ store_fails (SqlRefuses text params old) old new _ e (λ big reported. (c, is, inr (reported, big))) failed
      ]

  executes_fails : ExecutesIn false text params old new (Err e) → FailsFor (SqlRefuses text params old) old new e
  unfolding ExecutesIn IsNotRun
  executes_fails (inl (inl none)) = absurd (no_fault text params old e (alone_write text _ _ alone) none.0)
  executes_fails (inl (inr failed)) = store_fails (SqlRefuses text params old) old new ⊥ e (λ none _. absurd none) failed
  executes_fails (inr h) = command_fails h.0 h.1.is _
      (ap (λ (f : List (List ℕ)). timed params f h.1.now) (subst (IsAloneWrite text (length params)) h.1.is alone).2 ∙ append-nil params) h.2

  pub write_fails : ExecutesInside 0 text params old new (Err e) → FailsFor (SqlRefuses text params old) old new e
  unfolding EndsScope
  write_fails (inl h) = executes_fails h.0
  write_fails (inr h) = let it = subst (IsAloneWrite text (length params)) h.0.1.is alone in absurd (elim h.0.2 [
    | inl (inl is) ↦ subst IsWrite is it.3
    | inl (inr is) ↦ subst IsWrite is it.3
    | inr (name, inl is, held) ↦ subst IsWrite is it.3
    | inr (name, inr is, held) ↦ subst IsWrite is it.3
  ])

-- the effect of such a text inside a transaction, from the clauses of the call that ran it
ran_step : (before : Schema) (Effect : Database → Database → Type 0) (text : List ℕ) (params : Row) (old new : State) (r : Result ℕ Error)
    → ((count : ℕ) → old.now.schema ≡ before → Executes text params old new (Ok count) → Effect old.now new.now)
    → ExecutesInside 0 text params old new r → OnOk r (StepsFrom before Effect old new)
ran_step before Effect text params old new (Ok count) does h = record { shown = h.1; effect = λ has. does count has h.0 }
ran_step before Effect text params old new (Err e) does h = tt

ran_fails : (before : Schema) (text : List ℕ) (params : Row) → IsAloneWrite text (length params) (understood before text)
    → (old new : State) (r : Result ℕ Error)
    → ExecutesInside 0 text params old new r → FailsOver before (SqlRefuses text params) old new r
ran_fails before text params alone old new (Ok count) h has = tt
ran_fails before text params alone old new (Err e) h has = write_fails text params old new e
    (subst (λ s. IsAloneWrite text (length params) (understood s text)) (sym has) alone) h

pub runs_over : {S : Type 0} {g : Ghosts S} {old new : Held S} {before : Schema} {Effect : Database → Database
    → Type 0} (text : List ℕ) (params : Row) (r : Result ℕ Error)
    → IsAloneWrite text (length params) (understood before text)
    → ((old new : State) (count : ℕ) → old.now.schema ≡ before → Executes text params old new (Ok count) → Effect old.now new.now)
    → (HasCleanDisk (state g new) → IsTrue old.in_transaction → ExecutesInside 0 text params (state g old) (state g new) r) → LeavesNothingNew g old new
    → RunsOver g old new before Effect (SqlRefuses text params) r
runs_over {g = g} {old = old} {new = new} {before = before} {Effect = Effect} text params r alone does ran left = record {
  ok = λ clean inside. ran_step before Effect text params (state g old) (state g new) r (does (state g old) (state g new)) (ran clean inside);
  failed = λ clean inside. ran_fails before text params alone (state g old) (state g new) r (ran clean inside);
  kept = λ clean inside. inside_keeps (state g old) (state g new) 0 false text params r (ran clean inside);
  survives = left;
}

-- ---- a SELECT

module _ (text : List ℕ) (params : Row) (old new : State) (e : Error) where
  read_fails : (c : Compiled) → understood old.now.schema text ≡ Ok c → IsPlain (understood old.now.schema text) → (now : ℕ)
      → FailsToShow old new text c (timed params c.formats now) e c.returning → FailsFor (SqlRefusesToRead text params old) old new e
  read_fails c is plain now h =
      let bare = subst IsPlain is plain in
      let it = rw (bare.0, bare.1, append-nil params) at h in
      as_refused (inr (c, is, it.0, it.1, it.2))

  pub query_fails : IsPlain (understood old.now.schema text) → FailsToQuery text params old new e → FailsFor (SqlRefusesToRead text params old) old new e
  unfolding FailsToQuery IsNotRun
  query_fails plain (inl (inl none)) = as_refused (inl none.0)
  query_fails plain (inl (inr failed)) = store_fails (SqlRefusesToRead text params old) old new ⊥ e (λ none _. absurd none) failed
  query_fails plain (inr h) = read_fails h.0 h.1.is plain h.1.now h.2

-- a query over a database of the schema is refused for nothing but a limit on its steps
abbrev pub IsNeverRefused : Schema → Row → Query → Type 0
IsNeverRefused schema params q = (limit : Option ℕ) (db : Trees) (e : Error) → RefusesQuery limit (record {
  schema = schema;
  trees = db;
}) (record { lets = []; body = q }) params e → (e ≡ SqliteFailure code.OperationInterrupted) × IsSome limit

-- the facts about a SELECT of a fixed text that are computed under a schema
pub record IsSure (schema : Schema) (text : List ℕ) (params : Row) : Type 0 where
  pub query : Query
  pub names : List (List ℕ)
  pub is : command_of (understood schema text) ≡ Select (record { lets = []; body = query }) names
  pub plain : IsPlain (understood schema text)
  pub unlisted : reads_listing schema text ≡ false
  pub alone : IsAlone text (length params) (understood schema text)
  pub unrefused : IsNeverRefused schema params query

-- the text is the query under the schema, and reads no other table
pub record IsSelect (schema : Schema) (text : List ℕ) (q : Query) : Type 0 where
  pub names : List (List ℕ)
  pub is : command_of (understood schema text) ≡ Select (record { lets = []; body = q }) names
  pub plain : IsPlain (understood schema text)
  pub unlisted : reads_listing schema text ≡ false

pub sure_of : {schema : Schema} {text : List ℕ} {q : Query} (params : Row) → IsSelect schema text q
    → IsAlone text (length params) (understood schema text) → IsNeverRefused schema params q → IsSure schema text params
sure_of params it alone unrefused = record {
  query = _;
  names = it.names;
  is = it.is;
  plain = it.plain;
  unlisted = it.unlisted;
  alone = alone;
  unrefused = unrefused;
}

-- a query whose types are right and that adds up nothing is refused only for the limit
pub only_limit : {A B Over Limited : Type 0} → (A × (true ≡ false)) ⊎ ((B × (⊥ ⊎ Over)) ⊎ Limited) → (Over → ⊥) → Limited
only_limit (inl typed) within = absurd (true≢false typed.1)
only_limit (inr (inl (is, inl none))) within = absurd none
only_limit (inr (inl (is, inr over))) within = absurd (within over)
only_limit (inr (inr limited)) within = limited

module _ (schema : Schema) (text : List ℕ) (params : Row) (sure : IsSure schema text params) (old new : State) (e : Error) (has : old.now.schema ≡ schema) where
  pub sure_refused : SqlRefusesToRead text params old e → (e ≡ SqliteFailure code.OperationInterrupted) × IsSome old.step_limit
  sure_refused (inl none) = absurd (no_fault text params old e (subst (λ s. IsAlone text (length params) (understood s text)) (sym has) sure.alone) none)
  sure_refused (inr (c, is, db, source, why)) =
      let known : ◌≡◌ {A = Result Compiled CompileError} (Ok c) (understood schema text) = sym is ∙ ap (λ s. understood s text) has in
      let same : db ≡ old.now = subst (λ b. IsSourceOf b old.now db) (ap (λ s. reads_listing s text) has ∙ sure.unlisted) source in
      let select : Command = Select (record { lets = []; body = sure.query }) sure.names in
      let asked : RefusesToRead old.step_limit select old.now params e =
      subst₂ (λ k d. RefusesToRead old.step_limit k d params e) (ap command_of known ∙ sure.is) same why in
      sure.unrefused old.step_limit old.now.trees e (subst (λ s. RefusesQuery old.step_limit (record {
        schema = s;
        trees = old.now.trees;
      }) (record { lets = []; body = sure.query }) params e) has asked)

  pub sure_fails : FailsFor (SqlRefusesToRead text params old) old new e → FailsFor Unrefused old new e
  sure_fails (for_memory is) = for_memory is
  sure_fails (by_disk is more) = by_disk is more
  sure_fails (as_shut is shut) = as_shut is shut
  sure_fails (at_limit is some) = at_limit is some
  sure_fails (as_refused why) = let it = sure_refused why in at_limit it.0 it.1

-- ---- a transaction

abbrev CommitsIn : State → State → Type 0
CommitsIn old new = IsTrue old.in_transaction × Shows old new old.now old.now false × KeepsCounts old new × (new.marks ≡ [])

-- a transaction begins with the state of the connection
pub fails_begun : {S : Type 0} (g : Ghosts S) (old : Held S) (P : Error → Type 0) (new : State) (e : Error)
    → FailsFor P (state g (record old { in_transaction = true })) new e → FailsFor P (state g old) new e
fails_begun g old P new e (for_memory is) = for_memory is
fails_begun g old P new e (by_disk is more) = by_disk is more
fails_begun g old P new e (as_shut is shut) = as_shut is shut
fails_begun g old P new e (at_limit is some) = at_limit is some
fails_begun g old P new e (as_refused why) = as_refused why

module _ {S : Type 0} (g : Ghosts S) (before : Schema) (old : Held S) where
  abbrev begun : State
  begun = state g (record old { in_transaction = true })

  -- a later part of the transaction failed, after a statement that succeeded
  pub later_fails : (P Q : Error → Type 0) (Effect : Database → Database → Type 0) (mid : State) (new : State) (e : Error)
      → Survives begun mid (λ _. ⊥) → StepsFrom before Effect begun mid
      → (P e → Q e) → FailsFor P mid new e → FailsFor Q (state g old) new e
  later_fails P Q Effect mid new e left step f h = fails_begun g old Q new e (fails_after P Q begun mid new e left.counts step.shown.is_open left.limit f h)

  undone_as : (mid new : State) → KeepsCommit begun mid → IsRolledBack mid new → IsUndone (state g old) new
  undone_as mid new kept h = record {
    was_open = λ is_open. kept.was_open (h.was_open is_open);
    now = λ is_open. (h.undone is_open).0 ∙ kept.committed (h.was_open is_open);
    committed = λ is_open. (h.undone is_open).1 ∙ kept.committed (h.was_open is_open);
  }

  committed : (Effect : Database → Database → Type 0) (mid new : State) (r : Result (Unit {0}) Error) → StepsFrom before Effect begun mid
      → OnOk r (CommitsIn mid new) → OnOk r (ChangesFrom before Effect (state g old) new)
  committed Effect mid new (Ok x) step h = record {
    was_open = step.shown.was_open;
    is_open = h.1.is_open;
    committed = h.1.committed_is ∙ sym h.1.now_is;
    effect = λ has. subst (Effect (state g old).now) (sym h.1.now_is) (step.effect has);
  }
  committed Effect mid new (Err e) step h = tt

  uncommitted : (Effect : Database → Database → Type 0) (mid new : State) (r : Result (Unit {0}) Error) → StepsFrom before Effect begun mid
      → KeepsCommit begun mid → IfErr r (FailsToCommit mid new)
      → OnErr r (IsUndone (state g old) new)
  uncommitted Effect mid new (Ok x) step kept h = tt
  uncommitted Effect mid new (Err e) step kept (inl failed) = undone_as mid new kept failed.3
  uncommitted Effect mid new (Err e) step kept (inr outside) = absurd (true≢false (sym step.shown.mode ∙ outside.1))

  not_committed : (Q : Error → Type 0) (Effect : Database → Database → Type 0) (mid new : State) (r : Result (Unit {0}) Error)
      → Survives begun mid (λ _. ⊥) → StepsFrom before Effect begun mid → IfErr r (FailsToCommit mid new)
      → IfErr r (FailsFor Q (state g old) new)
  not_committed Q Effect mid new (Ok x) left step h = tt
  not_committed Q Effect mid new (Err e) left step h = later_fails (λ _. ⊥) Q Effect mid new e left step absurd (commit_fails mid new e step.shown.mode h)

  -- the facts from the clauses of a commit, and from the end of a transaction that was not committed
  abbrev pub Committed : Held S → Held S → Result (Unit {0}) Error → Type 0
  Committed mid end r = record {
    ended : end.in_transaction ≡ false;
    ok : HasCleanDisk (state g end) → OnOk r (CommitsIn (state g mid) (state g end));
    err : HasCleanDisk (state g end) → IfErr r (FailsToCommit (state g mid) (state g end));
    survives : Survives (state g mid) (state g end) (λ db. db ≡ (state g mid).now.trees);
  }

  abbrev pub Dropped : Held S → Held S → Type 0
  Dropped mid end = record {
    ended : end.in_transaction ≡ false;
    undone : HasCleanDisk (state g end) → IsRolledBack (state g mid) (state g end);
    survives : LeavesNothingNew g mid end;
  }

  -- the transaction whose first statement failed, after it was undone
  pub undoes : {X Y : Type 0} {First Effect : Database → Database → Type 0} {Why Refuses : State → Error
      → Type 0} {mid new : Held S} (r : Result Y Error) (e : Error) → (Why begun e → Refuses (state g old) e)
      → RunsOver g (record old { in_transaction = true }) mid {X = X} before First Why (Err e) → (end : Held S) → Dropped mid end → end ≡ new
      → IsErrAnd r (λ x. x ≡ e) → CommitsOver g old new before Effect Refuses r
  undoes {X = X} {Effect = Effect} {Why = Why} {Refuses = Refuses} {mid = mid} r e same ran end dropped at is =
      let left = dropped.survives in
      subst (λ (h : Held S). CommitsOver g old h before Effect Refuses r) at (record {
        ok = λ clean. never_ok r e _ is;
        err = λ clean. on_err r _ (undone_as (state g mid) (state g end) (ran.kept (omega (arith, left.clean)) refl) (dropped.undone clean));
        failed = λ clean has. handed r e _ is (fails_weaker (Why begun) (Refuses (state g old)) (state g old) (state g end) e same
            (fails_begun g old (Why begun) (state g end) e
            (fails_before (Why begun) begun (state g mid) (state g end) e left.counts (ran.failed (omega (arith, left.clean)) refl has))));
        survives = survives_then (state g old) (state g mid) (state g end) (λ _. ⊥) (λ _. ⊥) (LeavesFrom before Effect (state g old))
            (λ _ db none. absurd none) (λ _ db none. absurd none)
            (survives_begin g old (state g mid) _ ran.survives) left;
      })

  -- the transaction whose one statement succeeded, after it was committed
  pub commits : {X : Type 0} {Effect : Database → Database → Type 0} {Why Refuses : State → Error
      → Type 0} {mid new : Held S} {x : X} (r : Result (Unit {0}) Error)
      → RunsOver g (record old { in_transaction = true }) mid before Effect Why (Ok x) → (end : Held S) → Committed mid end r → end ≡ new
      → CommitsOver g old new before Effect Refuses r
  commits {Effect = Effect} {Refuses = Refuses} {mid = mid} r ran end done at =
      let left = done.survives in
      let earlier : HasCleanDisk (state g end) → HasCleanDisk (state g mid) = λ clean. omega (arith, left.clean) in
      subst (λ (h : Held S). CommitsOver g old h before Effect Refuses r) at (record {
        ok = λ clean. committed Effect (state g mid) (state g end) r (ran.ok (earlier clean) refl) (done.ok clean);
        err = λ clean. uncommitted Effect (state g mid) (state g end) r (ran.ok (earlier clean) refl) (ran.kept (earlier clean) refl) (done.err clean);
        failed = λ clean has. not_committed (Refuses (state g old)) Effect (state g mid) (state g end) r ran.survives (ran.ok (earlier clean) refl)
            (done.err clean);
        survives = survives_commit g before old (state g mid) (state g end) Effect ran.survives (λ clean. ran.ok clean refl) left;
      })
