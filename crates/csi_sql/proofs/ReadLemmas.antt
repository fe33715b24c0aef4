-- A SELECT inside a transaction: the rows that it reads, and that the committed state stays.
use Rattle.std.proofs.Common.{◌≡◌, ◌∙◌, ◌⊎◌, inl, inr, refl, sym, ap, subst, subst₂, ℕ, List, [], ◌∷◌, map, filter, take, true, if◌then◌else◌, Option, Some, None, Ok, Err, Result, IfOk, IfErr, IsTrue}
use Rattle.sqlite.specs.Effect.{Database}
use Rattle.sqlite.specs.Held.{Held, state}
use Rattle.sqlite.specs.Listing.{understood}
use Rattle.sqlite.specs.Order.{Row, column}
use Rattle.sqlite.specs.Program.{overlay}
use Rattle.sqlite.specs.Query.{Output, output, page}
use Rattle.sqlite.specs.State.{State, HasCleanDisk, KeepsCommit, IsUnchanged, IsRolledBack, Shows, Shown, ShowsRows, IsNotRun, FailsToQuery, FailsToShow, QueriesRow, QueriesRowInside, IsTooLate}
use Rattle.sqlite.specs.Store.{Ghosts}
use Rattle.sqlite.specs.Term.{Term, col}
use Rattle.sqlite.specs.Tree.{Trees}
use Rattle.sqlite.specs.declared.error.Error.{Error}
use Rattle.sqlite.specs.declared.types.Value.TheVariants.{Null}
use Rattle.sqlite.proofs.Callers.{IsPlain, first_as, reads_as}
use Rattle.sqlite_resolve.specs.declared.compiled.Compiled.{Compiled}
use Rattle.sqlite_rules.proofs.ListLemmas.{all_from, all_has, has_filtered}
use Rattle.sqlite_rules.proofs.ProbeLemmas.{has_mapped}
use Rattle.sqlite_rules.specs.Lists.{Has}
use Rattle.sqlite_schema.specs.declared.command.Returning.{Returning}
use Rattle.sqlite_trees.proofs.ListLemmas.{all-permutation}
use Rattle.sqlite_value.specs.declared.keys.Key.{Key}
use Rattle.csi_sql.specs.Transactions.{LeavesNothingNew}
use Rattle.csi_sql.specs.facts.Failing.{IsSelect}
use Rattle.csi_sql.specs.Refusing.{NothingRefuses}
use Rattle.csi_sql.specs.Effects.{Sees, Selects, Steps, Reads}
use Rattle.csi_sql.specs.Selecting.{Reports, asked, given}
use Rattle.csi_sql.specs.declared.statements.select.Select.{Select}
use Rattle.csi_sql.specs.declared.statements.select.Select.TheVariants.{Numbered, Named, Sizes, Page, Nodes, Attached, Places}
use Rattle.csi_sql.specs.Shown.{IsShownOf, IsBeginningOf, IsNext}
use Rattle.csi_sql.specs.Statements.{number_query, volume_query, named_query, sizes_query, page_query, nodes_query, attached_query, places_query}
use Rattle.csi_sql.specs.Tables.{schema}
use Rattle.csi_sql.proofs.SelectLemmas.{limited, one_table, shows_all, shows_one}
use Rattle.csi_sql.proofs.RefusingLemmas.{all_reported}
use Rattle.csi_sql.proofs.TextLemmas.{is_select, is_sure, number_text, number_select}

-- ---- the committed state stays

kept_unchanged : (old new : State) → IsUnchanged old new → KeepsCommit old new
kept_unchanged old new h = record { was_open = λ _. h.0.was_open; committed = λ _. h.0.committed_is }

kept_rolled_back : (old new : State) → IsRolledBack old new → KeepsCommit old new
kept_rolled_back old new h = record { was_open = h.was_open; committed = λ is_open. (h.undone is_open).1 }

kept_shown : (old new : State) (sql : List ℕ) (c : Compiled) (params : Row) (rows : List Row) (what : Option Returning) → IsTrue old.in_transaction → ShowsRows old new sql c params rows what → KeepsCommit old new
kept_shown old new sql c params rows None inside h = kept_unchanged old new h.3
kept_shown old new sql c params rows (Some what) inside h = record { was_open = λ _. h.1.shown.was_open; committed = λ _. rw inside at h.1.shown.committed_is }

shown_keeps : (sql : List ℕ) (params : Row) (old new : State) (rows : List Row) → IsTrue old.in_transaction → Shown sql params old new rows → KeepsCommit old new
unfolding Shown
shown_keeps sql params old new rows inside h = kept_shown old new sql h.0 _ rows h.0.returning inside h.2

kept_not_shown : (old new : State) (sql : List ℕ) (c : Compiled) (params : Row) (e : Error) (what : Option Returning) → FailsToShow old new sql c params e what → KeepsCommit old new
kept_not_shown old new sql c params e None h = kept_unchanged old new h.3
kept_not_shown old new sql c params e (Some what) (inl h) = kept_unchanged old new h.1
kept_not_shown old new sql c params e (Some what) (inr h) = kept_rolled_back old new h.3

fails_keeps : (sql : List ℕ) (params : Row) (old new : State) (e : Error) → FailsToQuery sql params old new e → KeepsCommit old new
unfolding FailsToQuery IsNotRun
fails_keeps sql params old new e (inl (inl h)) = kept_unchanged old new h.1
fails_keeps sql params old new e (inl (inr h)) = kept_rolled_back old new h.3
fails_keeps sql params old new e (inr h) = kept_not_shown old new sql h.0 _ e h.0.returning h.2

pub row_keeps : (sql : List ℕ) (params : Row) (old new : State) (r : Result Row Error) → IsTrue old.in_transaction → QueriesRowInside sql params old new r → KeepsCommit old new
unfolding QueriesRow
row_keeps sql params old new (Ok row) inside (inl h) = kept_unchanged old new h.1
row_keeps sql params old new (Ok row) inside (inr h) = shown_keeps sql params old new h.0 inside h.1
row_keeps sql params old new (Err e) inside (inl (inl h)) = fails_keeps sql params old new e h
row_keeps sql params old new (Err e) inside (inl (inr h)) = shown_keeps sql params old new [] inside h.1
row_keeps sql params old new (Err e) inside (inr h) = kept_unchanged old new h.5

all_keeps : {V : Type 0} (items : V → List Row) (sql : List ℕ) (params : Row) (old new : State) (r : Result V Error) → IsTrue old.in_transaction → IfOk r (λ v. Shown sql params old new (items v))
    → IfErr r (λ e. FailsToQuery sql params old new e ⊎ IsTooLate sql params old new e) → KeepsCommit old new
all_keeps items sql params old new (Ok v) inside h k = shown_keeps sql params old new (items v) inside h
all_keeps items sql params old new (Err e) inside h (inl k) = fails_keeps sql params old new e k
all_keeps items sql params old new (Err e) inside h (inr k) = kept_unchanged old new k.5

-- ---- all rows of an answer

seen_if_shown : (old new : State) (sql : List ℕ) (c : Compiled) (params : Row) (rows : List Row) (what : Option Returning) → IsTrue old.in_transaction → ShowsRows old new sql c params rows what → Shows old new new.now old.committed true
seen_if_shown old new sql c params rows None inside s = let it = s.3.0 in record { was_open = it.was_open; is_open = it.is_open; now_is = refl; committed_is = it.committed_is; mode = it.mode ∙ inside }
seen_if_shown old new sql c params rows (Some what) inside s =
    let it = s.1.shown in
    record { was_open = it.was_open; is_open = it.is_open; now_is = refl; committed_is = it.committed_is ∙ ap (λ b. if b then old.committed else new.now) inside; mode = it.mode ∙ inside }

-- if the SELECT is ours, the database is unchanged
same_if_plain : (old new : State) (sql : List ℕ) (c : Compiled) (params : Row) (rows : List Row) → c.returning ≡ None → ShowsRows old new sql c params rows c.returning → new.now ≡ old.now
same_if_plain old new sql c params rows none s = (subst (ShowsRows old new sql c params rows) none s).3.0.now_is

stays : (sql : List ℕ) (params : Row) (old new : State) (rows : List Row) → IsPlain (understood schema sql) → old.now.schema ≡ schema → Shown sql params old new rows → new.now ≡ old.now
unfolding Shown
stays sql params old new rows plain has h = same_if_plain old new sql h.0 _ rows (subst IsPlain (sym (sym h.1.is ∙ ap (λ s. understood s sql) has)) plain).0 h.2

step_shown : (sql : List ℕ) (params : Row) (old new : State) (rows : List Row) → IsTrue old.in_transaction → Shown sql params old new rows → Shows old new new.now old.committed true
unfolding Shown
step_shown sql params old new rows inside h = seen_if_shown old new sql h.0 _ rows h.0.returning inside h.2

read_all : {V : Type 0} (items : V → List Row) (r : Result V Error) (P Q : List Row → Type 0) → ((rows : List Row) → P rows → Q rows) → IfOk r (λ v. P (items v)) → IfOk r (λ v. Q (items v))
read_all items (Ok v) P Q f h = f (items v) h
read_all items (Err e) P Q f h = tt

module _ (text : List ℕ) (t : ℕ) (test shown : List Term) (order : List (Term × Key)) (params : Row) (old new : State) (rows : List Row)
    (stands : (db : Trees) → overlay db [] t ≡ db t) (inside : IsTrue old.in_transaction) (h : Shown text params old new rows) where
  selects : IsSelect schema text (one_table t test shown order) → Steps (Sees (λ db. IsShownOf (one_table t test shown order) (db.trees t) params rows)) old new
  selects it = record {
    shown = step_shown text params old new rows inside h;
    effect = λ has. record {
      same = stays text params old new rows it.plain has h;
      reported = subst (λ table. IsShownOf (one_table t test shown order) table params rows) (stands old.now.trees)
          (shows_one t test shown order (overlay old.now.trees []) params rows ((reads_as text params old new schema has _ it.is it.plain it.unlisted rows h).answer Null));
    };
  }

  -- the second parameter limits the answer
  selects_first : (count : ℕ) → ((all : List Row) → page (limited t test shown order (col 0 1)) params all ≡ take count all) → IsSelect schema text (limited t test shown order (col 0 1))
      → Steps (Sees (λ db. IsBeginningOf (limited t test shown order (col 0 1)) (db.trees t) params count rows)) old new
  selects_first count cut it = record {
    shown = step_shown text params old new rows inside h;
    effect = λ has.
        let a = (reads_as text params old new schema has _ it.is it.plain it.unlisted rows h).answer Null in
        let all = map (λ (o : Output). o.1) a.ordered in
        let first = shows_all t test shown order (col 0 1) (overlay old.now.trees []) params rows a in
        record {
          same = stays text params old new rows it.plain has h;
          reported = (all, subst (λ table. IsShownOf (limited t test shown order (col 0 1)) table params all) (stands old.now.trees) first, a.shown ∙ cut all);
        };
  }

shows : (q : Select) (old new : State) (rows : List Row) → IsTrue old.in_transaction → Shown (asked q) (given q) old new rows → Steps (Sees (λ db. Reports q db rows)) old new
shows (Page after count) old new rows inside h = let q = page_query in selects_first _ 1 q.filter q.project q.order _ old new rows (λ db. refl) inside h count (λ all. refl) (is_select (Page after count))
shows (Numbered number) old new rows inside h = let q = volume_query in selects _ 1 q.filter q.project q.order _ old new rows (λ db. refl) inside h (is_select (Numbered number))
shows (Named name) old new rows inside h = let q = named_query in selects _ 1 q.filter q.project q.order _ old new rows (λ db. refl) inside h (is_select (Named name))
shows (Sizes pool) old new rows inside h = let q = sizes_query in selects _ 1 q.filter q.project q.order _ old new rows (λ db. refl) inside h (is_select (Sizes pool))
shows (Nodes number) old new rows inside h = let q = nodes_query in selects _ 3 q.filter q.project q.order _ old new rows (λ db. refl) inside h (is_select (Nodes number))
shows (Attached node) old new rows inside h = let q = attached_query in selects _ 3 q.filter q.project q.order _ old new rows (λ db. refl) inside h (is_select (Attached node))
shows (Places after last) old new rows inside h = let q = places_query in selects _ 3 q.filter q.project q.order _ old new rows (λ db. refl) inside h (is_select (Places after last))

-- a read inside a transaction, by the clauses of the call that ran its text
pub selects_over : {S V : Type 0} {g : Ghosts S} {old new : Held S} (q : Select) (text : List ℕ) (params : Row) → text ≡ asked q → params ≡ given q → (items : V → List Row) (r : Result V Error)
    → (HasCleanDisk (state g new) → IfOk r (λ v. Shown text params (state g old) (state g new) (items v)))
    → (HasCleanDisk (state g new) → IfErr r (λ e. FailsToQuery text params (state g old) (state g new) e ⊎ IsTooLate text params (state g old) (state g new) e))
    → LeavesNothingNew g old new → Selects g old new (λ db v. Reports q db (items v)) NothingRefuses r
selects_over {g = g} {old = old} {new = new} q text params is same items r ok err left =
    let before = state g old in
    let behind = state g new in
    let did = λ (clean : HasCleanDisk behind). subst₂ (λ t p. IfOk r (λ v. Shown t p before behind (items v))) is same (ok clean) in
    let refused = λ (clean : HasCleanDisk behind). subst₂ (λ t p. IfErr r (λ e. FailsToQuery t p before behind e ⊎ IsTooLate t p before behind e)) is same (err clean) in
    record {
      ok = λ clean inside. read_all items r (Shown (asked q) (given q) before behind) (λ rows. Steps (Sees (λ db. Reports q db rows)) before behind) (λ rows h. shows q before behind rows inside h) (did clean);
      failed = λ clean inside. all_reported (asked q) (given q) before behind r (is_sure q) inside (refused clean);
      kept = λ clean inside. all_keeps items (asked q) (given q) before behind r inside (did clean) (refused clean);
      survives = left;
    }

-- a read that is then undone
pub reads : {What : Database → Type 0} {old new : State} → Steps (Sees What) old new → Reads What old
reads h = record { was_open = h.shown.was_open; what = λ has. (h.effect has).reported }

-- ---- a row of meta

step_row : (sql : List ℕ) (old new : State) (row : Row) → IsTrue old.in_transaction → QueriesRow sql [] old new (Ok row) → Shows old new new.now old.committed true
unfolding QueriesRow
step_row sql old new row inside (inl h) = let it = h.1.0 in record { was_open = it.was_open; is_open = it.is_open; now_is = refl; committed_is = it.committed_is; mode = it.mode ∙ inside }
step_row sql old new row inside (inr h) = step_shown sql [] old new h.0 inside h.1

row_stays : (sql : List ℕ) (old new : State) (row : Row) → IsPlain (understood schema sql) → old.now.schema ≡ schema → QueriesRow sql [] old new (Ok row) → new.now ≡ old.now
unfolding QueriesRow
row_stays sql old new row plain has (inl h) = h.1.0.now_is
row_stays sql old new row plain has (inr h) = stays sql [] old new h.0 plain has h.1

first_has : (row : Row) (rows : List Row) (all : List Row) → row ∷ rows ≡ all → Has all row
first_has row rows all is = subst (λ (xs : List Row). Has xs row) is (inl refl)

of_table : (rows : List Row) (row : Row) (behind : List Row) → IsShownOf number_query rows [] (row ∷ behind) → (kept : Row) × Has rows kept × (row ≡ column kept 3 ∷ [])
of_table rows row behind h =
    let out = has_mapped (λ (o : Output). o.1) h.ordered row (first_has row behind _ h.shown_is) in
    let passed = filter (λ r. true) rows in
    let before = all_has (Has (map (λ (r : Row). output number_query ([] ∷ r ∷ [])) passed)) h.ordered out.0 (all-permutation (Has (map (λ (r : Row). output number_query ([] ∷ r ∷ [])) passed)) _ h.ordered h.same (all_from _ _ (λ e has. has))) out.1 in
    let made = has_mapped (λ (r : Row). output number_query ([] ∷ r ∷ [])) passed out.0 before in
    (made.0, (has_filtered (λ r. true) rows made.0 made.1).0, out.2 ∙ ap (λ (o : Output). o.1) made.2)

number_shown : (old new : State) (row : Row) → QueriesRowInside number_text [] old new (Ok row) → old.now.schema ≡ schema → IsNext old.now row
number_shown old new row h has =
    let got = (first_as number_text [] old new schema has _ number_select.is number_select.plain number_select.unlisted row h).1 in
    of_table (old.now.trees 0) row got.0 (shows_one 0 [] number_query.project [] (overlay old.now.trees []) [] (row ∷ got.0) (got.1 Null))

pub number_read : (old new : State) (r : Result Row Error) → IsTrue old.in_transaction → QueriesRowInside number_text [] old new r
    → IfOk r (λ row. Steps (Sees (λ db. IsNext db row)) old new)
number_read old new (Err e) inside h = tt
number_read old new (Ok row) inside h = record {
  shown = step_row number_text old new row inside h;
  effect = λ has. record {
    same = row_stays number_text old new row number_select.plain has h;
    reported = number_shown old new row h has;
  };
}
