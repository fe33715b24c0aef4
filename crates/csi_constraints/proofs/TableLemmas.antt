-- The rows that a scan over one table shows: each row once, and in order if an order is asked for.
use Rattle.std.proofs.Common.{◌≡◌, ◌∙◌, refl, sym, ap, subst, zero, suc, ℕ, ◌+◌, List, [], ◌∷◌, map, flat_map, length, slice_index_or, codes, arith, IsPermutation, IsSorted}
use Rattle.std.specs.declared.cmp.Ordering.{Ordering}
use Rattle.std.specs.declared.cmp.Ordering.TheVariants.{Less, Equal, Greater}
use Rattle.std.specs.Ordering.{is_lt, ordering_then}
use Rattle.std.specs.List.{AllByRecursion}
use Rattle.std.proofs.lemmas.List.Sorted.{IsPermutation-map}
use Rattle.sqlite.specs.Collation.TheVariants.{Binary}
use Rattle.sqlite.specs.Order.{Row, column, value_cmp}
use Rattle.sqlite.specs.Program.{overlay}
use Rattle.sqlite.specs.Query.{Query, Output, output, output_cmp, inner, left, end, IsAnswer}
use Rattle.sqlite.specs.State.{State, Shown}
use Rattle.sqlite.specs.Term.{Term, col, op2}
use Rattle.sqlite.specs.Tree.{Trees}
use Rattle.sqlite.specs.declared.types.Value.TheVariants.{Null}
use Rattle.sqlite.proofs.Callers.{reads_as}
use Rattle.sqlite_sql.specs.declared.ops.BinaryOp.TheVariants.{Compare}
use Rattle.sqlite_sql.specs.declared.ops.CompareOp.TheVariants.{Eq}
use Rattle.sqlite_tied.specs.Compute.{everything}
use Rattle.sqlite_trees.proofs.ListLemmas.{all-permutation}
use Rattle.sqlite_value.specs.declared.keys.Key.{Key}
use Rattle.csi_sql.specs.Rows.{seen_attachment, seen_meta, seen_volume}
use Rattle.csi_sql.specs.Tables.{schema}
use Rattle.csi_sql.specs.facts.Compiling.{Compiles, is_alone, is_select, selects}
use Rattle.csi_sql.specs.facts.Failing.{IsNeverRefused, IsSure, only_limit, sure_of}
use Rattle.csi_sql.specs.Statements.{plain_query, rising}
use Rattle.csi_constraints.specs.Scans.{IsInOrder, first_cmp, keyed_attachment}
use Rattle.csi_constraints.specs.Texts.{Scan, Meta, Volumes, Attachments, Places, Owners, text}

-- ---- the queries that the texts of the scans are

abbrev pub table_query : ℕ → List Term → List (Term × Key) → Query
table_query t shown order = record plain_query { from = inner t end; project = shown; order = order }

-- a query over one table, in the order of the first shown column
abbrev pub ordered_query : ℕ → Term → List Term → Query
ordered_query t first more = table_query t (first ∷ more) ((first, rising) ∷ [])

abbrev pub owner_on : List Term
owner_on = op2 (Compare Eq Binary) (col 2 0) (col 1 1) ∷ []

abbrev pub query : Scan → Query
query Meta = table_query 0 (col 1 0 ∷ col 1 2 ∷ col 1 3 ∷ []) []
query Volumes = ordered_query 1 (col 1 0) (col 1 2 ∷ col 1 3 ∷ col 1 4 ∷ col 1 5 ∷ col 1 6 ∷ [])
query Attachments = ordered_query 3 (col 1 0) (col 1 1 ∷ col 1 2 ∷ col 1 3 ∷ col 1 4 ∷ [])
query Places = ordered_query 3 (col 1 1) (col 1 2 ∷ col 1 3 ∷ col 1 4 ∷ [])
query Owners = record (ordered_query 3 (col 1 1) (col 1 2 ∷ col 1 3 ∷ col 1 4 ∷ col 2 5 ∷ [])) { from = inner 3 (left 1 owner_on end) }

-- the names of the columns that a scan shows
abbrev shown_names : Scan → List (List ℕ)
shown_names Meta = codes "k" ∷ codes "format_no" ∷ codes "next_number" ∷ []
shown_names Volumes = codes "number" ∷ codes "name" ∷ codes "bytes" ∷ codes "pool" ∷ codes "caps" ∷ codes "params" ∷ []
shown_names Attachments = codes "rowid" ∷ codes "number" ∷ codes "node" ∷ codes "cap" ∷ codes "readonly" ∷ []
shown_names Places = codes "number" ∷ codes "node" ∷ codes "cap" ∷ codes "readonly" ∷ []
shown_names Owners = codes "number" ∷ codes "node" ∷ codes "cap" ∷ codes "readonly" ∷ codes "caps" ∷ []

compiles : (scan : Scan) → Compiles (text scan) (selects (query scan) (shown_names scan)) 0
unfolding everything
compiles Meta = record { is = refl }
compiles Volumes = record { is = refl }
compiles Attachments = record { is = refl }
compiles Places = record { is = refl }
compiles Owners = record { is = refl }

never_refused : (scan : Scan) → IsNeverRefused schema [] (query scan)
never_refused Meta limit db e h = only_limit h (λ over. over.4)
never_refused Volumes limit db e h = only_limit h (λ over. over.4)
never_refused Attachments limit db e h = only_limit h (λ over. over.4)
never_refused Places limit db e h = only_limit h (λ over. over.4)
never_refused Owners limit db e h = only_limit h (λ over. over.4.4)

-- a scan is refused only for a limit on its steps
pub is_sure : (scan : Scan) → IsSure schema (text scan) []
is_sure scan = sure_of [] (is_select (compiles scan)) (is_alone (compiles scan) refl) (never_refused scan)

-- ---- each row once

outputs : (q : Query) (rows : List Row) → map (output q) (flat_map (λ r. ([] ∷ r ∷ []) ∷ []) rows) ≡ map (λ r. output q ([] ∷ r ∷ [])) rows
outputs q [] = refl
outputs q (r ∷ rows) = ap (λ l. output q ([] ∷ r ∷ []) ∷ l) (outputs q rows)

seen_of : (q : Query) (rows : List Row) → map (λ (o : Output). o.1) (map (λ r. output q ([] ∷ r ∷ [])) rows) ≡ map (λ r. (output q ([] ∷ r ∷ [])).1) rows
seen_of q [] = refl
seen_of q (r ∷ rows) = ap (λ l. (output q ([] ∷ r ∷ [])).1 ∷ l) (seen_of q rows)

module _ (t : ℕ) (shown : List Term) (order : List (Term × Key)) (db : Trees) (rows : List Row) (a : IsAnswer (table_query t shown order) db [] rows) where
  kept_is : a.kept ≡ map (λ r. output (table_query t shown order) ([] ∷ r ∷ [])) (db t)
  kept_is = a.distinct ∙ ap (map (output (table_query t shown order))) a.grouped ∙ outputs (table_query t shown order) (db t)

  pub shows_each : IsPermutation (map (λ r. (output (table_query t shown order) ([] ∷ r ∷ [])).1) (db t)) rows
  shows_each = subst (λ xs. IsPermutation xs rows) (ap (map (λ (o : Output). o.1)) kept_is ∙ seen_of (table_query t shown order) (db t))
      (subst (IsPermutation (map (λ (o : Output). o.1) a.kept)) (sym a.shown) (IsPermutation-map (λ (o : Output). o.1) _ _ a.same))

-- ---- in order

-- a row is sorted by the first column that it shows
abbrev pub IsKeyed : Output → Type 0
IsKeyed o = o.0 ≡ column o.1 0 ∷ []

keyed_at : (outs : List Output) (k : ℕ) (d : Output) → AllByRecursion IsKeyed outs → IsKeyed d → IsKeyed (slice_index_or outs k d)
keyed_at [] k d all e = e
keyed_at (o ∷ outs) zero d all e = all.0
keyed_at (o ∷ outs) (suc k) d all e = keyed_at outs k d all.1 e

shown_at : (outs : List Output) (k : ℕ) (d : Output) → slice_index_or (map (λ (o : Output). o.1) outs) k d.1 ≡ (slice_index_or outs k d).1
shown_at [] k d = refl
shown_at (o ∷ outs) zero d = refl
shown_at (o ∷ outs) (suc k) d = shown_at outs k d

as_many : (outs : List Output) → length (map (λ (o : Output). o.1) outs) ≡ length outs
as_many [] = refl
as_many (o ∷ outs) = ap suc (as_many outs)

is_lt_then : (o : Ordering) → is_lt (ordering_then o Equal) ≡ is_lt o
is_lt_then Less = refl
is_lt_then Equal = refl
is_lt_then Greater = refl

-- a query whose rows are sorted by one term
module _ (q : Query) (first : Term) (is : q.order ≡ (first, rising) ∷ []) where
  same_test : (a b : Output) → IsKeyed a → IsKeyed b → is_lt (output_cmp q a b) ≡ is_lt (first_cmp a.1 b.1)
  same_test a b x y = rw (is, x, y) (is_lt_then (value_cmp (column a.1 0) (column b.1 0)))

  sorted_shown : (outs : List Output) → AllByRecursion IsKeyed outs → IsSorted (output_cmp q) outs → IsSorted first_cmp (map (λ (o : Output). o.1) outs)
  sorted_shown outs all sorted k d from below =
      let e : Output = (column d 0 ∷ [], d) in
      let x = slice_index_or outs (k + 1) e in
      let y = slice_index_or outs k e in
      let was = sorted k e from (omega (arith, below, as_many outs)) in
      rw (shown_at outs (k + 1) e, shown_at outs k e) (sym (same_test x y (keyed_at outs (k + 1) e all refl) (keyed_at outs k e all refl)) ∙ was)

  -- the shown rows are sorted, if each row shows the term first
  pub sorted_by_first : (kept ordered : List Output) → AllByRecursion IsKeyed kept → IsPermutation kept ordered → IsSorted (output_cmp q) ordered → (shown : List Row) → shown ≡ map (λ (o : Output). o.1) ordered → IsSorted first_cmp shown
  sorted_by_first kept ordered all same sorted shown e = subst (IsSorted first_cmp) (sym e) (sorted_shown ordered (all-permutation IsKeyed kept ordered same all) sorted)

all_keyed : (t : ℕ) (first : Term) (more : List Term) (rows : List Row) → AllByRecursion IsKeyed (map (λ r. output (ordered_query t first more) ([] ∷ r ∷ [])) rows)
all_keyed t first more [] = tt
all_keyed t first more (r ∷ rows) = (refl, all_keyed t first more rows)

shows_in_order : (t : ℕ) (first : Term) (more : List Term) (db : Trees) (rows : List Row) → IsAnswer (ordered_query t first more) db [] rows
    → IsInOrder (map (λ r. (output (ordered_query t first more) ([] ∷ r ∷ [])).1) (db t)) rows
shows_in_order t first more db rows a = record {
  same = shows_each t (first ∷ more) ((first, rising) ∷ []) db rows a;
  sorted = sorted_by_first (ordered_query t first more) first refl a.kept a.ordered
      (subst (AllByRecursion IsKeyed) (sym (kept_is t (first ∷ more) ((first, rising) ∷ []) db rows a)) (all_keyed t first more (db t))) a.same a.sorted rows a.shown;
}

-- ---- the scans

pub answer_of : (scan : Scan) (old new : State) (rows : List Row) → old.now.schema ≡ schema → Shown (text scan) [] old new rows → IsAnswer (query scan) (overlay old.now.trees []) [] rows
answer_of scan old new rows has h = let it = is_select (compiles scan) in (reads_as (text scan) [] old new schema has _ it.is it.plain it.unlisted rows h).answer Null

pub meta_rows : (old new : State) (rows : List Row) → old.now.schema ≡ schema → Shown (text Meta) [] old new rows → IsPermutation (map seen_meta (old.now.trees 0)) rows
meta_rows old new rows has h = shows_each 0 (col 1 0 ∷ col 1 2 ∷ col 1 3 ∷ []) [] (overlay old.now.trees []) rows (answer_of Meta old new rows has h)

pub volume_rows : (old new : State) (rows : List Row) → old.now.schema ≡ schema → Shown (text Volumes) [] old new rows → IsInOrder (map seen_volume (old.now.trees 1)) rows
volume_rows old new rows has h = shows_in_order 1 (col 1 0) (col 1 2 ∷ col 1 3 ∷ col 1 4 ∷ col 1 5 ∷ col 1 6 ∷ []) (overlay old.now.trees []) rows (answer_of Volumes old new rows has h)

pub attachment_rows : (old new : State) (rows : List Row) → old.now.schema ≡ schema → Shown (text Attachments) [] old new rows → IsInOrder (map keyed_attachment (old.now.trees 3)) rows
attachment_rows old new rows has h = shows_in_order 3 (col 1 0) (col 1 1 ∷ col 1 2 ∷ col 1 3 ∷ col 1 4 ∷ []) (overlay old.now.trees []) rows (answer_of Attachments old new rows has h)

pub place_rows : (old new : State) (rows : List Row) → old.now.schema ≡ schema → Shown (text Places) [] old new rows → IsInOrder (map seen_attachment (old.now.trees 3)) rows
place_rows old new rows has h = shows_in_order 3 (col 1 1) (col 1 2 ∷ col 1 3 ∷ col 1 4 ∷ []) (overlay old.now.trees []) rows (answer_of Places old new rows has h)
