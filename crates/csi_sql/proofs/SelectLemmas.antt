-- The rows that a SELECT over one table shows.
use Rattle.std.proofs.Common.{◌≡◌, ◌∙◌, refl, sym, ap, subst, ℕ, List, [], ◌∷◌, ◌++◌, map, filter, flat_map, true, false, cond, IsPermutation}
use Rattle.std.specs.List.{list_all}
use Rattle.std.proofs.lemmas.List.Sorted.{IsPermutation-map}
use Rattle.sqlite.specs.Order.{Row}
use Rattle.sqlite.specs.Query.{Query, inner, end, IsAnswer, Output, output}
use Rattle.sqlite.specs.Term.{Term, eval_all, holds}
use Rattle.sqlite.specs.Tree.{Trees}
use Rattle.sqlite_keyed.proofs.ListLemmas.{map-map}
use Rattle.sqlite_value.specs.declared.keys.Key.{Key}
use Rattle.csi_sql.specs.Shown.{IsShownOf}
use Rattle.csi_sql.specs.Statements.{plain_query}

-- a query over one table, with a limit
abbrev pub limited : ℕ → List Term → List Term → List (Term × Key) → Term → Query
limited t test shown order limit = record plain_query { from = inner t end; filter = test; project = shown; order = order; limit = limit }

-- a query over one table, without a limit
abbrev pub one_table : ℕ → List Term → List Term → List (Term × Key) → Query
one_table t test shown order = limited t test shown order plain_query.limit

scanned : (q : Query) (test : List Term) (params : Row) (rows : List Row)
    → map (output q) (flat_map (λ r. cond (list_all (holds (params ∷ r ∷ [])) test) ((params ∷ r ∷ []) ∷ []) []) rows)
    ≡ map (λ r. output q (params ∷ r ∷ [])) (filter (λ r. list_all (holds (params ∷ r ∷ [])) test) rows)
scanned q test params [] = refl
scanned q test params (r ∷ rows) =
    elim (list_all (holds (params ∷ r ∷ [])) test) as (λ b. map (output q) (cond b ((params ∷ r ∷ []) ∷ []) [] ++ flat_map (λ r. cond (list_all (holds (params ∷ r ∷ [])) test) ((params ∷ r ∷ []) ∷ []) []) rows)
    ≡ map (λ r. output q (params ∷ r ∷ [])) (cond b (r ∷ filter (λ r. list_all (holds (params ∷ r ∷ [])) test) rows) (filter (λ r. list_all (holds (params ∷ r ∷ [])) test) rows))) [
      | true ↦ ap (λ l. output q (params ∷ r ∷ []) ∷ l) (scanned q test params rows)
      | false ↦ scanned q test params rows
    ]

module _ (t : ℕ) (test shown : List Term) (order : List (Term × Key)) (limit : Term) (db : Trees) (params : Row) (rows : List Row) (a : IsAnswer (limited t test shown order limit) db params rows) where
  -- the rows before the limit
  pub shows_all : IsShownOf (limited t test shown order limit) (db t) params (map (λ (o : Output). o.1) a.ordered)
  shows_all = record {
    ordered = a.ordered;
    same = subst (λ k. IsPermutation k a.ordered) (a.distinct ∙ ap (map (output (limited t test shown order limit))) a.grouped ∙ scanned (limited t test shown order limit) test params (db t)) a.same;
    sorted = a.sorted;
    shown_is = refl;
  }

pub shows_one : (t : ℕ) (test shown : List Term) (order : List (Term × Key)) (db : Trees) (params : Row) (rows : List Row)
    → IsAnswer (one_table t test shown order) db params rows → IsShownOf (one_table t test shown order) (db t) params rows
shows_one t test shown order db params rows a = subst (IsShownOf (one_table t test shown order) (db t) params) (Rattle.std.proofs.Common.sym a.shown) (shows_all t test shown order plain_query.limit db params rows a)

-- the columns shown of the rows that pass, in any order
pub shown_each : (t : ℕ) (test shown : List Term) (rows : List Row) (params : Row) (answer : List Row)
    → IsShownOf (one_table t test shown []) rows params answer → IsPermutation (map (λ r. eval_all shown (params ∷ r ∷ [])) (filter (λ r. list_all (holds (params ∷ r ∷ [])) test) rows)) answer
shown_each t test shown rows params answer h =
    subst (λ xs. IsPermutation xs answer) (map-map (λ (o : Output). o.1) (λ r. output (one_table t test shown []) (params ∷ r ∷ [])) (filter (λ r. list_all (holds (params ∷ r ∷ [])) test) rows))
    (subst (IsPermutation _) (sym h.shown_is) (IsPermutation-map (λ (o : Output). o.1) _ _ h.same))
