-- A sorted answer over the rows of a sorted list is that list, filtered.
use Rattle.std.proofs.Common.{◌≡◌, ◌∙◌, refl, sym, ap, subst, List, [], ◌∷◌, map, filter, Bool, IsPermutation, IsSorted, Less}
use Rattle.std.specs.List.{list_all}
use Rattle.std.proofs.lemmas.Cmp.{on_total}
use Rattle.std.specs.Cmp.{IsTotalOrder}
use Rattle.std.proofs.lemmas.List.Sorted.{IsPermutation-trans, IsPermutation-map}
use Rattle.sqlite.specs.Order.{Row}
use Rattle.sqlite.specs.Tree.{IsAscending}
use Rattle.sqlite.specs.Term.{holds}
use Rattle.sqlite.specs.Query.{Query, Output, output, output_cmp}
use Rattle.sqlite_sql.proofs.QueryLemmas.{key_cmp_total}
use Rattle.sqlite_keyed.proofs.ListLemmas.{IsPermutation-filter, filter-map, filter_same, map-map}
use Rattle.sqlite_keyed.proofs.SortLemmas.{sorted_unique}
use Rattle.sqlite_trees.proofs.ListLemmas.{ascending-map}
use Rattle.csi_sql.specs.Shown.{IsShownOf}

pub output_total : (q : Query) → IsTotalOrder (output_cmp q)
output_total q = on_total (λ (o : Output). o.0) (key_cmp_total (map (λ k. k.1) q.order) 0)

-- row: an entry as it is written; see: the view of a row; show: the query's columns of a view; test: the
-- rows that it takes
module _ {E : Type 0} (q : Query) (params : Row) (row : E → Row) (see : Row → Row) (show : Row → Output) (test : Row → Bool)
    (shows : (r : Row) → output q (params ∷ r ∷ []) ≡ show (see r)) (tests : (r : Row) → list_all (holds (params ∷ r ∷ [])) q.filter ≡ test (see r)) where
  outputs : (rows : List Row) → map (λ r. output q (params ∷ r ∷ [])) (filter (λ r. list_all (holds (params ∷ r ∷ [])) q.filter) rows) ≡ map show (filter test (map see rows))
  outputs rows =
      ap (map (λ r. output q (params ∷ r ∷ []))) (filter_same _ _ tests rows)
      ∙ same_map (filter (λ r. test (see r)) rows) ∙ sym (map-map show see (filter (λ r. test (see r)) rows)) ∙ ap (map show) (sym (filter-map test see rows))
    where
      same_map : (xs : List Row) → map (λ r. output q (params ∷ r ∷ [])) xs ≡ map (λ r. show (see r)) xs
      same_map [] = refl
      same_map (x ∷ xs) = ap (λ o. o ∷ map (λ r. output q (params ∷ r ∷ [])) xs) (shows x) ∙ ap (λ os. show (see x) ∷ os) (same_map xs)

  mine : (es : List E) → map show (filter test (map row es)) ≡ map (λ e. show (row e)) (filter (λ e. test (row e)) es)
  mine es = ap (map show) (filter-map test row es) ∙ map-map show row (filter (λ e. test (row e)) es)

  in_order : (es : List E) (rows : List Row) (ordered : List Output) → IsPermutation (map row es) (map see rows)
      → IsAscending (λ a b. output_cmp q a b ≡ Less) (map (λ e. show (row e)) (filter (λ e. test (row e)) es))
      → IsPermutation (map (λ r. output q (params ∷ r ∷ [])) (filter (λ r. list_all (holds (params ∷ r ∷ [])) q.filter) rows)) ordered → IsSorted (output_cmp q) ordered
      → map (λ (o : Output). o.1) ordered ≡ map (λ e. (show (row e)).1) (filter (λ e. test (row e)) es)
  in_order es rows ordered same up perm sorted =
      let both : IsPermutation (map show (filter test (map row es))) (map show (filter test (map see rows))) = IsPermutation-map show _ _ (IsPermutation-filter test _ _ same) in
      let all : IsPermutation (map (λ e. show (row e)) (filter (λ e. test (row e)) es)) ordered =
      subst (λ xs. IsPermutation xs ordered) (mine es) (IsPermutation-trans _ _ _ both (subst (λ xs. IsPermutation xs ordered) (outputs rows) perm)) in
      ap (map (λ (o : Output). o.1)) (sorted_unique (output_cmp q) (output_total q) _ ordered up all sorted) ∙ map-map (λ (o : Output). o.1) (λ e. show (row e)) (filter (λ e. test (row e)) es)

  shown_in_order : (es : List E) (rows shown : List Row) → IsPermutation (map row es) (map see rows)
      → IsAscending (λ a b. output_cmp q a b ≡ Less) (map (λ e. show (row e)) (filter (λ e. test (row e)) es)) → IsShownOf q rows params shown
      → shown ≡ map (λ e. (show (row e)).1) (filter (λ e. test (row e)) es)
  shown_in_order es rows shown same up h = h.shown_is ∙ in_order es rows h.ordered same up h.same h.sorted

  -- as above, with a test of the entries themselves
  pub shown_by : (stays : E → Bool) → ((e : E) → test (row e) ≡ stays e) → (es : List E) (rows shown : List Row) → IsPermutation (map row es) (map see rows)
      → IsAscending (λ a b. output_cmp q (show (row a)) (show (row b)) ≡ Less) (filter stays es) → IsShownOf q rows params shown
      → shown ≡ map (λ e. (show (row e)).1) (filter stays es)
  shown_by stays is es rows shown same up h =
      let kept : filter (λ e. test (row e)) es ≡ filter stays es = filter_same _ _ is es in
      shown_in_order es rows shown same
      (subst (λ xs. IsAscending (λ a b. output_cmp q a b ≡ Less) (map (λ e. show (row e)) xs)) (sym kept) (ascending-map (λ a b. output_cmp q a b ≡ Less) (λ e. show (row e)) _ up)) h
      ∙ ap (map (λ e. (show (row e)).1)) kept
