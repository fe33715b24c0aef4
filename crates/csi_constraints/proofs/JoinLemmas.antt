-- The rows that a scan over two tables shows.
use Rattle.std.proofs.Common.{◌≡◌, ◌∙◌, refl, sym, ap, ap₂, subst, List, [], ◌∷◌, ◌++◌, map, filter, flat_map, Bool, true, false, ◌&&◌, IsPermutation}
use Rattle.std.specs.List.{AllByRecursion, list_all}
use Rattle.std.proofs.lemmas.List.Sorted.{IsPermutation-map}
use Rattle.sqlite.specs.Order.{Row}
use Rattle.sqlite.specs.Program.{overlay}
use Rattle.sqlite.specs.Query.{Query, Output, output, IsAnswer, or_nulls}
use Rattle.sqlite.specs.State.{State, Shown}
use Rattle.sqlite.specs.Term.{col, holds}
use Rattle.sqlite.specs.Tree.{Trees}
use Rattle.csi_sql.specs.Tables.{schema}
use Rattle.csi_constraints.specs.Scans.{IsInOrder, owns, with_owner, owners}
use Rattle.csi_constraints.specs.Texts.{Owners, text}
use Rattle.csi_constraints.proofs.TableLemmas.{IsKeyed, answer_of, owner_on, query, sorted_by_first}

abbrev owners_query : Query
owners_query = query Owners

map-append : {A B : Type 0} (f : A → B) (xs ys : List A) → map f (xs ++ ys) ≡ map f xs ++ map f ys
map-append f [] ys = refl
map-append f (x ∷ xs) ys = ap (λ l. f x ∷ l) (map-append f xs ys)

and_true : (b : Bool) → (b && true) ≡ b
and_true true = refl
and_true false = refl

filter_by : {X : Type 0} (p q : X → Bool) → ((x : X) → p x ≡ q x) → (xs : List X) → filter p xs ≡ filter q xs
filter_by p q same [] = refl
filter_by p q same (x ∷ xs) = rw (same x, filter_by p q same xs) refl

-- ---- each attachment with its volume

abbrev owned_by : Row → List Row → List Row
owned_by r vs = or_nulls (filter (λ v. list_all (holds ([] ∷ r ∷ v ∷ [])) owner_on) vs)

one_owner : (r : Row) (vs : List Row) → map (λ (o : Output). o.1) (map (output owners_query) (flat_map (λ v. ([] ∷ r ∷ v ∷ []) ∷ []) vs)) ≡ map (with_owner r) vs
one_owner r [] = refl
one_owner r (v ∷ vs) = ap (λ l. with_owner r v ∷ l) (one_owner r vs)

all_owners : (rs vs : List Row) → map (λ (o : Output). o.1) (map (output owners_query) (flat_map (λ r. flat_map (λ v. ([] ∷ r ∷ v ∷ []) ∷ []) (owned_by r vs)) rs)) ≡ owners rs vs
all_owners [] vs = refl
all_owners (r ∷ rs) vs =
    ap (map (λ (o : Output). o.1)) (map-append (output owners_query) (flat_map (λ v. ([] ∷ r ∷ v ∷ []) ∷ []) (owned_by r vs)) _)
    ∙ map-append (λ (o : Output). o.1) _ _
    ∙ ap₂ (λ a b. a ++ b) (one_owner r (owned_by r vs) ∙ ap (λ xs. map (with_owner r) (or_nulls xs)) (filter_by _ _ (λ v. and_true (owns r v)) vs)) (all_owners rs vs)

keyed_owners : (found : List (List Row)) → AllByRecursion IsKeyed (map (output owners_query) found)
keyed_owners [] = tt
keyed_owners (x ∷ found) = (refl, keyed_owners found)

shows_owners : (db : Trees) (rows : List Row) → IsAnswer owners_query db [] rows → IsInOrder (owners (db 3) (db 1)) rows
shows_owners db rows a = record {
  same = subst (λ xs. IsPermutation xs rows) (ap (map (λ (o : Output). o.1)) (a.distinct ∙ ap (map (output owners_query)) a.grouped) ∙ all_owners (db 3) (db 1))
      (subst (IsPermutation (map (λ (o : Output). o.1) a.kept)) (sym a.shown) (IsPermutation-map (λ (o : Output). o.1) _ _ a.same));
  sorted = sorted_by_first owners_query (col 1 1) refl a.kept a.ordered (subst (AllByRecursion IsKeyed) (sym (a.distinct ∙ ap (map (output owners_query)) a.grouped)) (keyed_owners _)) a.same a.sorted rows a.shown;
}

pub owner_rows : (old new : State) (rows : List Row) → old.now.schema ≡ schema → Shown (text Owners) [] old new rows → IsInOrder (owners (old.now.trees 3) (old.now.trees 1)) rows
owner_rows old new rows has h = shows_owners (overlay old.now.trees []) rows (answer_of Owners old new rows has h)
