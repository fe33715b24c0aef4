-- The rows left after the rows that a query shows are removed.
use Rattle.std.proofs.Common.{◌≡◌, inl, inr, ◌∙◌, refl, sym, ap, ℤ, Bool, true, false, not, ◌||◌, cond, true≢false, List, [], ◌∷◌, map, filter, IsPermutation, is_eq}
use Rattle.std.specs.List.{list_any}
use Rattle.std.proofs.lemmas.Cmp.{tied_itself}
use Rattle.std.proofs.lemmas.Bool.{cases_Bool}
use Rattle.std.proofs.lemmas.List.Sorted.{IsPermutation-sym}
use Rattle.sqlite.specs.declared.types.Value.{Value}
use Rattle.sqlite.specs.declared.types.Value.TheVariants.{Null, Int, Real, Text, Blob}
use Rattle.sqlite.specs.Order.{Row, column, value_cmp}
use Rattle.sqlite.specs.Tree.{rowid, has_rowid, without_rowid}
use Rattle.sqlite.specs.Edit.{without_all, id_in}
use Rattle.sqlite.specs.View.{is_int}
use Rattle.sqlite_rules.specs.Calls.{ids_of}
use Rattle.sqlite_rules.specs.Lists.{Has}
use Rattle.sqlite_rules.proofs.ListLemmas.{all_from, some_has, some_from, has_kept, has_filtered}
use Rattle.sqlite_rules.proofs.ProbeLemmas.{has_mapped, mapped_has}
use Rattle.sqlite_trees.proofs.ListLemmas.{filter_same}
use Rattle.sqlite_value.proofs.OrderLemmas.{value_cmp_total}
use Rattle.csi_sql.specs.Effects.{AreKeyed}
use Rattle.csi_sql.proofs.InsertLemmas.{has_permuted}

filter_twice : {X : Type 0} (p q : X → Bool) (xs : List X) → filter (λ x. not (p x)) (filter (λ x. not (q x)) xs) ≡ filter (λ x. not (q x || p x)) xs
filter_twice p q [] = refl
filter_twice p q (x ∷ xs) = elim (q x) as (λ b. filter (λ x. not (p x)) (cond (not b) (x ∷ filter (λ x. not (q x)) xs) (filter (λ x. not (q x)) xs)) ≡ cond (not (b || p x)) (x ∷ filter (λ x. not (q x || p x)) xs) (filter (λ x. not (q x || p x)) xs)) [
  | true ↦ filter_twice p q xs
  | false ↦ elim (p x) as (λ b. cond (not b) (x ∷ filter (λ x. not (p x)) (filter (λ x. not (q x)) xs)) (filter (λ x. not (p x)) (filter (λ x. not (q x)) xs)) ≡ cond (not b) (x ∷ filter (λ x. not (q x || p x)) xs) (filter (λ x. not (q x || p x)) xs)) [
    | true ↦ filter_twice p q xs
    | false ↦ ap (λ l. x ∷ l) (filter_twice p q xs)
  ]
]

keep_all : {X : Type 0} (xs : List X) → filter (λ x. true) xs ≡ xs
keep_all [] = refl
keep_all (x ∷ xs) = ap (λ l. x ∷ l) (keep_all xs)

without_filter : (rows : List Row) (ids : List ℤ) → without_all rows ids ≡ filter (λ r. not (list_any (λ id. has_rowid id r) ids)) rows
without_filter rows [] = sym (keep_all rows)
without_filter rows (id ∷ ids) = without_filter (without_rowid id rows) ids ∙ filter_twice (λ r. list_any (λ id. has_rowid id r) ids) (has_rowid id) rows

int_back : (v : Value) → is_int v ≡ true → v ≡ Int (id_in v)
int_back Null h = absurd (true≢false (sym h))
int_back (Int n) h = refl
int_back (Real x) h = absurd (true≢false (sym h))
int_back (Text t) h = absurd (true≢false (sym h))
int_back (Blob b) h = absurd (true≢false (sym h))

module _ (see : Row → Row) (pass : Row → Bool) (same_pass : (a b : Row) → see a ≡ see b → pass a ≡ pass b) (rows shown : List Row) (are : AreKeyed see rows)
    (is : IsPermutation (map (λ r. column r 0 ∷ []) (filter pass rows)) shown) where
  own : (r : Row) → Has rows r → has_rowid (id_in (rowid r)) r ≡ true
  own r has = let e = int_back (rowid r) (are.keyed r has) in ap (λ v. is_eq (value_cmp (rowid r) v)) (sym e) ∙ ap is_eq (tied_itself value_cmp_total (rowid r))

  shown_id : (r : Row) → Has rows r → pass r ≡ true → Has (ids_of shown) (id_in (rowid r))
  shown_id r has passes =
      mapped_has (λ s. id_in (rowid s)) shown (column r 0 ∷ [])
      (has_permuted shown _ (column r 0 ∷ []) (IsPermutation-sym _ _ is) (mapped_has (λ r. column r 0 ∷ []) (filter pass rows) r (has_kept pass rows r has passes)))

  no_other : (r : Row) → Has rows r → (id : ℤ) → Has (ids_of shown) id → has_rowid id r ≡ true → pass r ≡ true
  no_other r has id had tied =
      let s = has_mapped (λ s. id_in (rowid s)) shown id had in
      let o = has_mapped (λ r. column r 0 ∷ []) (filter pass rows) s.0 (has_permuted _ shown s.0 is s.1) in
      let there = has_filtered pass rows o.0 o.1 in
      let e = int_back (rowid o.0) (are.keyed o.0 there.0) in
      let same : id ≡ id_in (rowid o.0) = s.2 ∙ ap (λ r. id_in (rowid r)) o.2 in
      let equal : is_eq (value_cmp (rowid r) (rowid o.0)) ≡ true = ap (λ v. is_eq (value_cmp (rowid r) v)) (e ∙ ap Int (sym same)) ∙ tied in
      same_pass r o.0 (are.one r o.0 has there.0 equal) ∙ there.1

  gone : (r : Row) → Has rows r → list_any (λ id. has_rowid id r) (ids_of shown) ≡ pass r
  gone r has = elim (cases_Bool (list_any (λ id. has_rowid id r) (ids_of shown))) [
    | inl any ↦ let it = some_has (λ id. has_rowid id r) (ids_of shown) any in any ∙ sym (no_other r has it.0 it.1 it.2)
    | inr none ↦ elim (cases_Bool (pass r)) [
      | inl passes ↦ absurd (true≢false (sym (some_from (λ id. has_rowid id r) (ids_of shown) _ (shown_id r has passes) (own r has)) ∙ none))
      | inr fails ↦ none ∙ sym fails
    ]
  ]

  -- the rows left are the rows that do not pass
  pub left_rows : without_all rows (ids_of shown) ≡ filter (λ r. not (pass r)) rows
  left_rows = without_filter rows (ids_of shown) ∙ filter_same (λ r. not (list_any (λ id. has_rowid id r) (ids_of shown))) (λ r. not (pass r)) rows (all_from _ rows (λ r has. ap not (gone r has)))
