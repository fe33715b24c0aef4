-- The rows after the UPDATE of a volume's params.
use Rattle.std.proofs.Common.{◌≡◌, ◌∙◌, refl, sym, ap, subst, subst₂, ℕ, ℤ, pos, List, [], ◌∷◌, drop, map, filter, Bool, true, false, not, ◌&&◌, true≢false, arith, Some, Ok, IsPermutation, is_eq, inl}
use Rattle.std.specs.List.{AllByRecursion}
use Rattle.std.proofs.lemmas.Cmp.{tied_itself}
use Rattle.std.proofs.lemmas.List.Sorted.{IsPermutation-map, IsPermutation-sym, length_permutation}
use Rattle.sqlite.specs.Cast.{cast_row}
use Rattle.sqlite.specs.Edit.{are_fresh, is_taken, numbered, put_all, without_all}
use Rattle.sqlite.specs.Ops.{binary, from_truth, is_true}
use Rattle.sqlite.specs.Order.{Row, column, value_cmp}
use Rattle.sqlite.specs.Program.{overlay}
use Rattle.sqlite.specs.Rowids.TheVariants.{Given}
use Rattle.sqlite.specs.State.{State, Executes}
use Rattle.sqlite.specs.Tree.{rowid, put_row}
use Rattle.sqlite.specs.declared.types.Value.{Value}
use Rattle.sqlite.specs.declared.types.Value.TheVariants.{Null, Int, Real, Text, Blob}
use Rattle.sqlite_keyed.proofs.ListLemmas.{map-map}
use Rattle.sqlite_rules.specs.Calls.{ids_of}
use Rattle.sqlite_rules.specs.Edit.{id_in}
use Rattle.sqlite_rules.specs.Lists.{Has}
use Rattle.sqlite_rules.proofs.ListLemmas.{all_from, has_filtered, has_kept, some_from}
use Rattle.sqlite_rules.proofs.ProbeLemmas.{has_mapped, mapped_has}
use Rattle.sqlite_trees.proofs.ListLemmas.{all-permutation}
use Rattle.sqlite_value.proofs.OrderLemmas.{value_cmp_total}
use Rattle.csi_sql.specs.facts.Steps.{cast_null, cast_int}
use Rattle.csi_sql.specs.facts.Writes.{updated}
use Rattle.csi_sql.specs.Deletes.{is_numbered, is_same}
use Rattle.csi_sql.specs.Rows.{number_value, seen_volume, volume_row}
use Rattle.csi_sql.specs.Effects.{AreKeyed}
use Rattle.csi_sql.specs.Tables.{schema}
use Rattle.csi_sql.specs.Updates.{SetsParams}
use Rattle.csi_sql.proofs.DeleteLemmas.{and_true, filter_by, passes, same_number}
use Rattle.csi_sql.proofs.FilterLemmas.{left_rows}
use Rattle.csi_sql.proofs.InsertLemmas.{has_permuted, kept, put_new, untaken}
use Rattle.csi_sql.proofs.SelectLemmas.{shown_each, shows_one}
use Rattle.csi_sql.specs.Texts.{text, SetParams}
use Rattle.csi_sql.proofs.TextLemmas.{params_query, is_command}

-- ---- SQL's = of a number

truth_test : (b : Bool) → is_true (from_truth (Some b)) ≡ b
truth_test true = refl
truth_test false = refl

null_is_none : (n : ℤ) → is_same Null (Int n) ≡ true → ⊥
unfolding binary
null_is_none n h = true≢false (sym h)

tied_if_same : (v : Value) (n : ℤ) → is_same v (Int n) ≡ true → is_eq (value_cmp v (Int n)) ≡ true
unfolding binary
tied_if_same Null n h = absurd (null_is_none n h)
tied_if_same (Int m) n h = sym (truth_test (is_eq (value_cmp (Int m) (Int n)))) ∙ h
tied_if_same (Real x) n h = sym (truth_test (is_eq (value_cmp (Real x) (Int n)))) ∙ h
tied_if_same (Text t) n h = sym (truth_test (is_eq (value_cmp (Text t) (Int n)))) ∙ h
tied_if_same (Blob b) n h = sym (truth_test (is_eq (value_cmp (Blob b) (Int n)))) ∙ h

same_itself : (n : ℤ) → is_same (Int n) (Int n) ≡ true
unfolding binary
same_itself n = truth_test (is_eq (value_cmp (Int n) (Int n))) ∙ ap is_eq (tied_itself value_cmp_total (Int n))

-- ---- new rows that are all the same, put into a table without their rowid

taken_twice : (row : Row) (rows : List Row) → is_taken rows row ≡ false → is_taken (put_row row rows) row ≡ true
taken_twice row rows free =
    some_from (λ r. is_eq (value_cmp (rowid r) (rowid row))) (put_row row rows) row (has_permuted (put_row row rows) (row ∷ rows) row (IsPermutation-sym _ _ (put_new row rows free)) (inl refl))
    (ap is_eq (tied_itself value_cmp_total (rowid row)))

one_fresh : (row : Row) (rows news : List Row) → AllByRecursion (λ x. x ≡ row) news → are_fresh rows news ≡ true → (x : Row) → Has news x → (news ≡ row ∷ []) × (is_taken rows row ≡ false)
one_fresh row rows [] all fresh x has = absurd has
one_fresh row rows (y ∷ []) all fresh x has = (ap (λ z. z ∷ []) all.0, ap (is_taken rows) (sym all.0) ∙ untaken (is_taken rows y) fresh)
one_fresh row rows (y ∷ z ∷ more) all fresh x has = absurd (go (is_taken rows row) refl (subst₂ (λ a b. (not (is_taken rows a) && (not (is_taken (put_row a rows) b) && are_fresh (put_row b (put_row a rows)) more)) ≡ true) all.0 all.1.0 fresh))
  where
    go : (b : Bool) → is_taken rows row ≡ b → (not b && (not (is_taken (put_row row rows) row) && are_fresh (put_row row (put_row row rows)) more)) ≡ true → ⊥
    go true is h = true≢false (sym h)
    go false is h = true≢false (sym (rw (taken_twice row rows is) at h))

numbered_given : (rows news : List Row) → numbered Given rows news ≡ news
numbered_given rows [] = refl
numbered_given rows (r ∷ rs) = ap (λ l. r ∷ l) (numbered_given (put_row r rows) rs)

-- ---- the rows that the UPDATE asks for: the new row after its rowid

abbrev renewed : List ℕ → Row → Row
renewed params r = column r 0 ∷ column r 0 ∷ Null ∷ column r 2 ∷ column r 3 ∷ column r 4 ∷ column r 5 ∷ Blob params ∷ []

abbrev stored : Row → Row
stored s = cast_row kept (drop 1 s)

-- a row of the table that shows a volume is stored as the volume with the params
stored_row : (number : ℕ) (name : List ℕ) (bytes : ℕ) (pool caps was params : List ℕ) (r : Row) → seen_volume r ≡ seen_volume (volume_row number name bytes pool caps was)
    → stored (renewed params r) ≡ volume_row number name bytes pool caps params
stored_row number name bytes pool caps was params r seen =
    let key : column r 0 ≡ number_value number = ap (λ (x : Row). column x 0) seen in
    let named : column r 2 ≡ Text name = ap (λ (x : Row). column x 1) seen in
    let sized : column r 3 ≡ number_value bytes = ap (λ (x : Row). column x 2) seen in
    let pooled : column r 4 ≡ Text pool = ap (λ (x : Row). column x 3) seen in
    let able : column r 5 ≡ Blob caps = ap (λ (x : Row). column x 4) seen in
    rw (key, named, sized, pooled, able, cast_null, cast_int (pos number), cast_int (pos bytes)) refl

module _ (number : ℕ) (params : List ℕ) (rows shown : List Row) (is : IsPermutation (map (renewed params) (filter (is_numbered number) rows)) shown) where
  abbrev left : List Row
  left = without_all rows (ids_of shown)

  left_is : AreKeyed seen_volume rows → left ≡ filter (λ r. not (is_numbered number r)) rows
  left_is are =
      let ids = map (λ (s : Row). column s 0 ∷ []) shown in
      let had = subst (λ xs. IsPermutation xs ids) (map-map (λ (s : Row). column s 0 ∷ []) (renewed params) (filter (is_numbered number) rows)) (IsPermutation-map (λ (s : Row). column s 0 ∷ []) _ _ is) in
      ap (without_all rows) (sym (map-map (λ (r : Row). id_in (rowid r)) (λ (s : Row). column s 0 ∷ []) shown)) ∙ left_rows seen_volume (is_numbered number) (same_number number) rows ids are had

  -- no row has the number
  pub none_set : filter (is_numbered number) rows ≡ [] → put_all left (map stored shown) ≡ rows
  none_set none = go shown (subst (λ xs. IsPermutation (map (renewed params) xs) shown) none is)
    where
      go : (shown : List Row) → IsPermutation [] shown → put_all (without_all rows (ids_of shown)) (map stored shown) ≡ rows
      go [] same = refl
      go (s ∷ more) same = absurd (let e = length_permutation [] (s ∷ more) same in cc)

  module _ (are : AreKeyed seen_volume rows) (name : List ℕ) (bytes : ℕ) (pool caps was : List ℕ) (has : Has (map seen_volume rows) (seen_volume (volume_row number name bytes pool caps was))) where
    abbrev whole : Row
    whole = volume_row number name bytes pool caps params

    -- each row that passes shows the volume
    shows : (r : Row) → Has (filter (is_numbered number) rows) r → seen_volume r ≡ seen_volume (volume_row number name bytes pool caps was)
    shows r passing =
        let it = has_mapped seen_volume rows _ has in
        let there = has_filtered (is_numbered number) rows r passing in
        let key : number_value number ≡ column it.0 0 = ap (λ (x : Row). column x 0) it.2 in
        are.one r it.0 there.0 it.1 (ap (λ v. is_eq (value_cmp (rowid r) v)) (sym key) ∙ tied_if_same (column r 0) (pos number) there.1) ∙ sym it.2

    some_passes : (r : Row) × Has (filter (is_numbered number) rows) r
    some_passes =
        let it = has_mapped seen_volume rows _ has in
        let key : number_value number ≡ column it.0 0 = ap (λ (x : Row). column x 0) it.2 in
        (it.0, has_kept (is_numbered number) rows it.0 it.1 (ap (λ v. is_same v (Int (pos number))) (sym key) ∙ same_itself (pos number)))

    all_whole : AllByRecursion (λ x. x ≡ whole) (map stored shown)
    all_whole =
        all-permutation (λ x. x ≡ whole) _ _ (IsPermutation-map stored _ _ is)
        (all_from (λ x. x ≡ whole) _ (λ x had.
        let outer = has_mapped stored (map (renewed params) (filter (is_numbered number) rows)) x had in
        let inner = has_mapped (renewed params) (filter (is_numbered number) rows) outer.0 outer.1 in
        outer.2 ∙ ap stored inner.2 ∙ stored_row number name bytes pool caps was params inner.0 (shows inner.0 inner.1)))

    pub one_set : are_fresh left (map stored shown) ≡ true → IsPermutation (whole ∷ filter (λ r. not (is_numbered number r)) rows) (put_all left (map stored shown))
    one_set fresh =
        let some = some_passes in
        let there : Has (map stored shown) (stored (renewed params some.0)) =
        mapped_has stored shown (renewed params some.0) (has_permuted shown _ (renewed params some.0) (IsPermutation-sym _ _ is) (mapped_has (renewed params) (filter (is_numbered number) rows) some.0 some.1)) in
        let one = one_fresh whole left (map stored shown) all_whole fresh (stored (renewed params some.0)) there in
        subst (λ xs. IsPermutation (whole ∷ xs) (put_all left (map stored shown))) (left_is are) (subst (λ news. IsPermutation (whole ∷ left) (put_all left news)) (sym one.0) (put_new whole left one.1))

-- ---- the statement

number_passes : (number : ℕ) (params : List ℕ) (r : Row) → passes params_query.filter (number_value number ∷ Blob params ∷ []) r ≡ is_numbered number r
number_passes number params r = and_true (is_same (column r 0) (Int (pos number)))

pub sets : (number : ℕ) (params : List ℕ) (old new : State) (count : ℕ) → old.now.schema ≡ schema → Executes (text SetParams) (number_value number ∷ Blob params ∷ []) old new (Ok count) → SetsParams number params old.now new.now
sets number params old new count has h =
    let given : Row = number_value number ∷ Blob params ∷ [] in
    let rows = old.now.trees 1 in
    let it = updated (text SetParams) given old new count has 1 kept refl params_query (is_command SetParams) h in
    let shown = shows_one 1 params_query.filter params_query.project [] (overlay old.now.trees []) given it.0 it.1 in
    let each : IsPermutation (map (renewed params) (filter (is_numbered number) rows)) it.0 =
    subst (λ xs. IsPermutation (map (renewed params) xs) it.0) (filter_by (passes params_query.filter given) (is_numbered number) (number_passes number params) rows) (shown_each 1 params_query.filter params_query.project rows given it.0 shown) in
    let news = numbered_given (without_all rows (ids_of it.0)) (map stored it.0) in
    let now : new.now.trees 1 ≡ put_all (without_all rows (ids_of it.0)) (map stored it.0) = it.2.made.rows ∙ ap (put_all (without_all rows (ids_of it.0))) news in
    let fresh : are_fresh (without_all rows (ids_of it.0)) (map stored it.0) ≡ true = ap (are_fresh (without_all rows (ids_of it.0))) (sym news) ∙ it.2.made.fresh in
    record {
      schema = it.2.schema_is;
      sound = it.2.sound;
      rows = λ are name bytes pool caps was seen.
          subst (IsPermutation (volume_row number name bytes pool caps params ∷ filter (λ r. not (is_numbered number r)) rows)) (sym now) (one_set number params rows it.0 each are name bytes pool caps was seen fresh);
      none = λ none. now ∙ none_set number params rows it.0 each none;
      meta = it.2.made.tables.0 (λ e. absurd (omega arith));
      attachments = it.2.made.tables.1.1.0 (λ e. absurd (omega arith));
    }
