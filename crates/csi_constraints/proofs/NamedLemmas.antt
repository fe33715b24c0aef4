-- The first row that breaks a constraint, over one row more.
use Rattle.std.proofs.Common.{◌≡◌, ◌∙◌, refl, sym, ap, ℕ, List, [], ◌∷◌, ◌++◌, find, Bool, true, false, cond, not, Option, Some, None}
use Rattle.std.specs.Option.{is_some, option_map, option_or}
use Rattle.std.proofs.lemmas.List.Folds.{find-append}
use Rattle.sqlite.specs.Order.{Row}
use Rattle.csi_constraints.specs.Named.{name_if, name_of, named_out}
use Rattle.csi_constraints.specs.declared.named.RowName.{RowName}

or_more : {A B : Type 0} (f : A → B) (found : Option B) (one more : Option A) → option_or found (option_map f (option_or one more)) ≡ option_or (option_or found (option_map f one)) (option_map f more)
or_more f None None more = refl
or_more f None (Some a) more = refl
or_more f (Some b) one more = refl

module _ (number text : ℕ) (test : Row → Bool) (first : Option RowName) (rows : List Row) (row : Row) where
  one_more : named_out number text test first (rows ++ row ∷ []) ≡ option_or (named_out number text test first rows) (name_if number text test row)
  one_more =
      ap (λ o. option_or first (option_map (name_of number text) o)) (find-append (λ r. not (test r)) rows (row ∷ []))
      ∙ or_more (name_of number text) first (find (λ r. not (test r)) rows) (cond (not (test row)) (Some row) None)
      ∙ ap (option_or (named_out number text test first rows)) (go (test row))
    where
      go : (b : Bool) → option_map (name_of number text) (cond (not b) (Some row) None) ≡ cond b None (Some (name_of number text row))
      go true = refl
      go false = refl

  -- a found row stays
  pub found_stays : (found : Option RowName) → is_some found ≡ true → found ≡ named_out number text test first rows → found ≡ named_out number text test first (rows ++ row ∷ [])
  found_stays None some is = absurd (cc)
  found_stays (Some name) some is = ap (λ o. option_or o (name_if number text test row)) is ∙ sym one_more

  -- if no row was found, the row is named if it does not pass
  pub found_now : (found : Option RowName) → is_some found ≡ false → found ≡ named_out number text test first rows → (n t : ℕ) (p : Row → Bool) → n ≡ number → t ≡ text → p ≡ test → (now : Option RowName) → now ≡ name_if n t p row → now ≡ named_out number text test first (rows ++ row ∷ [])
  found_now None none is n t p same_number same_text same_test now e =
      e ∙ (λ i. name_if (same_number i) (same_text i) (same_test i) row) ∙ ap (λ o. option_or o (name_if number text test row)) is ∙ sym one_more
  found_now (Some name) none is n t p same_number same_text same_test now e = absurd (cc)

pub not_found : {A : Type 0} (o : Option A) → is_some o ≡ false → o ≡ None
not_found None is = refl
not_found (Some a) is = absurd (cc)
