-- The rows after an INSERT.
use Rattle.std.proofs.Common.{◌≡◌, ◌∙◌, inl, inr, refl, sym, ap, subst, ℕ, pos, List, [], ◌∷◌, map, Bool, true, false, true≢false, cond, not, ◌||◌, ◌&&◌, arith, Ok, IsPermutation, Ordering, Less, Equal, Greater, is_eq}
use Rattle.std.specs.Cmp.{eq_by_cmp_equiv}
use Rattle.std.proofs.lemmas.List.Sorted.{IsPermutation-refl, IsPermutation-cons, IsPermutation-trans, IsPermutation-middle, IsPermutation-sym, IsPermutation-map}
use Rattle.sqlite.specs.Edit.{edit_of, is_taken, next_rowid, put_all, are_fresh}
use Rattle.sqlite.specs.Order.{Row, value_cmp}
use Rattle.sqlite.specs.Rowids.TheVariants.{Chosen}
use Rattle.sqlite.specs.Source.TheVariants.{Values}
use Rattle.sqlite.specs.State.{State, Executes}
use Rattle.sqlite.specs.Table.{Table}
use Rattle.sqlite.specs.Tree.{rowid, put_row}
use Rattle.sqlite.specs.View.{is_int}
use Rattle.sqlite.specs.declared.types.Value.TheVariants.{Int, Text, Blob}
use Rattle.sqlite_rules.specs.Lists.{Has}
use Rattle.sqlite_rules.proofs.ListLemmas.{all_has, all_from, some_from}
use Rattle.sqlite_trees.proofs.ListLemmas.{all-permutation}
use Rattle.sqlite_value.proofs.OrderLemmas.{value_cmp_total}
use Rattle.csi_sql.specs.facts.Steps.{cast_null, cast_int}
use Rattle.csi_sql.specs.facts.Writes.{inserted}
use Rattle.csi_sql.specs.Rows.{attachment_row, volume_row, number_value, bool_value, seen_attachment}
use Rattle.csi_sql.specs.Effects.{AreKeyed, AddsAttachment, AddsVolume}
use Rattle.csi_sql.specs.Tables.{schema, attachments, volumes}
use Rattle.csi_sql.specs.Texts.{text, AddVolume, Attach}
use Rattle.csi_sql.proofs.TextLemmas.{attach_terms, add_terms, is_command}

-- ---- a row that is put into a table without its rowid

pub put_new : (r : Row) (rows : List Row) → is_taken rows r ≡ false → IsPermutation (r ∷ rows) (put_row r rows)
put_new r [] free = IsPermutation-refl _
put_new r (x ∷ xs) free = go (value_cmp (rowid x) (rowid r)) free (put_new r xs)
  where
    go : (o : Ordering) → (is_eq o || is_taken xs r) ≡ false → (is_taken xs r ≡ false → IsPermutation (r ∷ xs) (put_row r xs))
        → IsPermutation (r ∷ x ∷ xs) (Rattle.std.specs.Ordering.match_ordering o (x ∷ put_row r xs) (r ∷ xs) (r ∷ x ∷ xs))
    go Less h more = IsPermutation-trans _ _ _ (IsPermutation-sym _ _ (IsPermutation-middle (x ∷ []) r xs)) (IsPermutation-cons x _ _ (more h))
    go Equal h more = absurd (true≢false h)
    go Greater h more = IsPermutation-refl _

pub has_permuted : {X : Type 0} (xs ys : List X) (x : X) → IsPermutation xs ys → Has ys x → Has xs x
has_permuted xs ys x same = all_has (Has xs) ys x (all-permutation (Has xs) xs ys same (all_from (Has xs) xs (λ e h. h)))

not_taken : (r : Row) (rows : List Row) → is_taken rows r ≡ false → (b : Row) → Has rows b → is_eq (value_cmp (rowid b) (rowid r)) ≡ true → ⊥
not_taken r rows free b has tied = true≢false (sym (some_from (λ x. is_eq (value_cmp (rowid x) (rowid r))) rows b has tied) ∙ free)

-- after a row with a new rowid the rowids are still different
keyed_new : (see : Row → Row) (r : Row) (rows : List Row) → is_int (rowid r) ≡ true → is_taken rows r ≡ false → AreKeyed see rows → AreKeyed see (put_row r rows)
keyed_new see r rows int free are = record {
  keyed = λ x has. elim (has_permuted (r ∷ rows) _ x (put_new r rows free) has) [ inl e ↦ ap (λ y. is_int (rowid y)) e ∙ int | inr old ↦ are.keyed x old ];
  one = λ a b left right tied. elim (has_permuted (r ∷ rows) _ a (put_new r rows free) left) [
    | inl e ↦ elim (has_permuted (r ∷ rows) _ b (put_new r rows free) right) [
      | inl f ↦ ap see (e ∙ sym f)
      | inr old ↦ absurd (not_taken r rows free b old ((eq_by_cmp_equiv value_cmp_total).symm (rowid b) (rowid r) ∙ subst (λ x. is_eq (value_cmp (rowid x) (rowid b)) ≡ true) e tied))
    ]
    | inr old ↦ elim (has_permuted (r ∷ rows) _ b (put_new r rows free) right) [
      | inl f ↦ absurd (not_taken r rows free a old (subst (λ x. is_eq (value_cmp (rowid a) (rowid x)) ≡ true) f tied))
      | inr last ↦ are.one a b old last tied
    ]
  ];
}

pub untaken : (b : Bool) → (not b && true) ≡ true → b ≡ false
untaken true h = absurd (true≢false (sym h))
untaken false h = refl

-- ---- the two tables

abbrev standing : Table
standing = record attachments { tree = 3 }

pub attaches : (number : ℕ) (node cap : List ℕ) (readonly : Bool) (old new : State) (count : ℕ) → old.now.schema ≡ schema
    → Executes (text Attach) (number_value number ∷ Text node ∷ Blob cap ∷ bool_value readonly ∷ []) old new (Ok count)
    → AddsAttachment (attachment_row number node cap readonly) old.now new.now
attaches number node cap readonly old new count has h =
    let db = old.now.trees in
    let it = inserted (text Attach) (number_value number ∷ Text node ∷ Blob cap ∷ bool_value readonly ∷ []) old new count has 2 standing refl (Values attach_terms 5) (is_command Attach) h in
    let row : Row = Int (next_rowid (db 3)) ∷ attachment_row number node cap readonly in
    let news : (edit_of db standing [] Chosen 0 it.0).news ≡ row ∷ [] =
    ap (λ all. (edit_of db standing [] Chosen 0 all).news) it.1.1 ∙ rw (cast_null, cast_int (pos number), cast_int (cond readonly (pos 1) (pos 0))) refl in
    let rows : new.now.trees 3 ≡ put_row row (db 3) = it.2.made.rows ∙ ap (λ ns. put_all (db 3) ns) news in
    let free : is_taken (db 3) row ≡ false = untaken _ (subst (λ ns. are_fresh (db 3) ns ≡ true) news it.2.made.fresh) in
    record {
      schema = it.2.schema_is;
      sound = it.2.sound;
      rows = subst (λ t. IsPermutation (attachment_row number node cap readonly ∷ map seen_attachment (db 3)) (map seen_attachment t)) (sym rows) (IsPermutation-map seen_attachment _ _ (put_new row (db 3) free));
      keyed = λ are. subst (AreKeyed seen_attachment) (sym rows) (keyed_new seen_attachment row (db 3) refl free are);
      meta = it.2.made.tables.0 (λ e. absurd (omega arith));
      volumes = it.2.made.tables.1.0 (λ e. absurd (omega arith));
    }

abbrev pub kept : Table
kept = record volumes { tree = 1 }

pub adds : (number : ℕ) (name : List ℕ) (bytes : ℕ) (pool caps params : List ℕ) (old new : State) (count : ℕ) → old.now.schema ≡ schema
    → Executes (text AddVolume) (number_value number ∷ Text name ∷ number_value bytes ∷ Text pool ∷ Blob caps ∷ Blob params ∷ []) old new (Ok count)
    → AddsVolume (volume_row number name bytes pool caps params) old.now new.now
adds number name bytes pool caps params old new count has h =
    let db = old.now.trees in
    let it = inserted (text AddVolume) (number_value number ∷ Text name ∷ number_value bytes ∷ Text pool ∷ Blob caps ∷ Blob params ∷ []) old new count has 1 kept refl (Values add_terms 7) (is_command AddVolume) h in
    let row : Row = volume_row number name bytes pool caps params in
    let news : (edit_of db kept [] Chosen 0 it.0).news ≡ row ∷ [] = ap (λ all. (edit_of db kept [] Chosen 0 all).news) it.1.1 ∙ rw (cast_null, cast_int (pos number), cast_int (pos bytes)) refl in
    let rows : new.now.trees 1 ≡ put_row row (db 1) = it.2.made.rows ∙ ap (λ ns. put_all (db 1) ns) news in
    let free : is_taken (db 1) row ≡ false = untaken _ (subst (λ ns. are_fresh (db 1) ns ≡ true) news it.2.made.fresh) in
    record {
      schema = it.2.schema_is;
      sound = it.2.sound;
      rows = subst (λ t. IsPermutation (row ∷ db 1) t) (sym rows) (put_new row (db 1) free);
      meta = it.2.made.tables.0 (λ e. absurd (omega arith));
      attachments = it.2.made.tables.1.1.0 (λ e. absurd (omega arith));
    }
