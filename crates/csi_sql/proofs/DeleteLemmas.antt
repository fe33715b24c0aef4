-- The rows after a DELETE.
use Rattle.std.proofs.Common.{◌≡◌, ◌∙◌, refl, ap, ap₂, subst, ℕ, ℤ, pos, List, [], ◌∷◌, map, filter, Bool, true, false, not, ◌&&◌, Some, slice_get, Ok, IsPermutation}
use Rattle.std.specs.List.{list_all}
use Rattle.sqlite.specs.Command.TheVariants.{Delete}
use Rattle.sqlite.specs.Edit.{without_all}
use Rattle.sqlite.specs.Ops.{unary}
use Rattle.sqlite.specs.Order.{Row, column}
use Rattle.sqlite.specs.Program.{overlay}
use Rattle.sqlite.specs.State.{State, Executes}
use Rattle.sqlite.specs.Table.{Table}
use Rattle.sqlite.specs.Term.{Term, col, holds}
use Rattle.sqlite.specs.Tree.{Trees}
use Rattle.sqlite.specs.declared.types.Value.TheVariants.{Int, Text}
use Rattle.sqlite_rules.specs.Calls.{ids_of}
use Rattle.sqlite_sql.specs.declared.ops.UnaryOp.TheVariants.{ToNumeric}
use Rattle.csi_sql.specs.facts.Writes.{IsCommand, deleted}
use Rattle.csi_sql.specs.Deletes.{is_same, is_place, is_of, is_numbered, Drops}
use Rattle.csi_sql.specs.Rows.{number_value, seen_attachment, seen_volume}
use Rattle.csi_sql.specs.Effects.{AreKeyed}
use Rattle.csi_sql.specs.Shown.{IsShownOf}
use Rattle.csi_sql.specs.Tables.{schema, attachments, volumes}
use Rattle.csi_sql.proofs.FilterLemmas.{left_rows}
use Rattle.csi_sql.proofs.SelectLemmas.{shows_one, shown_each, one_table}
use Rattle.csi_sql.specs.Texts.{text, RemoveVolume, Detach, DetachAll}
use Rattle.csi_sql.proofs.TextLemmas.{detach_query, detach_all_query, remove_query, is_command}

-- an integer is a number already
pub to_numeric : (n : ℤ) → unary ToNumeric (Int n) ≡ Int n
unfolding unary
to_numeric n = refl

pub and_true : (b : Bool) → (b && true) ≡ b
and_true true = refl
and_true false = refl

pub filter_by : {X : Type 0} (p q : X → Bool) → ((x : X) → p x ≡ q x) → (xs : List X) → filter p xs ≡ filter q xs
filter_by p q same [] = refl
filter_by p q same (x ∷ xs) = rw (same x, filter_by p q same xs) refl

abbrev pub passes : List Term → Row → Row → Bool
passes test params r = list_all (holds (params ∷ r ∷ [])) test

-- the rows left, if the rows that pass are shown
left_where : (tree : ℕ) (test : List Term) (see : Row → Row) (pass : Row → Bool) → ((a b : Row) → see a ≡ see b → pass a ≡ pass b) → (rows : List Row) (params : Row) (shown : List Row)
    → ((r : Row) → passes test params r ≡ pass r) → IsShownOf (one_table tree test (col 1 0 ∷ []) []) rows params shown → AreKeyed see rows → without_all rows (ids_of shown) ≡ filter (λ r. not (pass r)) rows
left_where tree test see pass same rows params shown is h are =
    left_rows see pass same rows shown are (subst (λ xs. IsPermutation (map (λ r. column r 0 ∷ []) xs) shown) (filter_by _ pass is rows) (shown_each tree test (col 1 0 ∷ []) rows params shown h))

attachment_at : (i : ℕ) (a b : Row) → seen_attachment a ≡ seen_attachment b → column (seen_attachment a) i ≡ column (seen_attachment b) i
attachment_at i a b e = ap (λ r. column r i) e

same_place : (number : ℕ) (node : List ℕ) (a b : Row) → seen_attachment a ≡ seen_attachment b → is_place number node a ≡ is_place number node b
same_place number node a b e = ap₂ (λ x y. is_same x (Int (pos number)) && is_same y (Text node)) (attachment_at 0 a b e) (attachment_at 1 a b e)

same_of : (number : ℕ) (a b : Row) → seen_attachment a ≡ seen_attachment b → is_of number a ≡ is_of number b
same_of number a b e = ap (λ x. is_same x (Int (pos number))) (attachment_at 0 a b e)

pub same_number : (number : ℕ) (a b : Row) → seen_volume a ≡ seen_volume b → is_numbered number a ≡ is_numbered number b
same_number number a b e = ap (λ r. is_same (column r 0) (Int (pos number))) e

place_passes : (number : ℕ) (node : List ℕ) (r : Row) → passes detach_query.filter (number_value number ∷ Text node ∷ []) r ≡ is_place number node r
place_passes number node r = rw (to_numeric (pos number), and_true (is_same (column r 2) (Text node))) refl

of_passes : (number : ℕ) (r : Row) → passes detach_all_query.filter (number_value number ∷ []) r ≡ is_of number r
of_passes number r = rw (to_numeric (pos number)) (and_true (is_same (column r 1) (Int (pos number))))

number_passes : (number : ℕ) (r : Row) → passes remove_query.filter (number_value number ∷ []) r ≡ is_numbered number r
number_passes number r = and_true (is_same (column r 0) (Int (pos number)))

-- ---- a DELETE over one table

module _ (text : List ℕ) (at t : ℕ) (table : Table) (place : slice_get schema.tables at ≡ Some (record table { tree = t })) (stands : (db : Trees) → overlay db [] t ≡ db t) (test : List Term)
    (command : IsCommand text (Delete at (record { lets = []; body = one_table t test (col 1 0 ∷ []) [] })))
    (see : Row → Row) (pass : Row → Bool) (same : (a b : Row) → see a ≡ see b → pass a ≡ pass b) (params : Row) (is : (r : Row) → passes test params r ≡ pass r) where
  drops : (old new : State) (count : ℕ) → old.now.schema ≡ schema → Executes text params old new (Ok count) → Drops t see pass old.now new.now
  drops old new count has h =
      let it = deleted text params old new count has at (record table { tree = t }) place (one_table t test (col 1 0 ∷ []) []) command h in
      let shown = subst (λ rows. IsShownOf (one_table t test (col 1 0 ∷ []) []) rows params it.0) (stands old.now.trees) (shows_one t test (col 1 0 ∷ []) [] (overlay old.now.trees []) params it.0 it.1) in
      let others = it.2.made.tables in
      record {
        schema = it.2.schema_is;
        sound = it.2.sound;
        rows = λ are. it.2.made.rows ∙ left_where t test see pass same (old.now.trees t) params it.0 is shown are;
        others = (others.0, (others.1.0, (others.1.1.0, tt)));
      }

-- ---- the three DELETEs

pub detaches : (number : ℕ) (node : List ℕ) (old new : State) (count : ℕ) → old.now.schema ≡ schema → Executes (text Detach) (number_value number ∷ Text node ∷ []) old new (Ok count)
    → Drops 3 seen_attachment (is_place number node) old.now new.now
detaches number node =
    drops (text Detach) 2 3 attachments refl (λ db. refl) detach_query.filter (is_command Detach) seen_attachment (is_place number node) (same_place number node) (number_value number ∷ Text node ∷ []) (place_passes number node)

pub detaches_all : (number : ℕ) (old new : State) (count : ℕ) → old.now.schema ≡ schema → Executes (text DetachAll) (number_value number ∷ []) old new (Ok count) → Drops 3 seen_attachment (is_of number) old.now new.now
detaches_all number = drops (text DetachAll) 2 3 attachments refl (λ db. refl) detach_all_query.filter (is_command DetachAll) seen_attachment (is_of number) (same_of number) (number_value number ∷ []) (of_passes number)

pub removes : (number : ℕ) (old new : State) (count : ℕ) → old.now.schema ≡ schema → Executes (text RemoveVolume) (number_value number ∷ []) old new (Ok count) → Drops 1 seen_volume (is_numbered number) old.now new.now
removes number = drops (text RemoveVolume) 1 1 volumes refl (λ db. refl) remove_query.filter (is_command RemoveVolume) seen_volume (is_numbered number) (same_number number) (number_value number ∷ []) (number_passes number)
