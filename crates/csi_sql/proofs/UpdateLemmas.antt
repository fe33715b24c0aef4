-- The row of meta after an UPDATE.
use Rattle.std.proofs.Common.{◌≡◌, ◌∙◌, refl, ap, subst, ℕ, pos, List, [], ◌∷◌, map, arith, Ok, IsPermutation}
use Rattle.sqlite.specs.Command.TheVariants.{Update}
use Rattle.sqlite.specs.Edit.{edit_of, edited}
use Rattle.sqlite.specs.Order.{Row, column}
use Rattle.sqlite.specs.Query.{Output, output, page}
use Rattle.sqlite.specs.Rowids.TheVariants.{Given}
use Rattle.sqlite.specs.State.{State, Executes}
use Rattle.sqlite.specs.Term.{Term, lit, col, eval}
use Rattle.sqlite.specs.declared.types.Value.TheVariants.{Null}
use Rattle.sqlite.proofs.Callers.{one_permutation}
use Rattle.sqlite_rules.specs.Calls.{ids_of}
use Rattle.sqlite_value.proofs.OrderLemmas.{value_cmp-Int}
use Rattle.csi_sql.specs.facts.Steps.{cast_null, cast_int}
use Rattle.csi_sql.specs.facts.Writes.{IsCommand, updated}
use Rattle.csi_sql.specs.declared.formats.TheConstants.{LATEST_FORMAT}
use Rattle.csi_sql.specs.Rows.{number_value, seen_meta, meta_row}
use Rattle.csi_sql.specs.Effects.{SetsNext, SetsFormat}
use Rattle.csi_sql.specs.Tables.{schema, meta}
use Rattle.csi_sql.specs.Texts.{text, SetNext, SetFormat}
use Rattle.csi_sql.proofs.TextLemmas.{meta_query, next_query, format_query, is_command}

one_seen : (f : Row → Row) (rows : List Row) (y : Row) → map f rows ≡ y ∷ [] → (r : Row) × (rows ≡ r ∷ []) × (f r ≡ y)
one_seen f [] y e = absurd cc
one_seen f (r ∷ []) y e = (r, refl, cc)
one_seen f (r ∷ q ∷ rows) y e = absurd cc

-- the one row of meta, if the terms that are set are numbers
module _ (text : List ℕ) (params : Row) (format next : Term) (command : IsCommand text (Update 0 (record { lets = []; body = meta_query format next }))) (old new : State) (count : ℕ) (has : old.now.schema ≡ schema)
    (h : Executes text params old new (Ok count)) (was_format was_next is_format is_next : ℕ) (sets_format : (r : Row) → seen_meta r ≡ meta_row was_format was_next → eval format (params ∷ r ∷ []) ≡ number_value is_format)
    (sets_next : (r : Row) → seen_meta r ≡ meta_row was_format was_next → eval next (params ∷ r ∷ []) ≡ number_value is_next) where
  sets_row : (r : Row) → old.now.trees 0 ≡ r ∷ [] → seen_meta r ≡ meta_row was_format was_next → map seen_meta (new.now.trees 0) ≡ meta_row is_format is_next ∷ []
  sets_row r one seen =
      let db = old.now.trees in
      let it = updated text params old new count has 0 meta refl (meta_query format next) command h in
      let a = it.1 in
      let key : column r 0 ≡ number_value 1 = ap (λ (x : Row). column x 0) seen in
      let shown : Row = column r 0 ∷ column r 0 ∷ Null ∷ eval format (params ∷ r ∷ []) ∷ eval next (params ∷ r ∷ []) ∷ [] in
      let staged : a.staged ≡ (params ∷ r ∷ []) ∷ [] = a.grouped ∙ rw one refl in
      let o : Output = ([], shown) in
      let kept : a.kept ≡ o ∷ [] = a.distinct ∙ ap (map (output (meta_query format next))) staged in
      let ordered = one_permutation o a.ordered (subst (λ k. IsPermutation k a.ordered) kept a.same) in
      let rows : it.0 ≡ shown ∷ [] = a.shown ∙ ap (λ xs. page (meta_query format next) params (map (λ (p : Output). p.1) xs)) ordered in
      let plain : Row = number_value 1 ∷ number_value 1 ∷ Null ∷ number_value is_format ∷ number_value is_next ∷ [] in
      let is : it.0 ≡ plain ∷ [] = rows ∙ rw (key, sets_format r seen, sets_next r seen) refl in
      let edit : edited db (edit_of db meta (ids_of it.0) Given 1 it.0) ≡ (number_value 1 ∷ Null ∷ number_value is_format ∷ number_value is_next ∷ []) ∷ [] =
      ap (λ all. edited db (edit_of db meta (ids_of all) Given 1 all)) is ∙ rw (one, key, value_cmp-Int, cast_int (pos 1), cast_null, cast_int (pos is_format), cast_int (pos is_next)) refl in
      ap (map seen_meta) (it.2.made.rows ∙ edit)

  pub sets_meta : map seen_meta (old.now.trees 0) ≡ meta_row was_format was_next ∷ [] → map seen_meta (new.now.trees 0) ≡ meta_row is_format is_next ∷ []
  sets_meta seen = let it = one_seen seen_meta (old.now.trees 0) (meta_row was_format was_next) seen in sets_row it.0 it.1 it.2

pub sets_next_number : (next : ℕ) (old new : State) (count : ℕ) → old.now.schema ≡ schema → Executes (text SetNext) (number_value next ∷ []) old new (Ok count) → SetsNext next old.now new.now
sets_next_number next old new count has h =
    let params = number_value next ∷ [] in
    let it = updated (text SetNext) params old new count has 0 meta refl next_query (is_command SetNext) h in
    record {
      schema = it.2.schema_is;
      sound = it.2.sound;
      meta = λ format was. sets_meta (text SetNext) params (col 1 2) (col 0 0) (is_command SetNext) old new count has h format was format next (λ r seen. ap (λ (x : Row). column x 1) seen) (λ r seen. refl);
      volumes = it.2.made.tables.1.0 (λ e. absurd (omega arith));
      attachments = it.2.made.tables.1.1.0 (λ e. absurd (omega arith));
    }

pub sets_latest : (old new : State) (count : ℕ) → old.now.schema ≡ schema → Executes (text SetFormat) [] old new (Ok count) → SetsFormat old.now new.now
sets_latest old new count has h =
    let it = updated (text SetFormat) [] old new count has 0 meta refl format_query (is_command SetFormat) h in
    record {
      schema = it.2.schema_is;
      sound = it.2.sound;
      meta = λ was next. sets_meta (text SetFormat) [] (lit (number_value LATEST_FORMAT)) (col 1 3) (is_command SetFormat) old new count has h was next LATEST_FORMAT next (λ r seen. refl) (λ r seen. ap (λ (x : Row). column x 2) seen);
      volumes = it.2.made.tables.1.0 (λ e. absurd (omega arith));
      attachments = it.2.made.tables.1.1.0 (λ e. absurd (omega arith));
    }
