-- The effect of the INSERT of the first row on meta, and so the effect of each statement that makes the
-- tables.
use Rattle.std.proofs.Common.{◌≡◌, ◌∙◌, refl, ap, ℕ, pos, List, [], ◌∷◌, map, arith, Ok}
use Rattle.sqlite.specs.Command.TheVariants.{Insert}
use Rattle.sqlite.specs.Edit.{edit_of, put_all}
use Rattle.sqlite.specs.Listing.{understood}
use Rattle.sqlite.specs.Order.{Row}
use Rattle.sqlite.specs.Rowids.TheVariants.{Chosen}
use Rattle.sqlite.specs.Source.TheVariants.{Values}
use Rattle.sqlite.specs.State.{State, Executes}
use Rattle.sqlite.specs.Term.{Term, lit}
use Rattle.sqlite.specs.declared.types.Value.TheVariants.{Null}
use Rattle.sqlite_tied.specs.Compute.{everything}
use Rattle.csi_sql.specs.Making.{AddsFirst, StepMakes, schema_before, step_text}
use Rattle.csi_sql.specs.Rows.{number_value, seen_meta}
use Rattle.csi_sql.specs.Tables.{schema, no_schema, one_schema, two_schema, meta, volumes, attachments, meta_text, volumes_text, attachments_text, first_text}
use Rattle.csi_sql.specs.declared.formats.TheConstants.{LATEST_FORMAT}
use Rattle.csi_sql.specs.declared.making.TableStatement.{TableStatement}
use Rattle.csi_sql.specs.declared.making.TableStatement.TheVariants as step
use Rattle.csi_sql.specs.facts.Steps.{cast_null, cast_int}
use Rattle.csi_sql.specs.facts.Writes.{IsCommand, inserted}
use Rattle.csi_sql.proofs.CreateLemmas.{attachments_create, creates, meta_create, volumes_create}

abbrev numeral : ℕ → Term
numeral n = lit (number_value n)

-- the key is the rowid, and its own column is stored as NULL
abbrev first_terms : List Term
first_terms = numeral 1 ∷ lit Null ∷ numeral LATEST_FORMAT ∷ numeral 1 ∷ []

first_command : IsCommand first_text (Insert 0 (Values first_terms 4))
unfolding understood everything
first_command = record { is = refl; plain = (refl, refl) }

pub adds_first : (old new : State) (count : ℕ) → old.now.schema ≡ schema → Executes first_text [] old new (Ok count) → AddsFirst old.now new.now
adds_first old new count has h =
    let db = old.now.trees in
    let it = inserted first_text [] old new count has 0 meta refl (Values first_terms 4) first_command h in
    let row : Row = number_value 1 ∷ Null ∷ number_value LATEST_FORMAT ∷ number_value 1 ∷ [] in
    let news : (edit_of db meta [] Chosen 0 it.0).news ≡ row ∷ [] = ap (λ all. (edit_of db meta [] Chosen 0 all).news) it.1.1 ∙ rw (cast_null, cast_int (pos 1), cast_int (pos LATEST_FORMAT)) refl in
    let rows : new.now.trees 0 ≡ put_all (db 0) (row ∷ []) = it.2.made.rows ∙ ap (λ ns. put_all (db 0) ns) news in
    record {
      schema = it.2.schema_is;
      sound = it.2.sound;
      meta = λ empty. ap (map seen_meta) (rows ∙ ap (λ t. put_all t (row ∷ [])) empty);
      volumes = it.2.made.tables.1.0 (λ e. absurd (omega arith));
      attachments = it.2.made.tables.1.1.0 (λ e. absurd (omega arith));
    }

pub makes : (s : TableStatement) (old new : State) (count : ℕ) → old.now.schema ≡ schema_before s → Executes (step_text s) [] old new (Ok count) → StepMakes s old.now new.now
makes step.Meta = creates no_schema meta_text meta meta_create
makes step.Volumes = creates one_schema volumes_text volumes volumes_create
makes step.Attachments = creates two_schema attachments_text attachments attachments_create
makes step.First = adds_first
