-- The effect of CREATE TABLE.
use Rattle.std.proofs.Common.{◌≡◌, ℕ, List, [], false, None, Ok, refl, sym, ap, subst, ◌∙◌}
use Rattle.sqlite.specs.Schema.{Schema}
use Rattle.sqlite.specs.Table.{Table}
use Rattle.sqlite.specs.Command.TheVariants.{CreateTable}
use Rattle.sqlite.specs.Compile.{table_defined_by}
use Rattle.sqlite.specs.Change.{created, next_tree, KeepsRows}
use Rattle.sqlite.specs.Does.{Tally, lacks_sequence}
use Rattle.sqlite.specs.Effect.{Database}
use Rattle.sqlite.specs.Listing.{understood}
use Rattle.sqlite.specs.State.{State, Writes, Executes}
use Rattle.sqlite.proofs.Callers.{IsPlain, command_of, statement_of, runs_as}
use Rattle.sqlite_tied.specs.Compute.{everything}
use Rattle.csi_sql.specs.Tables.{no_schema, one_schema, two_schema, schema, meta, volumes, attachments, meta_text, volumes_text, attachments_text}
use Rattle.csi_sql.specs.Making.{Creates, AddsFirst, HasNoRow, MakesTables}
use Rattle.csi_sql.proofs.TablesLemmas.{meta_is, volumes_is, attachments_is}
use Rattle.csi_sql.specs.facts.Steps.{went, same_value}

-- the facts about a CREATE text that are computed under a schema
pub record IsCreate (before : Schema) (text : List ℕ) (table : Table) : Type 0 where
  pub command : command_of (understood before text) ≡ CreateTable
  pub whole : statement_of text (understood before text) ≡ text
  pub plain : IsPlain (understood before text)
  pub table_is : table_defined_by text ≡ Ok table
  pub uncounted : lacks_sequence (created before table) ≡ false

pub meta_create : IsCreate no_schema meta_text meta
unfolding understood everything
meta_create = record { command = refl; whole = refl; plain = (refl, refl); table_is = meta_is; uncounted = refl }

pub volumes_create : IsCreate one_schema volumes_text volumes
unfolding understood everything
volumes_create = record { command = refl; whole = refl; plain = (refl, refl); table_is = volumes_is; uncounted = refl }

pub attachments_create : IsCreate two_schema attachments_text attachments
unfolding understood everything
attachments_create = record { command = refl; whole = refl; plain = (refl, refl); table_is = attachments_is; uncounted = refl }

pub creates : (before : Schema) (text : List ℕ) (table : Table) → IsCreate before text table → (old new : State) (count : ℕ) → old.now.schema ≡ before → Executes text [] old new (Ok count) → Creates before table old.now new.now
creates before text table it old new count has h =
    let w = subst (λ t. Writes old new None CreateTable t [] count) it.whole (runs_as text [] old new before has CreateTable it.command it.plain count h) in
    let all = went w.changed in
    let first = went all.1 in
    let made = first.1 in
    let both : Ok made.table ≡ Ok table = sym made.defined ∙ it.table_is in
    let same : made.table ≡ table = cc in
    let is : first.0.schema ≡ created before table = made.is ∙ ap (λ s. created s made.table) has ∙ ap (created before) same in
    let plain : lacks_sequence first.0.schema ≡ false = ap lacks_sequence is ∙ it.uncounted in
    let now : new.now ≡ first.0 = ap (λ (p : Tally × Database). p.1) (same_value all.2) ∙ same_value (rw plain at first.2) in
    record {
      schema = ap (λ (d : Database). d.schema) now ∙ is;
      empty = ap (λ (d : Database). d.trees (next_tree before)) now ∙ subst (λ s. first.0.trees (next_tree s) ≡ []) has made.empty;
      others = subst (λ (d : Database). KeepsRows before.tables old.now.trees d.trees) (sym now) (subst (λ (s : Schema). KeepsRows s.tables old.now.trees first.0.trees) has made.others);
    }

-- the three CREATEs in turn; there is no row yet
pub has_no_row : {a b c d : Database} → Creates no_schema meta a b → Creates one_schema volumes b c → Creates two_schema attachments c d → HasNoRow d
has_no_row one two three = (three.schema, three.others.0 ∙ two.others.0 ∙ one.empty, three.others.1.0 ∙ two.empty, three.empty)
