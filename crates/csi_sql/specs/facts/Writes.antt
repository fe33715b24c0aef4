-- One table after an INSERT, an UPDATE or a DELETE of a fixed text that succeeded.
use Rattle.std.proofs.Common.{◌≡◌, ◌∙◌, refl, sym, ap, subst, ℕ, false, List, [], None, Some, Ok, slice_get}
use Rattle.sqlite.specs.Command.{Command}
use Rattle.sqlite.specs.Command.TheVariants.{Insert, Update, Delete}
use Rattle.sqlite.specs.Does.{Tally, Does, AtPlace, Concludes, OnRows}
use Rattle.sqlite.specs.Edit.{Edit, edit_of, Applies}
use Rattle.sqlite.specs.Effect.{Database, IsDatabase, IsSource}
use Rattle.sqlite.specs.Listing.{understood}
use Rattle.sqlite.specs.Order.{Row}
use Rattle.sqlite.specs.Program.{overlay}
use Rattle.sqlite.specs.Query.{Query, IsAnswer}
use Rattle.sqlite.specs.Rowids.TheVariants.{Given, Chosen}
use Rattle.sqlite.specs.Rows.{Edited, Gives, Queried, Task, Then, Written, stamped}
use Rattle.sqlite.specs.Source.{Source}
use Rattle.sqlite.specs.State.{State, mode_of, Executes}
use Rattle.sqlite.specs.Table.{Table}
use Rattle.sqlite.specs.declared.types.Value.TheVariants.{Null}
use Rattle.sqlite.proofs.Callers.{IsPlain, command_of, statement_of, runs_as, one_step}
use Rattle.sqlite_rules.specs.Action.{works}
use Rattle.sqlite_rules.specs.Calls.{ids_of}
use Rattle.sqlite_rules.specs.Edit.{taken_by}
use Rattle.csi_sql.specs.Tables.{schema}
use Rattle.csi_sql.specs.facts.Steps.{went, same_value}

-- the text is the command under the schema
pub record IsCommand (text : List ℕ) (command : Command) : Type 0 where
  pub is : command_of (understood schema text) ≡ command
  pub plain : IsPlain (understood schema text)

-- the edit is made, and no foreign key has added to it
pub record Makes (old new : State) (edit : Edit) : Type 0 where
  pub schema_is : new.now.schema ≡ old.now.schema
  pub sound : IsDatabase new.now
  pub made : Applies schema (mode_of old).keys old.now.trees edit new.now.trees

module _ (text : List ℕ) (params : Row) (old new : State) (count : ℕ) (has : old.now.schema ≡ schema) (at : ℕ) (table : Table)
    (place : slice_get schema.tables at ≡ Some table) where
  task : Task
  task = record { limit = old.step_limit; keys = (mode_of old).keys; schema = schema; table = table; params = params }

  placed : (command : Command) (out : Tally × Database)
      → AtPlace (λ t. OnRows (record task { table = t }) (mode_of old) None command old.now.trees) (slice_get schema.tables at) (Ok out)
      → OnRows task (mode_of old) None command old.now.trees (Ok out)
  unfolding task
  placed command out = subst (λ o. AtPlace (λ t. OnRows (record task { table = t }) (mode_of old) None command old.now.trees) o (Ok out)) place

  changed : (command : Command) (tally : Tally)
      → Does old.step_limit (mode_of old) params old.now (statement_of text (understood schema text)) None command (Ok (tally, new.now))
      → Does old.step_limit (mode_of old) params (record old.now { schema = schema }) (statement_of text (understood schema text)) None command
      (Ok (tally, new.now))
  changed command tally = subst (λ s. Does old.step_limit (mode_of old) params (record old.now { schema = s })
      (statement_of text (understood schema text)) None command (Ok (tally, new.now))) has

  -- a query gave rows, and one edit of them was made, without an addition by a foreign key
  edited : (q : Query) (edit : List Row → Edit) (wrote : List Row → List Row) (tally : Tally)
      → ((rows : List Row) → works schema (mode_of old).keys 0 (edit rows).table.tree (taken_by old.now.trees (edit rows)) (edit rows).news ≡ [])
      → IsDatabase new.now
      → Then {A = Written} (Then (Queried old.step_limit (record { schema = schema; trees = old.now.trees }) (record {
        lets = [];
        body = q;
      }) params) (λ rows. Then (Edited schema (mode_of old).keys old.now.trees (edit rows)) (λ next. Gives (record {
        trees = next;
        rows = wrote rows;
        last = None;
      }))))
      (Concludes task (mode_of old) None) (Ok (tally, new.now))
      → (shown : List Row) × IsAnswer q (overlay old.now.trees []) params shown × Makes old new (edit shown)
  unfolding task
  edited q edit wrote tally alone sound done =
      let all = went done in
      let now = ap (λ (p : Tally × Database). p.1) (same_value (went (went all.2).2).2) in
      let asked = went all.1 in
      let written = went asked.2 in
      let trees : all.0.trees ≡ written.0 = ap (λ (it : Written). it.trees) (same_value written.2) in (
        asked.0,
        asked.1.answer Null,
        record {
          schema_is = ap (λ (d : Database). d.schema) now ∙ sym has;
          sound = sound;
          made = subst (Applies schema (mode_of old).keys old.now.trees (edit asked.0)) (sym (ap (λ (d : Database). d.trees) now ∙ trees))
              (one_step schema _ old.now.trees written.0 (edit asked.0) (alone asked.0) written.1);
        },
      )

  pub deleted : (q : Query) → IsCommand text (Delete at (record { lets = []; body = q })) → Executes text params old new (Ok count)
      → (shown : List Row) × IsAnswer q (overlay old.now.trees []) params shown × Makes old new (edit_of old.now.trees table (ids_of shown) Given 0 [])
  unfolding task
  deleted q it h =
      let command = Delete at (record { lets = []; body = q }) in
      let w = runs_as text params old new schema has command it.is it.plain count h in
      edited q (λ rows. edit_of old.now.trees table (ids_of rows) Given 0 [])
      (λ rows. taken_by old.now.trees (edit_of old.now.trees table (ids_of rows) Given 0 [])) w.tally (λ rows. refl) w.sound
      (placed command (w.tally, new.now) (changed command w.tally w.changed))

  -- the rows that the query gives are the new rows, each after the rowid that the old row had
  pub updated : (q : Query) → IsCommand text (Update at (record { lets = []; body = q })) → Executes text params old new (Ok count)
      → (shown : List Row) × IsAnswer q (overlay old.now.trees []) params shown × Makes old new (edit_of old.now.trees table (ids_of shown) Given 1 shown)
  unfolding task
  updated q it h =
      let command = Update at (record { lets = []; body = q }) in
      let w = runs_as text params old new schema has command it.is it.plain count h in
      edited q (λ rows. edit_of old.now.trees table (ids_of rows) Given 1 rows)
      (λ rows. (edit_of old.now.trees table (ids_of rows) Given 1 rows).news) w.tally (λ rows. refl) w.sound
      (placed command (w.tally, new.now) (changed command w.tally w.changed))

-- a table whose rowids are not counted, and with no default that reads the time
abbrev pub plain_table : Table → Table
plain_table t = record t { stamps = record { places = []; terms = []; formats = [] }; is_counted = false }

module _ (text : List ℕ) (params : Row) (old new : State) (count : ℕ) (has : old.now.schema ≡ schema) (at : ℕ) (t : Table)
    (place : slice_get schema.tables at ≡ Some (plain_table t)) where
  pub inserted : (from : Source) → IsCommand text (Insert at from) → Executes text params old new (Ok count)
      → (rows : List Row) × IsSource (record {
        schema = schema;
        trees = old.now.trees;
      }) (stamped (plain_table t) params) from rows × Makes old new (edit_of old.now.trees (plain_table t) [] Chosen 0 rows)
  unfolding task
  inserted from it h =
      let command = Insert at from in
      let w = runs_as text params old new schema has command it.is it.plain count h in
      let change = changed text params old new count has at (plain_table t) place command w.tally w.changed in
      let all = went (placed text params old new count has at (plain_table t) place command (w.tally, new.now) change) in
      let now = ap (λ (p : Tally × Database). p.1) (same_value (went (went all.2).2).2) in
      let given = went all.1 in
      let written = went (went given.2).2 in
      let counted = went written.2 in
      let trees : all.0.trees ≡ written.0 = ap (λ (it : Written). it.trees) (same_value counted.2) ∙ same_value counted.1 in
      let is_trees : new.now.trees ≡ written.0 = ap (λ (d : Database). d.trees) now ∙ trees in
      let edit = edit_of old.now.trees (plain_table t) [] Chosen 0 given.0 in (
        given.0,
        given.1,
        record {
          schema_is = ap (λ (d : Database). d.schema) now ∙ sym has;
          sound = w.sound;
          made = subst (Applies schema (mode_of old).keys old.now.trees edit) (sym is_trees) (one_step schema _ old.now.trees written.0 edit refl written.1);
        },
      )
