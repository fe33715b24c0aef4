-- How the tables are made: three CREATEs, and the first row of meta.
use Rattle.std.specs.Prelude.{◌≡◌, ℕ, List, [], ◌∷◌, map, IsTrue}
use Rattle.sqlite.specs.Change.{created, next_tree, KeepsRows}
use Rattle.sqlite.specs.Effect.{Database, IsDatabase}
use Rattle.sqlite.specs.Schema.{Schema}
use Rattle.sqlite.specs.State.{State}
use Rattle.sqlite.specs.Table.{Table}
use Rattle.sqlite.specs.declared.error.Error.{Error}
use Rattle.csi_sql.specs.Failing.{SqlRefuses}
use Rattle.csi_sql.specs.Rows.{seen_meta, meta_row}
use Rattle.csi_sql.specs.declared.formats.TheConstants.{LATEST_FORMAT}
use Rattle.csi_sql.specs.declared.making.TableStatement.{TableStatement}
use Rattle.csi_sql.specs.declared.making.TableStatement.TheVariants as step
use Rattle.csi_sql.specs.Tables.{schema, no_schema, one_schema, two_schema, meta, volumes, attachments, meta_text, volumes_text, attachments_text, first_text}

-- an empty table is made
pub record Creates (before : Schema) (table : Table) (old new : Database) : Type 0 where
  pub schema : new.schema ≡ created before table
  pub empty : new.trees (next_tree before) ≡ []
  pub others : KeepsRows before.tables old.trees new.trees

-- the first row of meta is put into the empty table: the latest format, and the next number is 1
pub record AddsFirst (old new : Database) : Type 0 where
  pub schema : new.schema ≡ old.schema
  pub sound : IsDatabase new
  pub meta : old.trees 0 ≡ [] → map seen_meta (new.trees 0) ≡ meta_row LATEST_FORMAT 1 ∷ []
  pub volumes : new.trees 1 ≡ old.trees 1
  pub attachments : new.trees 3 ≡ old.trees 3

-- each statement that makes the tables: its text, the schema before it, and its effect
abbrev pub step_text : TableStatement → List ℕ
step_text step.Meta = meta_text
step_text step.Volumes = volumes_text
step_text step.Attachments = attachments_text
step_text step.First = first_text

abbrev pub schema_before : TableStatement → Schema
schema_before step.Meta = no_schema
schema_before step.Volumes = one_schema
schema_before step.Attachments = two_schema
schema_before step.First = schema

abbrev pub StepMakes : TableStatement → Database → Database → Type 0
StepMakes step.Meta = Creates no_schema meta
StepMakes step.Volumes = Creates one_schema volumes
StepMakes step.Attachments = Creates two_schema attachments
StepMakes step.First = AddsFirst

-- the three tables exist, with the first row of meta, no volume and no attachment
pub record MakesTables (old new : Database) : Type 0 where
  pub schema : new.schema ≡ schema
  pub sound : IsDatabase new
  pub meta : map seen_meta (new.trees 0) ≡ meta_row LATEST_FORMAT 1 ∷ []
  pub volumes : new.trees 1 ≡ []
  pub attachments : new.trees 3 ≡ []

-- the three tables exist, and have no rows
abbrev pub HasNoRow : Database → Type 0
HasNoRow db = (db.schema ≡ schema) × (db.trees 0 ≡ []) × (db.trees 1 ≡ []) × (db.trees 3 ≡ [])

-- on an open connection the first row of meta is refused; the tables before it are never refused
abbrev pub RefusesTables : State → Error → Type 0
RefusesTables s e = IsTrue s.is_open × (db : Database) × HasNoRow db × SqlRefuses first_text [] (record s { now = db }) e
