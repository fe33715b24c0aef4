-- The parts of our schema, in the form in which a schema that was read from a file is compared with them.
use Rattle.std.specs.Prelude.{◌≡◌, ℕ, Some, slice_get, Bool, [], ◌∷◌, List, true, false, pos, codes}
use Rattle.sqlite.specs.Collation.TheVariants.{Binary}
use Rattle.sqlite.specs.declared.types.Value.TheVariants.{Null, Int}
use Rattle.sqlite.specs.Table.{Table}
use Rattle.sqlite_sql.specs.declared.ops.BinaryOp.TheVariants.{Compare}
use Rattle.sqlite_sql.specs.declared.ops.CompareOp.TheVariants.{Eq}
use Rattle.sqlite_schema.specs.declared.code.Op.{Op}
use Rattle.sqlite_schema.specs.declared.code.Op.TheVariants.{Literal, Column as NodeColumn, Binary as NodeBinary}
use Rattle.sqlite_schema.specs.declared.schema.Column.{Column}
use Rattle.sqlite_schema.specs.declared.schema.Index.{Index}
use Rattle.sqlite_schema.specs.declared.schema.Kind.{Kind}
use Rattle.sqlite_value.specs.Keys.{plain}
use Rattle.csi_sql.specs.Tables.{meta, volumes, attachments}

-- a column with no default, compared by its bytes
abbrev pub plain_column : List ℕ → Kind → Bool → Column
plain_column name kind full = record { name = name; kind = kind; is_strict = false; not_null = full; default = Null; collation = Binary }

-- a table with this name and tree, without a reference, a computed default, a stamp or a counter of rowids:
-- our tables have none of these
pub record IsBare (name : List ℕ) (tree : ℕ) (t : Table) : Type 0 where
  pub name_is : t.name ≡ name
  pub tree_is : t.tree ≡ tree
  pub references : t.references ≡ []
  pub computed : t.computed ≡ []
  pub stamps : t.stamps ≡ record { places = []; terms = []; formats = [] }
  pub counted : t.is_counted ≡ false

-- the table has this primary key, one other key with an ascending index, and no CHECK
pub record HasKeys (primary unique : List ℕ) (t : Table) : Type 0 where
  pub primary_is : t.primary ≡ primary
  pub uniques : t.uniques ≡ unique ∷ []
  pub orders : t.orders ≡ plain ∷ []
  pub checks : t.checks ≡ []

-- the nodes of a plan at `root` test that the first column is 1
abbrev pub IsKeyCheck : List Op → ℕ → Type 0
IsKeyCheck ops root =
    (a : ℕ) × (b : ℕ)
    × (slice_get ops root ≡ Some (NodeBinary (Compare Eq Binary) a b))
    × (slice_get ops a ≡ Some (NodeColumn 1 0))
    × (slice_get ops b ≡ Some (Literal (Int (pos 1))))

-- the index that belongs to a UNIQUE or a PRIMARY KEY
abbrev pub unique_index : List ℕ → ℕ → ℕ → List ℕ → Index
unique_index name tree table columns = record { name = name; tree = tree; table = table; columns = columns; order = plain; is_unique = true }

abbrev pub our_tables : List Table
our_tables = meta ∷ record volumes { tree = 1 } ∷ record attachments { tree = 3 } ∷ []

abbrev pub our_indexes : List Index
our_indexes = unique_index (codes "sqlite_autoindex_volumes_1") 2 1 (2 ∷ []) ∷ unique_index (codes "sqlite_autoindex_attachments_1") 4 3 (1 ∷ 2 ∷ []) ∷ []
