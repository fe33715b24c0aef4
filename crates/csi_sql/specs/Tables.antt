-- The three tables: their texts, and the schema that these make.
use Rattle.std.specs.Prelude.{true, false, [], ◌∷◌, ◌++◌, Some, None, codes, List, ℕ, pos}
use Rattle.sqlite.specs.Collation.TheVariants.{Binary}
use Rattle.sqlite.specs.declared.types.Value.TheVariants.{Null, Int}
use Rattle.sqlite.specs.Kind.TheVariants.{Integer, Text, Any}
use Rattle.sqlite.specs.Term.{lit, col, op2}
use Rattle.sqlite_sql.specs.declared.ops.BinaryOp.TheVariants.{Compare}
use Rattle.sqlite_sql.specs.declared.ops.CompareOp.TheVariants.{Eq}
use Rattle.sqlite_value.specs.Keys.{plain}
use Rattle.sqlite.specs.Schema.{Schema}
use Rattle.sqlite.specs.Table.{Table}
use Rattle.sqlite_schema.specs.declared.schema.Column.{Column}
use Rattle.sqlite_schema.specs.declared.schema.Kind.{Kind}
use Rattle.sqlite.specs.Change.{created}

abbrev pub meta_text : List ℕ
meta_text = codes "CREATE TABLE meta (k INTEGER PRIMARY KEY CHECK (k = 1), format_no INTEGER NOT NULL, next_number INTEGER NOT NULL)"

abbrev pub volumes_text : List ℕ
volumes_text =
    codes "CREATE TABLE volumes (number INTEGER PRIMARY KEY, name TEXT NOT NULL UNIQUE, bytes INTEGER NOT NULL, "
    ++ codes "pool TEXT NOT NULL, caps BLOB NOT NULL, params BLOB NOT NULL)"

abbrev pub attachments_text : List ℕ
attachments_text =
    codes "CREATE TABLE attachments (number INTEGER NOT NULL, node TEXT NOT NULL, cap BLOB NOT NULL, "
    ++ codes "readonly INTEGER NOT NULL, PRIMARY KEY (number, node))"

abbrev pub first_text : List ℕ
first_text = codes "INSERT INTO meta (k, format_no, next_number) VALUES (1, 2, 1)"

abbrev pub no_schema : Schema
no_schema = record { tables = []; indexes = []; views = [] }

abbrev pub key_column : List ℕ → Column
key_column name = record { name = name; kind = Integer; is_strict = false; not_null = false; default = Null; collation = Binary }

abbrev pub full_column : List ℕ → Kind → Column
full_column name kind = record { name = name; kind = kind; is_strict = false; not_null = true; default = Null; collation = Binary }

-- no table has these: a reference, a computed column, a default that reads the time, counted rowids
abbrev pub bare_table : List ℕ → List Column → Table
bare_table name columns = record {
  name = name;
  tree = 0;
  columns = columns;
  key = None;
  primary = [];
  uniques = [];
  orders = [];
  checks = [];
  references = [];
  computed = [];
  stamps = record { places = []; terms = []; formats = [] };
  is_counted = false;
}

abbrev pub meta : Table
meta = record (bare_table (codes "meta") (key_column (codes "k") ∷ full_column (codes "format_no") Integer ∷ full_column (codes "next_number") Integer ∷ [])) {
  key = Some 0;
  primary = 0 ∷ [];
  checks = op2 (Compare Eq Binary) (col 1 0) (lit (Int (pos 1))) ∷ [];
}

abbrev pub volumes_columns : List Column
volumes_columns = key_column (codes "number") ∷ full_column (codes "name") Text ∷ full_column (codes "bytes") Integer
    ∷ full_column (codes "pool") Text ∷ full_column (codes "caps") Any ∷ full_column (codes "params") Any ∷ []

abbrev pub volumes : Table
volumes = record (bare_table (codes "volumes") volumes_columns) { key = Some 0; primary = 0 ∷ []; uniques = (2 ∷ []) ∷ []; orders = plain ∷ [] }

abbrev pub attachments_columns : List Column
attachments_columns = full_column (codes "number") Integer ∷ full_column (codes "node") Text ∷ full_column (codes "cap") Any
    ∷ full_column (codes "readonly") Integer ∷ []

abbrev pub attachments : Table
attachments = record (bare_table (codes "attachments") attachments_columns) { primary = 1 ∷ 2 ∷ []; uniques = (1 ∷ 2 ∷ []) ∷ []; orders = plain ∷ [] }

abbrev pub one_schema : Schema
one_schema = created no_schema meta

abbrev pub two_schema : Schema
two_schema = created one_schema volumes

-- meta is tree 0, volumes tree 1 with its index 2, attachments tree 3 with its index 4
abbrev pub schema : Schema
schema = created two_schema attachments
