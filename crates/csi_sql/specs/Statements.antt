-- The queries of the reads: the tree, the rows that pass, the columns shown of a row, and the order.
use Rattle.std.specs.Prelude.{false, [], ◌∷◌, None, List, pos, negsuc}
use Rattle.sqlite.specs.Collation.TheVariants.{Binary}
use Rattle.sqlite.specs.declared.types.Value.TheVariants.{Int}
use Rattle.sqlite.specs.Query.{Query, inner, end}
use Rattle.sqlite.specs.Term.{Term, lit, col, op1, op2}
use Rattle.sqlite_sql.specs.declared.ops.BinaryOp.TheVariants.{Compare}
use Rattle.sqlite_sql.specs.declared.ops.CompareOp.TheVariants.{Eq, Gt, Le}
use Rattle.sqlite_sql.specs.declared.ops.UnaryOp.TheVariants.{ToNumeric}
use Rattle.sqlite_value.specs.declared.keys.Key.{Key}

abbrev pub plain_query : Query
plain_query = record {
  from = inner 0 end;
  filter = [];
  group = None;
  project = [];
  distinct = false;
  collations = [];
  order = [];
  limit = lit (Int (negsuc 0));
  offset = lit (Int (pos 0));
}

abbrev pub rising : Key
rising = record { collation = Binary; descending = false }

-- number, name, bytes, pool, caps, params
abbrev pub volume_columns : List Term
volume_columns = col 1 0 ∷ col 1 2 ∷ col 1 3 ∷ col 1 4 ∷ col 1 5 ∷ col 1 6 ∷ []

-- ---- meta

abbrev pub number_query : Query
number_query = record plain_query { project = col 1 3 ∷ [] }

-- ---- volumes

abbrev pub volume_query : Query
volume_query = record plain_query { from = inner 1 end; filter = op2 (Compare Eq Binary) (col 1 0) (col 0 0) ∷ []; project = volume_columns }

abbrev pub named_query : Query
named_query = record plain_query {
  from = inner 1 end;
  filter = op2 (Compare Eq Binary) (col 1 2) (col 0 0)
      ∷ [];
  project = volume_columns;
  order = (col 1 0, rising) ∷ [];
}

abbrev pub sizes_query : Query
sizes_query = record plain_query {
  from = inner 1 end;
  filter = op2 (Compare Eq Binary) (col 1 4) (col 0 0) ∷ [];
  project = col 1 3
      ∷ [];
  order = (col 1 0, rising) ∷ [];
}

abbrev pub page_query : Query
page_query = record plain_query {
  from = inner 1 end;
  filter = op2 (Compare Gt Binary) (col 1 0) (col 0 0)
      ∷ [];
  project = volume_columns;
  order = (col 1 0, rising) ∷ [];
  limit = col 0 1;
}

-- ---- attachments: their number is no key, so the value compared with it is made a number first

abbrev pub nodes_query : Query
nodes_query = record plain_query {
  from = inner 3 end;
  filter = op2 (Compare Eq Binary) (col 1 1) (op1 ToNumeric (col 0 0)) ∷ [];
  project = col 1 2
      ∷ col 1 3 ∷ col 1 4 ∷ [];
  order = (col 1 2, rising) ∷ [];
}

abbrev pub attached_query : Query
attached_query = record plain_query {
  from = inner 3 end;
  filter = op2 (Compare Eq Binary) (col 1 2) (col 0 0) ∷ [];
  project = col 1 1
      ∷ [];
  order = (col 1 1, rising) ∷ [];
}

abbrev pub places_query : Query
places_query = record plain_query {
  from = inner 3 end;
  filter = op2 (Compare Gt Binary) (col 1 1) (op1 ToNumeric (col 0 0)) ∷ op2 (Compare Le Binary) (col 1 1) (op1 ToNumeric (col 0 1)) ∷ [];
  project = col 1 1 ∷ col 1 2 ∷ [];
  order = (col 1 1, rising) ∷ (col 1 2, rising) ∷ [];
}
