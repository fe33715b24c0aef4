-- The SELECTs of rows: their texts, their parameters, their queries, and the rows that they show.
use Rattle.std.specs.Prelude.{◌<◌, ◌^◌, ℕ, [], ◌∷◌, codes, List}
use Rattle.sqlite.specs.Effect.{Database}
use Rattle.sqlite.specs.Order.{Row}
use Rattle.sqlite.specs.Query.{Query}
use Rattle.sqlite.specs.declared.types.Value.TheVariants.{Text}
use Rattle.csi_sql.specs.Rows.{number_value}
use Rattle.csi_sql.specs.Shown.{IsBeginningOf, IsShownOf}
use Rattle.csi_sql.specs.Statements.{volume_query, named_query, sizes_query, page_query, nodes_query, attached_query, places_query}
use Rattle.csi_sql.specs.declared.statements.select.Select.{Select}
use Rattle.csi_sql.specs.declared.statements.select.Select.TheVariants.{Numbered, Named, Sizes, Page, Nodes, Attached, Places}

abbrev pub asked : Select → List ℕ
asked (Numbered number) = codes "SELECT number, name, bytes, pool, caps, params FROM volumes WHERE number = ?1"
asked (Named name) = codes "SELECT number, name, bytes, pool, caps, params FROM volumes WHERE name = ?1 ORDER BY number"
asked (Sizes pool) = codes "SELECT bytes FROM volumes WHERE pool = ?1 ORDER BY number"
asked (Page after count) = codes "SELECT number, name, bytes, pool, caps, params FROM volumes WHERE number > ?1 ORDER BY number LIMIT ?2"
asked (Nodes number) = codes "SELECT node, cap, readonly FROM attachments WHERE number = ?1 ORDER BY node"
asked (Attached node) = codes "SELECT number FROM attachments WHERE node = ?1 ORDER BY number"
asked (Places after last) = codes "SELECT number, node FROM attachments WHERE number > ?1 AND number <= ?2 ORDER BY number, node"

abbrev pub given : Select → Row
given (Numbered number) = number_value number ∷ []
given (Named name) = Text name.now ∷ []
given (Sizes pool) = Text pool.now ∷ []
given (Page after count) = number_value after ∷ number_value count ∷ []
given (Nodes number) = number_value number ∷ []
given (Attached node) = Text node.now ∷ []
given (Places after last) = number_value after ∷ number_value last ∷ []

abbrev pub query : Select → Query
query (Numbered number) = volume_query
query (Named name) = named_query
query (Sizes pool) = sizes_query
query (Page after count) = page_query
query (Nodes number) = nodes_query
query (Attached node) = attached_query
query (Places after last) = places_query

-- the numbers in the SELECT are numbers that SQL has
abbrev pub IsAsked : Select → Type 0
IsAsked (Numbered number) = number < 2 ^ 63
IsAsked (Page after count) = after < 2 ^ 63
IsAsked (Nodes number) = number < 2 ^ 63
IsAsked (Places after last) = (after < 2 ^ 63) × (last < 2 ^ 63)
IsAsked (Named name) = Unit {0}
IsAsked (Sizes pool) = Unit {0}
IsAsked (Attached node) = Unit {0}

-- the rows that each SELECT shows of the database
abbrev pub Reports : Select → Database → List Row → Type 0
Reports (Page after count) db rows = IsBeginningOf page_query (db.trees 1) (number_value after ∷ number_value count ∷ []) count rows
Reports (Numbered number) db rows = IsShownOf volume_query (db.trees 1) (number_value number ∷ []) rows
Reports (Named name) db rows = IsShownOf named_query (db.trees 1) (Text name.now ∷ []) rows
Reports (Sizes pool) db rows = IsShownOf sizes_query (db.trees 1) (Text pool.now ∷ []) rows
Reports (Nodes number) db rows = IsShownOf nodes_query (db.trees 3) (number_value number ∷ []) rows
Reports (Attached node) db rows = IsShownOf attached_query (db.trees 3) (Text node.now ∷ []) rows
Reports (Places after last) db rows = IsShownOf places_query (db.trees 3) (number_value after ∷ number_value last ∷ []) rows
