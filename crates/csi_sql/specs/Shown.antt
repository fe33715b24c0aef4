-- The rows that a SELECT over one table shows.
use Rattle.std.specs.Prelude.{◌≡◌, ℕ, List, [], ◌∷◌, ◌-◌, Option, length, map, filter, take, slice_get, option_and_then, unwrap_or, IsPermutation, IsSorted}
use Rattle.std.specs.List.{list_all}
use Rattle.sqlite.specs.Effect.{Database}
use Rattle.sqlite.specs.Order.{Row, column}
use Rattle.sqlite.specs.Query.{Query, Output, output, output_cmp}
use Rattle.sqlite.specs.Term.{holds}
use Rattle.sqlite_rules.specs.Lists.{Has}
use Rattle.csi_sql.specs.Cells.{as_number}
use Rattle.csi_sql.specs.Rows.{number_value}
use Rattle.csi_sql.specs.Statements.{page_query, places_query}

-- the shown columns of each row that passes, in an order that ORDER BY allows; LIMIT is ignored
pub record IsShownOf (q : Query) (rows : List Row) (params : Row) (shown : List Row) : Type 0 where
  pub ordered : List Output
  pub same : IsPermutation (map (λ r. output q (params ∷ r ∷ [])) (filter (λ r. list_all (holds (params ∷ r ∷ [])) q.filter) rows)) ordered
  pub sorted : IsSorted (output_cmp q) ordered
  pub shown_is : shown ≡ map (λ (o : Output). o.1) ordered

-- the first row that the SELECT shows, if there is one
abbrev pub IsFoundBy : Query → List Row → Row → Option Row → Type 0
IsFoundBy q rows params found = (shown : List Row) × IsShownOf q rows params shown × (found ≡ slice_get shown 0)

-- the first rows that the SELECT shows, at most `count`
abbrev pub IsBeginningOf : Query → List Row → Row → ℕ → List Row → Type 0
IsBeginningOf q rows params count shown = (all : List Row) × IsShownOf q rows params all × (shown ≡ take count all)

-- a page of volumes: the volumes with a greater number
abbrev pub IsPage : ℕ → ℕ → Database → List Row → Type 0
IsPage after count db shown = IsBeginningOf page_query (db.trees 1) (number_value after ∷ number_value count ∷ []) count shown

-- the number in the last row, or the given number if there is no row
abbrev pub last_number : ℕ → List Row → ℕ
last_number n rows = unwrap_or (option_and_then (λ r. as_number (column r 0)) (slice_get rows (length rows - 1))) n

-- a page, and the number and the node of each attachment of its volumes
pub record IsPageWithNodes (after count : ℕ) (db : Database) (volumes places : List Row) : Type 0 where
  pub shown : IsPage after count db volumes
  pub placed : IsShownOf places_query (db.trees 3) (number_value after ∷ number_value (last_number after volumes) ∷ []) places

-- the row has one value: the next number of a row of meta, for every format
abbrev pub IsNext : Database → Row → Type 0
IsNext db row = (kept : Row) × Has (db.trees 0) kept × (row ≡ column kept 3 ∷ [])
