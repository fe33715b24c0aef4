-- The rows that the scans show of the tables: meta is tree 0, volumes tree 1, attachments tree 3.
use Rattle.std.specs.Prelude.{Bool, [], ◌∷◌, List, map, filter, flat_map, IsPermutation, IsSorted}
use Rattle.std.specs.declared.cmp.Ordering.{Ordering}
use Rattle.std.specs.Ordering.{on}
use Rattle.sqlite.specs.Order.{Row, column, value_cmp}
use Rattle.sqlite.specs.Query.{or_nulls}
use Rattle.csi_sql.specs.Rows.{seen_attachment}
use Rattle.csi_sql.specs.Deletes.{is_same}

-- SQL's order of the first column
abbrev pub first_cmp : Row → Row → Ordering
first_cmp = on (λ r. column r 0) value_cmp

-- each row once, in the order of the first column
pub record IsInOrder (seen rows : List Row) : Type 0 where
  pub same : IsPermutation seen rows
  pub sorted : IsSorted first_cmp rows

-- the row of an attachment, with its rowid in front
abbrev pub keyed_attachment : Row → Row
keyed_attachment r = column r 0 ∷ seen_attachment r

-- ---- each attachment with its volume

-- the volume is the volume of the attachment
abbrev pub owns : Row → Row → Bool
owns attachment volume = is_same (column volume 0) (column attachment 1)

-- number, node, cap and readonly of an attachment, and the caps of the volume
abbrev pub with_owner : Row → Row → Row
with_owner attachment volume = column attachment 1 ∷ column attachment 2 ∷ column attachment 3 ∷ column attachment 4 ∷ column volume 5 ∷ []

-- each attachment with its volumes, or with NULL if it has no volume
abbrev pub owners : List Row → List Row → List Row
owners attachments volumes = flat_map (λ r. map (with_owner r) (or_nulls (filter (owns r) volumes))) attachments
