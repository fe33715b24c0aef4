-- The constraints of a row of attachments on its text and its flag: rowid, number, node, cap, readonly.
use Rattle.std.specs.Prelude.{ℕ, Bool, List}
use Rattle.std.specs.List.{list_any}
use Rattle.std.specs.Option.{is_some}
use Rattle.sqlite.specs.Order.{Row, column}
use Rattle.csi_types.specs.Maps.{same_text}
use Rattle.csi_config.specs.declared.nodes.Node.{Node}
use Rattle.csi_sql.specs.Cells.{as_flag, as_text}
use Rattle.csi_constraints.specs.Values.{is_some_and}

-- readonly is 0 or 1
abbrev pub has_flag : Row → Bool
has_flag row = is_some (as_flag (column row 4))

-- a node of the configuration has the id
abbrev pub is_node : List Node → List ℕ → Bool
is_node nodes id = list_any (λ m. same_text m.id id) nodes

-- the node is one of the configuration
abbrev pub is_at_node : List Node → Row → Bool
is_at_node nodes row = is_some_and (is_node nodes) (as_text (column row 2))
