-- The constraints of a row of volumes on its numbers and texts: number, name, bytes, pool, caps,
-- params.
use Rattle.std.specs.Prelude.{ℕ, nat_lt, nat_le, ◌&&◌, Bool, List}
use Rattle.std.specs.List.{list_any}
use Rattle.std.specs.Option.{is_none}
use Rattle.std.specs.Str.{is_utf8}
use Rattle.sqlite.specs.Order.{Row, column}
use Rattle.csi_types.specs.Maps.{same_text}
use Rattle.csi_types.specs.Names.{refused_name}
use Rattle.csi_config.specs.Faults.{is_whole}
use Rattle.csi_config.specs.declared.pools.Pool.{Pool}
use Rattle.csi_sql.specs.Cells.{as_number, as_text}
use Rattle.csi_constraints.specs.Values.{is_some_and}

-- the number is at least 1, and below the next number
abbrev pub is_numbered : ℕ → Row → Bool
is_numbered next row = is_some_and (λ n. nat_le 1 n && nat_lt n next) (as_number (column row 0))

-- a text in UTF-8 that no constraint of names refuses
abbrev pub is_name : List ℕ → Bool
is_name text = is_utf8 text && is_none (refused_name text)

-- the name is not refused
abbrev pub is_named : Row → Bool
is_named row = is_some_and is_name (as_text (column row 1))

-- the size is a positive multiple of 1 MiB
abbrev pub is_sized : Row → Bool
is_sized row = is_some_and is_whole (as_number (column row 2))

-- a pool of the configuration has the name
abbrev pub is_pool : List Pool → List ℕ → Bool
is_pool pools name = list_any (λ p. same_text p.name name) pools

-- the pool is one of the configuration
abbrev pub is_in_pools : List Pool → Row → Bool
is_in_pools pools row = is_some_and (is_pool pools) (as_text (column row 3))
