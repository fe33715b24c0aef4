-- The constraints of bytes in a row of volumes (number, name, bytes, pool, caps, params) and of attachments
-- (rowid, number, node, cap, readonly).
use Rattle.std.specs.Prelude.{ℕ, Bool, List, Option}
use Rattle.std.specs.Option.{IsSomeAnd, option_and_then}
use Rattle.sqlite.specs.Order.{Row, column}
use Rattle.csi_types.specs.Maps.{TextMap}
use Rattle.csi_keeper.specs.Capability.{is_supported_key}
use Rattle.csi_keeper.specs.declared.capability.CapKey.{CapKey}
use Rattle.csi_sql.specs.Cells.{as_blob}
use Rattle.csi_constraints.specs.Coding.{MeansMessage, are_keys, are_params, key_in, keys_in, params_in}
use Rattle.csi_constraints.specs.Values.{is_some_and}

-- a cell has bytes that mean a message
abbrev pub SaysMessage : ℕ → Row → Type 0
SaysMessage at row = IsSomeAnd (as_blob (column row at)) MeansMessage

-- the keys that the bytes of a cell mean
abbrev pub keys_at : ℕ → Row → Option (List CapKey)
keys_at at row = option_and_then keys_in (as_blob (column row at))

-- the one key that the bytes of a cell mean
abbrev pub key_at : ℕ → Row → Option CapKey
key_at at row = option_and_then key_in (as_blob (column row at))

-- the parameters and mutable parameters that the bytes of a cell mean
abbrev pub params_at : ℕ → Row → Option (TextMap × TextMap)
params_at at row = option_and_then params_in (as_blob (column row at))

-- caps encodes capabilities: at least one, in order, each supported
abbrev pub has_caps : Row → Bool
has_caps row = is_some_and are_keys (keys_at 4 row)

-- params encodes parameters and mutable parameters, each of at most 4,096 bytes; format 1 has no mutable
-- ones
abbrev pub has_params : ℕ → Row → Bool
has_params format row = is_some_and (are_params format) (params_at 5 row)

-- cap encodes one capability, which is supported
abbrev pub has_cap : Row → Bool
has_cap row = is_some_and is_supported_key (key_at 3 row)
