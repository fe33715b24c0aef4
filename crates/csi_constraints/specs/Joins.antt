-- The constraint of an attachment with the caps of its volume, and the attachment that a row represents.
use Rattle.std.specs.Prelude.{ℕ, Bool, [], Option, None, Some}
use Rattle.sqlite.specs.Order.{Row, column}
use Rattle.csi_keeper.specs.Capability.{has_key}
use Rattle.csi_keeper.specs.declared.capability.CapKey.{CapKey}
use Rattle.csi_keeper.specs.declared.volume.Attachment.{Attachment}
use Rattle.csi_sql.specs.Cells.{as_flag}
use Rattle.csi_constraints.specs.Coded.{key_at, keys_at}
use Rattle.csi_constraints.specs.Values.{are_some_and}

-- In a row with number, node, cap and readonly, and the caps of the volume: the volume exists, and has the
-- capability.
abbrev pub is_owned : Row → Bool
is_owned row = are_some_and (λ key ks. has_key ks (Some key)) (key_at 2 row) (keys_at 4 row)

-- an attachment without a node
abbrev pub attached : CapKey → Bool → Attachment
attached key readonly = record { node = []; cap = key; readonly = readonly }

abbrev pub attached_with : Option CapKey → Option Bool → Option Attachment
attached_with (Some key) (Some readonly) = Some (attached key readonly)
attached_with (Some key) None = None
attached_with None readonly = None

-- the attachment whose cap and readonly are in two cells
abbrev pub attached_at : ℕ → ℕ → Row → Option Attachment
attached_at cap readonly row = attached_with (key_at cap row) (as_flag (column row readonly))
