-- Volumes and attachments as the rows that represent them.
use Rattle.std.specs.Prelude.{ℕ, [], ◌∷◌}
use Rattle.sqlite.specs.Order.{Row}
use Rattle.sqlite.specs.declared.types.Value.TheVariants.{Text, Blob}
use Rattle.csi_keeper.specs.State.{AttachmentKey}
use Rattle.csi_keeper.specs.declared.volume.Attachment.{Attachment}
use Rattle.csi_keeper.specs.declared.volume.Volume.{Volume}
use Rattle.csi_sql.specs.Rows.{number_value, bool_value}
use Rattle.csi_columns.specs.Encoding.{caps_bytes, params_bytes}

-- number, name, bytes, pool, caps, and both kinds of parameters
abbrev pub volume_entry : ℕ × Volume → Row
volume_entry e = number_value e.0 ∷ Text e.1.name ∷ number_value e.1.bytes ∷ Text e.1.pool ∷ Blob (caps_bytes e.1.caps)
    ∷ Blob (params_bytes e.1.params e.1.mutable) ∷ []

-- number, node, cap, readonly
abbrev pub attachment_entry : AttachmentKey × Attachment → Row
attachment_entry e = number_value e.0.0 ∷ Text e.0.1 ∷ Blob (caps_bytes (e.1.cap ∷ [])) ∷ bool_value e.1.readonly ∷ []

-- the columns shown for an attachment of a volume: node, cap, readonly
abbrev pub node_entry : AttachmentKey × Attachment → Row
node_entry e = Text e.0.1 ∷ Blob (caps_bytes (e.1.cap ∷ [])) ∷ bool_value e.1.readonly ∷ []
