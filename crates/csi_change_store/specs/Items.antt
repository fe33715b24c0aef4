-- The models of the items of the code, wherever they are in memory.
use Rattle.csi_change_store.specs.Asking.{flag_number}
use Rattle.csi_change_store.specs.Pages.{PageItem, Meta, Volume, Attachment, Token, Skipped, VolumeColumns, AttachmentColumns, PagesRead}
use Rattle.csi_change_store.specs.declared.items.AttachmentRow.{AttachmentRow}
use Rattle.csi_change_store.specs.declared.items.PageField.{PageField}
use Rattle.csi_change_store.specs.declared.items.PageField.TheVariants as item
use Rattle.csi_change_store.specs.declared.pages.PagesRead as noted
use Rattle.csi_sql.specs.declared.statements.volumes.VolumeRow.{VolumeRow}

abbrev pub volume_columns : VolumeRow → VolumeColumns
volume_columns row = record { number = row.number; name = row.name.now; bytes = row.bytes; pool = row.pool.now; caps = row.caps.now; params = row.params.now }

abbrev pub attachment_columns : AttachmentRow → AttachmentColumns
attachment_columns row = record { number = row.number; node = row.node.now; cap = row.cap.now; readonly = flag_number row.readonly }

abbrev pub seen_item : PageField → PageItem
seen_item (item.Meta format next) = Meta (record { format = format; next = next })
seen_item (item.Volume row) = Volume (volume_columns row)
seen_item (item.Attachment row) = Attachment (attachment_columns row)
seen_item (item.Token token) = Token token.now
seen_item item.Skipped = Skipped

abbrev pub seen_notes : noted.PagesRead → PagesRead
seen_notes notes = record { token = notes.token.items; format = notes.format; has_rows = notes.has_rows }
