use Rattle.std.proofs.Common.{◌≡◌, List, map, take}
use Rattle.std.specs.List.{AllByRecursion}
use Rattle.csi_keeper.specs.State.{AttachmentKey}
use Rattle.csi_keeper.specs.declared.volume.Attachment.{Attachment}
use Rattle.csi_columns.specs.Entries.{node_entry}
use Rattle.csi_tables.specs.Holding.{IsPlaced}
use Rattle.csi_tables.specs.Reading.{AreReadOf, ShowsAttachment}
use Rattle.csi_tables.proofs.rows.attachments_from.Given as goal

abbrev pub invariant-loop-row : goal.invariant-loop-row
invariant-loop-row l = ((es : List (AttachmentKey × Attachment)) → AllByRecursion IsPlaced es → l.rows ≡ map node_entry es → l.attachments ≡ map (λ e. e.1) (take l.row-index es)) × AreReadOf ShowsAttachment (take l.row-index l.rows) l.attachments
