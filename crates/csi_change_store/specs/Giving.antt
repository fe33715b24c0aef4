-- The rows of pages as the rows of a State.
use Rattle.std.specs.Prelude.{◌≡◌, ℕ, List, [], ◌∷◌, map, IsPermutation}
use Rattle.std.specs.FinMap.{entries}
use Rattle.sqlite.specs.Effect.{Database}
use Rattle.sqlite.specs.Order.{Row}
use Rattle.csi_keeper.specs.State.{State}
use Rattle.csi_sql.specs.Making.{MakesTables}
use Rattle.csi_sql.specs.Rows.{seen_volume}
use Rattle.csi_columns.specs.Entries.{attachment_entry, volume_entry}
use Rattle.csi_tables.specs.Holding.{IsRows, IsStorable}
use Rattle.csi_change_store.specs.Pages.{PageItem, Meta, Volume, Attachment, Token, Skipped, VolumeColumns, AttachmentColumns}
use Rattle.csi_change_store.specs.Taking.{PutsAll, kept_attachment, kept_volume}

abbrev pub volumes_in : List PageItem → List VolumeColumns
volumes_in [] = []
volumes_in (Meta row ∷ items) = volumes_in items
volumes_in (Volume row ∷ items) = row ∷ volumes_in items
volumes_in (Attachment row ∷ items) = volumes_in items
volumes_in (Token token ∷ items) = volumes_in items
volumes_in (Skipped ∷ items) = volumes_in items

abbrev pub attachments_in : List PageItem → List AttachmentColumns
attachments_in [] = []
attachments_in (Meta row ∷ items) = attachments_in items
attachments_in (Volume row ∷ items) = attachments_in items
attachments_in (Attachment row ∷ items) = row ∷ attachments_in items
attachments_in (Token token ∷ items) = attachments_in items
attachments_in (Skipped ∷ items) = attachments_in items

-- the next number in the last row of meta; without such a row the given number
abbrev pub next_in : ℕ → List PageItem → ℕ
next_in next [] = next
next_in next (Meta row ∷ items) = next_in row.next items
next_in next (Volume row ∷ items) = next_in next items
next_in next (Attachment row ∷ items) = next_in next items
next_in next (Token token ∷ items) = next_in next items
next_in next (Skipped ∷ items) = next_in next items

-- the row that a SELECT of all columns shows of a volume
abbrev pub shown_volume : VolumeColumns → Row
shown_volume row = seen_volume (kept_volume row)

-- The rows of the items are the rows of the State, in any order. New tables have 1 as their next number.
pub record Gives (items : List PageItem) (s : State) : Type 0 where
  pub next : next_in 1 items ≡ s.next
  pub volumes : IsPermutation (map volume_entry (entries s.volumes)) (map shown_volume (volumes_in items))
  pub attachments : IsPermutation (map attachment_entry (entries s.attachments)) (map kept_attachment (attachments_in items))
  pub storable : IsStorable s

-- new tables with these rows are the tables of the State
abbrev pub GivesRows : Type 0
GivesRows = (items : List PageItem) (old made new : Database) (s : State) → MakesTables old made → PutsAll items made new → Gives items s → IsRows s new.trees
