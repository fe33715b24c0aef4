-- The contents of a page of rows: docs/PROTOCOL.md, "The change store" (own). The fields of a page are read
-- in order: field 1 is the row of meta, 2 a row of volumes, 3 a row of attachments, and 4 the token of the
-- next page.
use Rattle.std.specs.Prelude.{◌≡◌, ℕ, ◌<◌, ◌^◌, ◌==◌, Bool, true, false, List, [], ◌∷◌, Option, Some, None, Ok, IsUtf8, slice_get, unwrap_or, nat_lt}
use Rattle.std.specs.Prelude.{if◌then◌else◌}
use Rattle.std.specs.List.{AllByRecursion, list_all}
use Rattle.std.specs.Option.{option_map_or}
use Rattle.pbwire.specs.Wire.{WireField, Part, Number, Eight, Payload, Four, AreFields}
use Rattle.pbwire.specs.Reading.{field_at}
use Rattle.csi_change_store.specs.Asking.{bytes_field}
use Rattle.csi_change_store.specs.declared.cells.CellKind.{CellKind}
use Rattle.csi_change_store.specs.declared.cells.CellKind.TheVariants.{Skipped as Unused, Integer, Bytes}

-- ---- the fields of a row

-- A column of the kind can hold the part. Numbers in rows are below 2^63.
abbrev pub can_hold : CellKind → Part → Bool
can_hold Unused part = true
can_hold Integer (Number n) = nat_lt n (2 ^ 63)
can_hold Integer (Eight bytes) = false
can_hold Integer (Payload bytes) = false
can_hold Integer (Four bytes) = false
can_hold Bytes (Number n) = false
can_hold Bytes (Eight bytes) = false
can_hold Bytes (Payload bytes) = true
can_hold Bytes (Four bytes) = false

-- The list of kinds has a place for each field number, from 0 on, which no field has. A field without a
-- column is skipped.
abbrev pub is_cell : List CellKind → WireField → Bool
is_cell kinds e = option_map_or (λ kind. can_hold kind e.part) (slice_get kinds e.number) true

abbrev pub AreCells : List CellKind → List WireField → Type 0
AreCells kinds es = list_all (is_cell kinds) es ≡ true

abbrev pub number_in : Part → Option ℕ
number_in (Number n) = Some n
number_in (Eight bytes) = None
number_in (Payload bytes) = None
number_in (Four bytes) = None

abbrev pub bytes_in : Part → Option (List ℕ)
bytes_in (Number n) = None
bytes_in (Eight bytes) = None
bytes_in (Payload bytes) = Some bytes
bytes_in (Four bytes) = None

-- the value after one more field: if several fields have the number, the last one counts
abbrev pub with_field : {X : Type 0} → (Part → Option X) → ℕ → WireField → X → X
with_field value number e was = if e.number == number then unwrap_or (value e.part) was else was

abbrev pub last : {X : Type 0} → (Part → Option X) → ℕ → X → List WireField → X
last value number was [] = was
last value number was (e ∷ es) = last value number (with_field value number e was) es

-- a column without a field is 0, or empty
abbrev pub number_at : ℕ → List WireField → ℕ
number_at number es = last number_in number 0 es

abbrev pub bytes_at : ℕ → List WireField → List ℕ
bytes_at number es = last bytes_in number [] es

-- ---- rows

pub record MetaColumns : Type 0 where
  pub format : ℕ
  pub next : ℕ

pub record VolumeColumns : Type 0 where
  pub number : ℕ
  pub name : List ℕ
  pub bytes : ℕ
  pub pool : List ℕ
  pub caps : List ℕ
  pub params : List ℕ

pub record AttachmentColumns : Type 0 where
  pub number : ℕ
  pub node : List ℕ
  pub cap : List ℕ
  pub readonly : ℕ

abbrev pub meta_kinds : List CellKind
meta_kinds = Unused ∷ Integer ∷ Integer ∷ []

abbrev pub volume_kinds : List CellKind
volume_kinds = Unused ∷ Integer ∷ Bytes ∷ Integer ∷ Bytes ∷ Bytes ∷ Bytes ∷ []

abbrev pub attachment_kinds : List CellKind
attachment_kinds = Unused ∷ Integer ∷ Bytes ∷ Bytes ∷ Integer ∷ []

abbrev pub meta_of : List WireField → MetaColumns
meta_of es = record { format = number_at 1 es; next = number_at 2 es }

abbrev pub volume_of : List WireField → VolumeColumns
volume_of es = record {
  number = number_at 1 es;
  name = bytes_at 2 es;
  bytes = number_at 3 es;
  pool = bytes_at 4 es;
  caps = bytes_at 5 es;
  params = bytes_at 6 es;
}

abbrev pub attachment_of : List WireField → AttachmentColumns
attachment_of es = record { number = number_at 1 es; node = bytes_at 2 es; cap = bytes_at 3 es; readonly = number_at 4 es }

-- the payload encodes the row
abbrev pub IsSpelled : {Columns : Type 0} → List CellKind → (List WireField → Columns) → List ℕ → Columns → Type 0
IsSpelled kinds columns_of payload columns = (es : List WireField) × AreFields es payload × AreCells kinds es × (columns ≡ columns_of es)

-- ---- pages

-- the item that one field of a page encodes
pub data PageItem : Type 0 where
  Meta : MetaColumns → PageItem
  Volume : VolumeColumns → PageItem
  Attachment : AttachmentColumns → PageItem
  Token : List ℕ → PageItem
  Skipped : PageItem

abbrev pub IsItem : WireField → PageItem → Type 0
IsItem e (Meta row) = (payload : List ℕ) × (e ≡ bytes_field 1 payload) × IsSpelled meta_kinds meta_of payload row
IsItem e (Volume row) = (payload : List ℕ) × (e ≡ bytes_field 2 payload) × IsSpelled volume_kinds volume_of payload row
IsItem e (Attachment row) = (payload : List ℕ) × (e ≡ bytes_field 3 payload) × IsSpelled attachment_kinds attachment_of payload row
IsItem e (Token token) = e ≡ bytes_field 4 token
IsItem e Skipped = 4 < e.number

-- the bytes begin with the fields of these items, and the rest follows
abbrev pub BeginsWith : List PageItem → List ℕ → List ℕ → Type 0
BeginsWith [] bytes rest = bytes ≡ rest
BeginsWith (item ∷ items) bytes rest = (e : WireField) × (more : List ℕ) × (field_at bytes ≡ Ok (e, more)) × IsItem e item × BeginsWith items more rest

-- the body of a reply encodes these items
abbrev pub IsPage : List ℕ → List PageItem → Type 0
IsPage body items = BeginsWith items body []

-- ---- items that the tables can take

-- the texts are UTF-8
abbrev pub HasTexts : PageItem → Type 0
HasTexts (Meta row) = Unit {0}
HasTexts (Volume row) = IsUtf8 row.name × IsUtf8 row.pool
HasTexts (Attachment row) = IsUtf8 row.node
HasTexts (Token token) = Unit {0}
HasTexts Skipped = Unit {0}

-- a flag is 0 or 1
abbrev pub HasFlag : PageItem → Type 0
HasFlag (Meta row) = Unit {0}
HasFlag (Volume row) = Unit {0}
HasFlag (Attachment row) = row.readonly < 2
HasFlag (Token token) = Unit {0}
HasFlag Skipped = Unit {0}

abbrev pub IsTyped : PageItem → Type 0
IsTyped item = HasTexts item × HasFlag item

-- the numbers fit in SQL's integers
abbrev pub IsSmall : PageItem → Type 0
IsSmall (Meta row) = row.next < 2 ^ 63
IsSmall (Volume row) = (row.number < 2 ^ 63) × (row.bytes < 2 ^ 63)
IsSmall (Attachment row) = row.number < 2 ^ 63
IsSmall (Token token) = Unit {0}
IsSmall Skipped = Unit {0}

-- the number of a row's volume
abbrev pub volume_number : PageItem → Option ℕ
volume_number (Meta row) = None
volume_number (Volume row) = Some row.number
volume_number (Attachment row) = Some row.number
volume_number (Token token) = None
volume_number Skipped = None

abbrev pub node_of : PageItem → Option (List ℕ)
node_of (Meta row) = None
node_of (Volume row) = None
node_of (Attachment row) = Some row.node
node_of (Token token) = None
node_of Skipped = None

abbrev pub AreTyped : List PageItem → Type 0
AreTyped items = AllByRecursion IsTyped items

-- ---- notes of the items in addition to their rows

pub record PagesRead : Type 0 where
  -- the token of the next page, which is empty after the last one
  pub token : List ℕ
  -- the format of the row of meta, if there was one
  pub format : Option ℕ
  -- true if there was a row of volumes or of attachments
  pub has_rows : Bool

abbrev pub with_item : PageItem → PagesRead → PagesRead
with_item (Meta row) notes = record notes { format = Some row.format }
with_item (Volume row) notes = record notes { has_rows = true }
with_item (Attachment row) notes = record notes { has_rows = true }
with_item (Token token) notes = record notes { token = token }
with_item Skipped notes = notes

abbrev pub noted : List PageItem → PagesRead → PagesRead
noted [] notes = notes
noted (item ∷ items) notes = noted items (with_item item notes)
