-- The tables after the items of a page are taken.
use Rattle.std.specs.Prelude.{◌≡◌, ◌≢◌, ℕ, ◌<◌, ◌==◌, true, List, [], ◌∷◌, ◌++◌, Option, Some, None, Result, IfErr, OnOk, IsTrue}
use Rattle.std.specs.String.{string_bytes}
use Rattle.sqlite.specs.Effect.{Database}
use Rattle.sqlite.specs.Held.{Held, state}
use Rattle.sqlite.specs.Order.{Row}
use Rattle.sqlite.specs.State.{State, HasCleanDisk}
use Rattle.sqlite.specs.Store.{Ghosts}
use Rattle.sqlite.specs.declared.error.Error.{Error}
use Rattle.sqlite.specs.declared.error.Error.TheVariants.{SqliteFailure}
use Rattle.sqlite.specs.declared.error.ErrorCode.TheVariants.{OutOfMemory}
use Rattle.csi_sql.specs.Failing.{FailsFor}
use Rattle.csi_sql.specs.Transactions.{KeepsCommitted, LeavesNothingNew}
use Rattle.csi_sql.specs.Refusing.{RefusesAttachment, RefusesNext, RefusesVolume}
use Rattle.csi_sql.specs.Effects.{AddsAttachment, AddsVolume, SetsNext}
use Rattle.csi_sql.specs.Rows.{attachment_row, volume_row}
use Rattle.csi_sql.specs.Tables.{schema}
use Rattle.csi_change_store.specs.declared.fault.RowsFault.{RowsFault}
use Rattle.csi_change_store.specs.declared.fault.RowsFault.TheVariants.{Malformed, Untyped, Flag, Refused, Row as RowRefused, NoMemory}
use Rattle.csi_change_store.specs.Pages.{PageItem, Meta, Volume, Attachment, Token, Skipped, VolumeColumns, AttachmentColumns, AreTyped, BeginsWith}
use Rattle.csi_change_store.specs.Pages.{HasFlag, HasTexts, IsPage, PagesRead, node_of, noted, volume_number}

-- ---- rows, as they are stored

abbrev pub kept_volume : VolumeColumns → Row
kept_volume row = volume_row row.number row.name row.bytes row.pool row.caps row.params

abbrev pub kept_attachment : AttachmentColumns → Row
kept_attachment row = attachment_row row.number row.node row.cap (row.readonly == 1)

-- ---- the rows that are put

-- The effect of an item on the tables. A row of meta sets the next number; its format is noted, and the
-- tables keep their own format.
abbrev pub Puts : PageItem → Database → Database → Type 0
Puts (Meta row) old new = SetsNext row.next old new
Puts (Volume row) old new = AddsVolume (kept_volume row) old new
Puts (Attachment row) old new = AddsAttachment (kept_attachment row) old new
Puts (Token token) old new = new ≡ old
Puts Skipped old new = new ≡ old

-- the effects of the items, in their order
abbrev pub PutsAll : List PageItem → Database → Database → Type 0
PutsAll [] old new = new ≡ old
PutsAll (item ∷ items) old new = (mid : Database) × Puts item old mid × PutsAll items mid new

-- a call inside a transaction: its effect on tables of our schema; an open connection stays open
pub record Extends (Effect : Database → Database → Type 0) (old new : State) : Type 0 where
  pub is_open : IsTrue old.is_open → IsTrue new.is_open
  pub committed : new.committed ≡ old.committed
  pub inside : new.in_transaction ≡ true
  pub effect : old.now.schema ≡ schema → Effect old.now new.now

module _ {S : Type 0} (g : Ghosts S) (old new : Held S) where
  -- the effect of a call that succeeded inside a transaction
  abbrev pub ExtendsFrom : (Database → Database → Type 0) → Type 0
  ExtendsFrom Effect = HasCleanDisk (state g new) → IsTrue old.in_transaction → Extends Effect (state g old) (state g new)

  -- nothing is committed, and a stop leaves only what it could leave before
  pub record CommitsNothing : Type 0 where
    pub kept : KeepsCommitted g old new
    pub survives : LeavesNothingNew g old new

-- ---- refusals

abbrev pub RefusesItem : PageItem → State → Error → Type 0
RefusesItem (Meta row) s e = RefusesNext row.next s e
RefusesItem (Volume row) s e = RefusesVolume (kept_volume row) s e
RefusesItem (Attachment row) s e = RefusesAttachment (kept_attachment row) s e
RefusesItem (Token token) s e = ⊥
RefusesItem Skipped s e = ⊥

-- the row of a field of the body is refused, after the rows before it were put
pub record RefusesRow (body : List ℕ) (number : Option ℕ) (s : State) (e : Error) : Type 0 where
  pub before : List PageItem
  pub item : PageItem
  pub rest : List ℕ
  pub begins : BeginsWith (before ++ item ∷ []) body rest
  pub numbered : volume_number item ≡ number
  pub db : Database
  pub puts : s.now.schema ≡ schema → PutsAll before s.now db
  pub refused : RefusesItem item (record s { now = db }) e

-- ---- faults

-- The fault of a field that gives no row that the tables can take. It is no fault of the database.
abbrev pub IsItemFault : (PageItem → Type 0) → RowsFault → Type 0
IsItemFault spelled Malformed = (item : PageItem) → spelled item → ⊥
IsItemFault spelled (Untyped number) = (item : PageItem) × spelled item × (volume_number item ≡ Some number) × (HasTexts item → ⊥)
IsItemFault spelled (Flag number node) = (item : PageItem) × spelled item × (volume_number item ≡ Some number)
    × (node_of item ≡ Some (string_bytes node)) × (HasFlag item → ⊥)
IsItemFault spelled (Refused e) = ⊥
IsItemFault spelled (RowRefused number e) = ⊥
IsItemFault spelled NoMemory = Unit {0}

-- the fault of a number that is no flag
abbrev pub IsFlagFault : ℕ → List ℕ → ℕ → RowsFault → Type 0
IsFlagFault number node readonly Malformed = ⊥
IsFlagFault number node readonly (Untyped other) = ⊥
IsFlagFault number node readonly (Flag n text) = (n ≡ number) × (string_bytes text ≡ node) × (readonly < 2 → ⊥)
IsFlagFault number node readonly (Refused e) = ⊥
IsFlagFault number node readonly (RowRefused other e) = ⊥
IsFlagFault number node readonly NoMemory = Unit {0}

-- the fault for an error of the database
abbrev pub IsFaultOf : Option ℕ → Error → RowsFault → Type 0
IsFaultOf number error Malformed = ⊥
IsFaultOf number error (Untyped n) = ⊥
IsFaultOf number error (Flag n node) = ⊥
IsFaultOf number error (Refused e) = (number ≡ None) × (e ≡ error) × (error ≢ SqliteFailure OutOfMemory)
IsFaultOf number error (RowRefused n e) = (number ≡ Some n) × (e ≡ error) × (error ≢ SqliteFailure OutOfMemory)
IsFaultOf number error NoMemory = error ≡ SqliteFailure OutOfMemory

-- a fault that comes from the database or from memory
abbrev pub IsRefusal : RowsFault → Type 0
IsRefusal Malformed = ⊥
IsRefusal (Untyped number) = ⊥
IsRefusal (Flag number node) = ⊥
IsRefusal (Refused e) = Unit {0}
IsRefusal (RowRefused number e) = Unit {0}
IsRefusal NoMemory = Unit {0}

-- the cause, if the database failed
abbrev pub FailsWith : (Option ℕ → Error → Type 0) → State → State → RowsFault → Type 0
FailsWith refuses old new Malformed = Unit {0}
FailsWith refuses old new (Untyped number) = Unit {0}
FailsWith refuses old new (Flag number node) = Unit {0}
FailsWith refuses old new (Refused e) = FailsFor (refuses None) old new e
FailsWith refuses old new (RowRefused number e) = FailsFor (refuses (Some number)) old new e
FailsWith refuses old new NoMemory = Unit {0}

-- an item is refused: the row of this volume, or the row of meta
abbrev pub IsRefusedAs : PageItem → State → Option ℕ → Error → Type 0
IsRefusedAs item s number e = (volume_number item ≡ number) × RefusesItem item s e

-- the page has a field that encodes a bad item, after fields that encode items
pub record IsFaultIn (body : List ℕ) (Bad : PageItem → Type 0) : Type 0 where
  pub before : List PageItem
  pub item : PageItem
  pub rest : List ℕ
  pub begins : BeginsWith (before ++ item ∷ []) body rest
  pub bad : Bad item

-- the fault of a page that is not taken: it encodes no items, or the tables cannot take one of its items
abbrev pub IsPageFault : List ℕ → RowsFault → Type 0
IsPageFault body Malformed = (items : List PageItem) → IsPage body items → ⊥
IsPageFault body (Untyped number) = IsFaultIn body (λ item. (volume_number item ≡ Some number) × (HasTexts item → ⊥))
IsPageFault body (Flag number node) = IsFaultIn body (λ item. (volume_number item ≡ Some number) × (node_of item ≡ Some (string_bytes node))
    × (HasFlag item → ⊥))
IsPageFault body (Refused e) = Unit {0}
IsPageFault body (RowRefused number e) = Unit {0}
IsPageFault body NoMemory = Unit {0}

module _ {S : Type 0} (g : Ghosts S) (old new : Held S) where
  -- one item is put, or refused for a cause
  pub record PutsItem (item : PageItem) (r : Result (Unit {0}) RowsFault) : Type 0 where
    pub ok : OnOk r (ExtendsFrom g old new (Puts item))
    pub failed : HasCleanDisk (state g new) → IsTrue old.in_transaction → (state g old).now.schema ≡ schema
        → IfErr r (FailsWith (IsRefusedAs item (state g old)) (state g old) (state g new))
    pub nothing : CommitsNothing g old new

  -- All items that the page encodes are put, in their order, and noted; or one of them is not put, for a
  -- cause.
  pub record TakesPage (body : List ℕ) (before after : PagesRead) (r : Result (Unit {0}) RowsFault) : Type 0 where
    pub ok : OnOk r ((items : List PageItem) × IsPage body items × AreTyped items × (after ≡ noted items before) × ExtendsFrom g old new (PutsAll items))
    pub fault : IfErr r (IsPageFault body)
    pub failed : HasCleanDisk (state g new) → IsTrue old.in_transaction → (state g old).now.schema ≡ schema
        → IfErr r (FailsWith (λ number e. RefusesRow body number (state g old) e) (state g old) (state g new))
    pub nothing : CommitsNothing g old new
