-- The rows that represent a State, and the States that a connection over them may have.
use Rattle.std.specs.Prelude.{◌≡◌, ◌⊎◌, ℕ, ◌<◌, ◌^◌, false, [], ◌∷◌, map, IsPermutation, IsTrue, IsUtf8}
use Rattle.std.specs.List.{AllByRecursion}
use Rattle.std.specs.FinMap.{empty, entries}
use Rattle.sqlite.specs.Held.{Held, state}
use Rattle.sqlite.specs.State as sql
use Rattle.sqlite.specs.State.{HasCleanDisk}
use Rattle.sqlite.specs.Store.{Ghosts}
use Rattle.sqlite.specs.Tree.{Trees}
use Rattle.sqlite.specs.View.{doubt}
use Rattle.sqlite_catalog.specs.Listing.{IsSound}
use Rattle.csi_keeper.specs.Keeper.{Fails, IsQuiet, Makes, Reports}
use Rattle.csi_keeper.specs.Model.{Model}
use Rattle.csi_keeper.specs.State.{State, AttachmentKey}
use Rattle.csi_keeper.specs.Totals.{AreTotals}
use Rattle.csi_keeper.specs.declared.change.Change.{Change}
use Rattle.csi_keeper.specs.declared.totals.Totals.{Totals}
use Rattle.csi_keeper.specs.declared.volume.Attachment.{Attachment}
use Rattle.csi_keeper.specs.declared.volume.Volume.{Volume}
use Rattle.csi_sql.specs.Tables.{schema}
use Rattle.csi_sql.specs.declared.formats.TheConstants.{FIRST_FORMAT, LATEST_FORMAT}
use Rattle.csi_sql.specs.Rows.{meta_row, seen_meta, seen_volume, seen_attachment}
use Rattle.csi_sql.specs.Effects.{AreKeyed}
use Rattle.csi_columns.specs.Encoding.{AreKnown, FitCaps, FitParams}
use Rattle.csi_columns.specs.Entries.{attachment_entry, volume_entry}
use Rattle.csi_keeper.specs.declared.health.Health.{Health}

-- ---- rows

-- a volume that a row can represent: its texts are UTF-8, because each came from a `Text`
pub record IsStored (e : ℕ × Volume) : Type 0 where
  pub number : e.1.number ≡ e.0
  pub small : e.0 < 2 ^ 63
  pub name : IsUtf8 e.1.name
  pub pool : IsUtf8 e.1.pool
  pub caps : FitCaps e.1.caps
  pub params : FitParams e.1.params e.1.mutable

-- an attachment that a row can represent
pub record IsPlaced (e : AttachmentKey × Attachment) : Type 0 where
  pub node : e.1.node ≡ e.0.1
  pub text : IsUtf8 e.0.1
  pub small : e.0.0 < 2 ^ 63
  pub cap : FitCaps (e.1.cap ∷ [])

-- a volume whose row can be read again, if there is memory: its modes are known
pub record IsReadable (e : ℕ × Volume) : Type 0 where
  pub stored : IsStored e
  pub caps : AreKnown e.1.caps

-- an attachment whose row can be read again
pub record IsReadablePlace (e : AttachmentKey × Attachment) : Type 0 where
  pub placed : IsPlaced e
  pub cap : AreKnown (e.1.cap ∷ [])

-- a State that rows can represent
pub record IsStorable (s : State) : Type 0 where
  pub volumes : AllByRecursion IsStored (entries s.volumes)
  pub attachments : AllByRecursion IsPlaced (entries s.attachments)

-- The rows that a SELECT of all columns shows of the three tables, in a format, are the rows of the State, in
-- any order.
pub record IsRowsOf (format : ℕ) (s : State) (db : Trees) : Type 0 where
  pub meta : map seen_meta (db 0) ≡ meta_row format s.next ∷ []
  pub volumes : IsPermutation (map volume_entry (entries s.volumes)) (map seen_volume (db 1))
  pub attachments : IsPermutation (map attachment_entry (entries s.attachments)) (map seen_attachment (db 3))
  -- no two rows of attachments share a rowid
  pub keyed : AreKeyed seen_attachment (db 3)
  pub storable : IsStorable s
  pub sound : IsSound schema db

-- the rows of the State in the format that is written
abbrev pub IsRows : State → Trees → Type 0
IsRows s db = IsRowsOf LATEST_FORMAT s db

-- no volume has mutable parameters
abbrev pub AreUnmodified : State → Type 0
AreUnmodified s = AllByRecursion (λ e. e.1.mutable ≡ empty) (entries s.volumes)

-- The rows in the first format, which has no mutable parameters: except for the format's number they are
-- the rows that are written for such a State.
abbrev pub IsFirstRows : State → Trees → Type 0
IsFirstRows s db = IsRowsOf FIRST_FORMAT s db × AreUnmodified s

-- the rows of the State in either format
abbrev pub IsEitherRows : State → Trees → Type 0
IsEitherRows s db = IsFirstRows s db ⊎ IsRows s db

-- a format that is read
abbrev pub IsFormat : ℕ → Type 0
IsFormat format = (format ≡ FIRST_FORMAT) ⊎ (format ≡ LATEST_FORMAT)

-- the rows of the State in a format, given by its number
abbrev pub IsRowsIn : ℕ → State → Trees → Type 0
IsRowsIn format s db = IsRowsOf format s db × (format ≡ FIRST_FORMAT → AreUnmodified s)

-- ---- a connection

-- an open connection shows this State between its transactions
pub record Shows (now : sql.State) (s : State) : Type 0 where
  pub schema : now.now.schema ≡ schema
  pub settled : now.now ≡ now.committed
  pub rows : IsRows s now.now.trees

-- the connection may have this State; nothing is stated for a connection that a fault has shut
abbrev pub Holds : sql.State → State → Type 0
Holds now s = IsTrue now.is_open → Shows now s

-- the States that a stop may leave
abbrev pub Survivors : sql.State → State → Type 0
Survivors now s = (db : Trees) × now.may_leave db × IsRows s db

-- each database that a stop may leave represents a State
abbrev pub Ties : sql.State → Type 0
Ties now = HasCleanDisk now → (db : Trees) → now.may_leave db → (s : State) × IsRows s db

module _ {S : Type 0} (g : Ghosts S) where
  abbrev pub conn_holds : Held S → State → Type 0
  conn_holds h s = Holds (state g h) s

  -- 0 while the disk has returned the bytes written to it
  abbrev pub conn_doubt : Held S → ℕ
  conn_doubt h = doubt (state g h).is_clean

  abbrev pub conn_survivors : Held S → State → Type 0
  conn_survivors h s = Survivors (state g h) s

  abbrev pub conn_tied : Held S → Type 0
  conn_tied h = Ties (state g h)

  -- the model of a connection; the layer above counts refusals, and knows whether it is down
  abbrev pub conn_model : Held S → Model State
  conn_model h = record { holds = conn_holds h; doubt = conn_doubt h; refusals = 0; survivors = conn_survivors h; tied = conn_tied h; is_down = false }

-- ---- a connection, and the totals that are kept with it

abbrev pub Store : Type 0 → Type 0
Store S = Held S × Totals

module _ {S : Type 0} (g : Ghosts S) where
  -- also after the connection is shut, the totals are the totals of the State, and rows can represent the
  -- State
  abbrev pub store_holds : Store S → State → Type 0
  store_holds t s = conn_holds g t.0 s × AreTotals t.1 s × IsStorable s

  abbrev pub store_doubt : Store S → ℕ
  store_doubt t = conn_doubt g t.0

  abbrev pub store_survivors : Store S → State → Type 0
  store_survivors t s = conn_survivors g t.0 s

  abbrev pub store_tied : Store S → Type 0
  store_tied t = conn_tied g t.0

  -- the model of a connection with its totals and with the counts of calls
  abbrev pub model_with : Store S → Health → Model State
  model_with t health = record {
    holds = store_holds t;
    doubt = store_doubt t;
    refusals = health.refusals;
    survivors = store_survivors t;
    tied = store_tied t;
    is_down = health.is_down;
  }

  -- the model if nothing is counted
  abbrev pub store_model : Store S → Model State
  store_model t = model_with t (record { refusals = 0; is_down = false })

module _ {S : Type 0} (g : Ghosts S) (old new : Held S) where
  -- the answer of a read holds for each State that the connection may have
  abbrev pub ConnReports : (State → Type 0) → Type 0
  ConnReports P = Reports (conn_model g old) (conn_model g new) P

  abbrev pub ConnIsQuiet : Type 0
  ConnIsQuiet = IsQuiet (conn_model g old) (conn_model g new)

  abbrev pub ConnMakes : Change → Type 0
  ConnMakes change = Makes (conn_model g old) (conn_model g new) change

  abbrev pub ConnFails : Change → Type 0
  ConnFails change = Fails (conn_model g old) (conn_model g new) change

module _ {S : Type 0} (g : Ghosts S) (old new : Store S) where
  abbrev pub StoreMakes : Change → Type 0
  StoreMakes change = Makes (store_model g old) (store_model g new) change

  abbrev pub StoreFails : Change → Type 0
  StoreFails change = Fails (store_model g old) (store_model g new) change
