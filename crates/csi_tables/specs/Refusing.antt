-- The reasons why a call over the tables is refused. Want of memory is no reason.
use Rattle.std.specs.Prelude.{◌≡◌, ◌⊎◌, ℕ, ◌≤◌, ◌^◌, ◌+◌, false, [], ◌∷◌, List, IfOk, IsErrOf, IsSome, OnErr, OnOk, Result, map}
use Rattle.std.specs.FinMap.{entries}
use Rattle.std.specs.List.{AllByRecursion}
use Rattle.sqlite.specs.Held.{Held, state}
use Rattle.sqlite.specs.State as sql
use Rattle.sqlite.specs.State.{HasCleanDisk}
use Rattle.sqlite.specs.Store.{Ghosts}
use Rattle.sqlite.specs.declared.error.Error.{Error}
use Rattle.sqlite_disk.specs.Disk.{MoreFaults}
use Rattle.sqlite_rules.specs.Lists.{Has}
use Rattle.csi_types.specs.Maps.{TextMap}
use Rattle.csi_keeper.specs.State.{State, changed}
use Rattle.csi_keeper.specs.Totals.{HasRoom, total_of}
use Rattle.csi_keeper.specs.declared.change.Change.{Change}
use Rattle.csi_keeper.specs.declared.change.Change.TheVariants.{AddVolume, RemoveVolume, Attach, Detach, DetachAll, SetMutable}
use Rattle.csi_keeper.specs.declared.totals.Totals.{Totals}
use Rattle.csi_keeper.specs.declared.volume.Attachment.{Attachment}
use Rattle.csi_keeper.specs.declared.volume.Volume.{Volume}
use Rattle.csi_sql.specs.Refusing.{RefusesAttachment, RefusesDetaching, RefusesDetachingAll, RefusesNumbered, RefusesParams, RefusesRemoval}
use Rattle.csi_sql.specs.Transactions.{LeavesNothingNew, IsUndone}
use Rattle.csi_sql.specs.Rows.{attachment_row, seen_volume, volume_row}
use Rattle.csi_columns.specs.Encoding.{caps_bytes, params_bytes, AreKnown}
use Rattle.csi_tables.specs.Holding.{IsStorable, Store, conn_doubt, conn_holds, store_doubt, store_holds, ConnFails, ConnMakes, ConnReports, StoreFails}
use Rattle.csi_columns.specs.Entries.{volume_entry}
use Rattle.csi_tables.specs.Holding.{StoreMakes}
use Rattle.csi_tables.specs.declared.fault.TablesFault.{TablesFault}
use Rattle.csi_tables.specs.declared.fault.TablesFault.TheVariants.{Refused}

-- the cause of a refusal
pub data IsRefusal (Why : Type 0) (old new : sql.State) : Type 0 where
  -- the disk failed since the call began
  by_disk : MoreFaults old.faults new.faults → IsRefusal Why old new
  -- a fault had shut the connection
  as_shut : old.is_open ≡ false → IsRefusal Why old new
  -- the connection has a limit on the steps of a statement
  at_limit : IsSome old.step_limit → IsRefusal Why old new
  -- the request is refused
  as_refused : Why → IsRefusal Why old new

-- each capability has a known mode, so that its row can be read again
pub record HasKnownModes (s : State) : Type 0 where
  pub volumes : AllByRecursion (λ e. AreKnown e.1.caps) (entries s.volumes)
  pub attachments : AllByRecursion (λ e. AreKnown (e.1.cap ∷ [])) (entries s.attachments)

-- ---- why a change is refused: SQL's rules refuse it, or a row is too big to be stored

-- the addition of a volume is also refused if the totals have no room
abbrev pub RefusesAdding : Volume → Totals → sql.State → Type 0
RefusesAdding v totals s =
    (¬ HasRoom (total_of totals v.pool) v.bytes)
    ⊎ ((e : Error) × RefusesNumbered (volume_row v.number v.name v.bytes v.pool (caps_bytes v.caps) (params_bytes v.params v.mutable)) (v.number + 1) s e)

abbrev pub RefusesRemoving : ℕ → sql.State → Type 0
RefusesRemoving n s = (e : Error) × RefusesRemoval n s e

-- an attachment is also refused if no row can have its number
abbrev pub RefusesAttaching : ℕ → Attachment → sql.State → Type 0
RefusesAttaching n a s = (2 ^ 63 ≤ n) ⊎ ((e : Error) × RefusesAttachment (attachment_row n a.node (caps_bytes (a.cap ∷ [])) a.readonly) s e)

abbrev pub RefusesDetach : ℕ → List ℕ → sql.State → Type 0
RefusesDetach n node s = (e : Error) × RefusesDetaching n node s e

abbrev pub RefusesDetachAll : ℕ → sql.State → Type 0
RefusesDetachAll n s = (e : Error) × RefusesDetachingAll n s e

-- the mutable parameters are written together with the parameters of the volume, whose row exists
abbrev pub RefusesMutable : ℕ → TextMap → sql.State → Type 0
RefusesMutable n m s = (v : Volume) × Has (map seen_volume (s.now.trees 1)) (volume_entry (n, v)) × (e : Error) × RefusesParams n (params_bytes v.params m) s e

abbrev pub RefusesChange : Change → Totals → sql.State → Type 0
RefusesChange (AddVolume v) totals s = RefusesAdding v totals s
RefusesChange (RemoveVolume n) totals s = RefusesRemoving n s
RefusesChange (Attach n a) totals s = RefusesAttaching n a s
RefusesChange (Detach n node) totals s = RefusesDetach n node s
RefusesChange (DetachAll n) totals s = RefusesDetachAll n s
RefusesChange (SetMutable n m) totals s = RefusesMutable n m s

-- ---- a call that was refused

module _ {S : Type 0} (g : Ghosts S) (old new : Held S) where
  -- the cause of a refusal, over a connection that has a State whose rows can be read again
  abbrev pub ConnRefuses : {X : Type 0} → Type 0 → Result X TablesFault → Type 0
  ConnRefuses Why r = conn_doubt g new ≡ 0 → IsErrOf r Refused → (s : State) → conn_holds g old s → HasKnownModes s → IsRefusal Why (state g old) (state g new)

  -- A read: its answer about the State, and that nothing refuses it. The committed state stays, and a stop
  -- leaves only States that it could leave before.
  pub record ConnReads {X : Type 0} (What : State → X → Type 0) (r : Result X TablesFault) : Type 0 where
    pub value : IfOk r (λ x. ConnReports g old new (λ s. What s x))
    pub refused : ConnRefuses ⊥ r
    pub undone : HasCleanDisk (state g new) → IsUndone (state g old) (state g new)
    pub survives : LeavesNothingNew g old new

  -- A change: it is made, or it fails and may be left by a stop; the reason if it is refused. The limit on
  -- steps stays.
  pub record ConnChanges {X : Type 0} (change : Change) (Why : Type 0) (r : Result X TablesFault) : Type 0 where
    pub made : OnOk r (ConnMakes g old new change)
    pub failed : OnErr r (ConnFails g old new change)
    pub refused : ConnRefuses Why r
    pub limit : new.step_limit ≡ old.step_limit

  -- a call that makes any change that changes nothing
  pub record ConnStays {X : Type 0} (r : Result X TablesFault) : Type 0 where
    pub made : OnOk r ((change : Change) → ((s : State) → IsStorable s → changed s change ≡ s) → ConnMakes g old new change)
    pub failed : OnErr r ((change : Change) → ConnFails g old new change)
    pub refused : ConnRefuses ⊥ r
    pub limit : new.step_limit ≡ old.step_limit

module _ {S : Type 0} (g : Ghosts S) (old new : Store S) where
  -- as `ConnRefuses`, for a connection with its totals
  abbrev pub StoreRefuses : {X E : Type 0} → E → Type 0 → Result X E → Type 0
  StoreRefuses refused Why r = store_doubt g new ≡ 0 → IsErrOf r refused → (s : State) → store_holds g old s → HasKnownModes s
      → IsRefusal Why (state g old.0) (state g new.0)

  -- a change, with the totals
  pub record StoreChanges {X : Type 0} (change : Change) (Why : Type 0) (r : Result X TablesFault) : Type 0 where
    pub made : OnOk r (StoreMakes g old new change)
    pub failed : OnErr r (StoreFails g old new change)
    pub refused : StoreRefuses Refused Why r
    pub limit : new.0.step_limit ≡ old.0.step_limit
