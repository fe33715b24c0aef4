-- Calls over two files, and the files after a run that did not close them.
use Rattle.std.specs.Prelude.{◌≡◌, ◌⊎◌, ◌↔◌, ◌<◌, ℕ, Bool, true, false, List, [], Option, Result, Ok, Err, IsTrue, ⊤}
use Rattle.std.specs.Io.KnownBytes.{Consumes, IsAtEnd}
use Rattle.sqlite_disk.specs.declared.Disk as disk
use Rattle.sqlite_disk.specs.declared.Files.{Files}
use Rattle.sqlite_wal.specs.Files.{outcomes}
use Rattle.sqlite_wal.specs.Reads.{AreClean}
use Rattle.sqlite_wal.specs.Recovery.{Image}
use Rattle.sqlite_trees.specs.declared.error.StoreError.{StoreError}
use Rattle.sqlite_store.specs.declared.store.FileStore.{FileStore}
use Rattle.sqlite.specs.Files.{FailsToOpenFiles, HoldsDatabase, IsCleanLeft, IsOpened, LeavesFiles, file_state}
use Rattle.sqlite.specs.Held.{Held}
use Rattle.sqlite.specs.Start.{FindsIn}
use Rattle.sqlite.specs.Effect.{Database, IsDatabase}
use Rattle.sqlite.specs.State.{HasCleanDisk, store_error}
use Rattle.sqlite.specs.declared.error.Error.{Error}
use Rattle.sqlite.specs.declared.file.Leftover.{Leftover}
use Rattle.csi_config.specs.declared.config.Config.{Config}
use Rattle.csi_keeper.specs.Invariant.{IsInvariant}
use Rattle.csi_keeper.specs.Model.{Model}
use Rattle.csi_keeper.specs.State.{State, first_state}
use Rattle.csi_keeper.specs.declared.change.StoreFault.TheVariants as Fault
use Rattle.csi_sql.specs.Tables.{no_schema}
use Rattle.csi_adoption.specs.Adopting.{IsStateOf}
use Rattle.csi_adoption.specs.Faults.{is_failure}
use Rattle.csi_adoption.specs.declared.fault.AdoptFault.{AdoptFault}
use Rattle.csi_adoption.specs.declared.fault.AdoptFault.TheVariants.{Foreign}
use Rattle.csi_adoption.specs.declared.fault.Foreign.TheVariants as foreign
use Rattle.csi_adoption.specs.Judging.{IsFaultOf}
use Rattle.csi_server.specs.Machine.{Event, Machine, state_after}
use Rattle.csi_server.specs.Serving.{Ended}
use Rattle.csi_server.specs.Volumes.{IsPending, volumes}
use Rattle.csi_server.specs.declared.end.RunEnd.{RunEnd}
use Rattle.csi_server.specs.declared.end.RunEnd.TheVariants.{Done, Malformed, ReadFailed, TurnsSpent, WriteFailed, NoMemory}
use Rattle.csi_files.specs.Files.{HasState, IsStateIn, image_model}
use Rattle.csi_files.specs.Streams.{AreUntouched, Streams}
use Rattle.csi_files.specs.declared.run.Refusal.{Refusal}
use Rattle.csi_files.specs.declared.run.Refusal.TheVariants.{Blank, NotAdopted, NotCopied}
use Rattle.csi_files.specs.declared.run.RunReport.{RunReport}
use Rattle.csi_files.specs.declared.run.Closed.{Closed}
use Rattle.csi_files.specs.declared.run.RunFailure.{RunFailure}
use Rattle.csi_files.specs.declared.run.RunFailure.TheVariants.{NoFiles, NotOpened, Refused, Left, NotClosed}

-- the calls that a run answered, by the way it ended
abbrev pub events_of : {S : Type 0} (m : Machine S) (old new : Model S) (s : S) (read : List ℕ) (AtEnd : Type 0) (held holds : Option (List ℕ)) (end : RunEnd)
    → Ended m old new s read AtEnd held holds end → List Event
events_of m old new s read AtEnd held holds Done it = it.0.events
events_of m old new s read AtEnd held holds (Malformed f) it = it.0.events
events_of m old new s read AtEnd held holds ReadFailed it = it.events
events_of m old new s read AtEnd held holds TurnsSpent it = it.0.events
events_of m old new s read AtEnd held holds WriteFailed it = it.events
events_of m old new s read AtEnd held holds NoMemory it = []

-- the store refused a call, or is down
abbrev pub HasRefused : RunReport → Type 0
HasRefused served = IsTrue served.is_down ⊎ (0 < served.refusals)

-- the store refused no call, and is not down
abbrev pub HasRefusedNone : RunReport → Type 0
HasRefusedNone served = (served.refusals ≡ 0) × (served.is_down ≡ false)

-- the model of a store that says only how many calls the store refused, and whether it is down
abbrev pub counts_model : ℕ → Bool → Model State
counts_model refusals is_down = record { holds = λ _. ⊤; doubt = 0; refusals = refusals; survivors = λ _. ⊥; tied = ⊤; is_down = is_down }

-- The State after these calls, or the State that a refused call among them would have made. The request of
-- that call was read and passed the checks, and no later call changed the State. The State meets the
-- invariant.
pub record IsStateAfter (config : Config) (s : State) (events : List Event) (t : State) : Type 0 where
  pub is : (t ≡ state_after (volumes config) s events) ⊎ IsPending config s events t
  pub invariant : IsInvariant config t

-- the run reports `is_new` exactly if the database that the files had is without tables
abbrev pub SaysNew : Image → RunReport → Type 0
SaysNew was served = (db : Database) → ∥ HoldsDatabase was db.trees ∥₁ → IsDatabase db → IsTrue served.is_new ↔ (db.schema ≡ no_schema)

-- if the files had a database, it was a database of a State that meets every constraint
abbrev pub WasTaken : Config → Image → Type 0
WasTaken config was = (db : Database) → ∥ HoldsDatabase was db.trees ∥₁ → IsDatabase db → ∥ ((s : State) × IsStateOf db s × IsInvariant config s) ∥₁

module _ {D : Type 0} (g : disk.Ghosts D) where
  -- each outcome of a crash has the State that the files had
  abbrev pub Keeps : Image → Files D → Type 0
  Keeps was now = AreClean g now.log now.db → (s : State) → HasState was s → (image : Image) → outcomes g now.log now.db image → ∥ HasState image s ∥₁

  -- each outcome of a crash has the database that the files had, or the State of this database
  abbrev pub KeepsDatabase : Image → Files D → Type 0
  KeepsDatabase was now = AreClean g now.log now.db → (db : Database) → ∥ HoldsDatabase was db.trees ∥₁ → IsDatabase db → (image : Image)
      → outcomes g now.log now.db image
      → ∥ (HoldsDatabase image db.trees ⊎ ((s : State) × IsStateIn db.trees s × HasState image s)) ∥₁

  -- The database of the files has no table. The files keep what they had: the first State alone.
  pub record HasNone (was : Image) (now : Files D) : Type 0 where
    pub state : Keeps was now
    pub database : KeepsDatabase was now
    pub none : AreClean g now.log now.db → (db : Database) → ∥ HoldsDatabase was db.trees ∥₁ → IsDatabase db → db.schema ≡ no_schema
    pub first : AreClean g now.log now.db → (s : State) → HasState was s → s ≡ first_state 1

  -- Tables that are not adopted. The files keep what they had. Rows of a State that meets every constraint
  -- are refused only if the disk or memory failed. Any other fault is the first fault of the database. If the
  -- store shut itself, no row is judged, and the fault may be `Foreign::Schema`.
  pub record Refuses (config : Config) (was : Image) (fault : AdoptFault) (now : Files D) : Type 0 where
    pub state : Keeps was now
    pub database : KeepsDatabase was now
    pub sound : AreClean g now.log now.db → (s : State) → HasState was s → IsInvariant config s → (is_failure fault ≡ true) ⊎ (fault ≡ Foreign foreign.Schema)
    pub first : AreClean g now.log now.db → (db : Database) → ∥ HoldsDatabase was db.trees ∥₁ → IsDatabase db → is_failure fault ≡ false
        → IsFaultOf config db fault ⊎ (fault ≡ Foreign foreign.Schema)

  -- each outcome of a crash has the State after the calls, or the State that a refused call would have made
  abbrev pub LeavesAfter : Config → Files D → State → List Event → Type 0
  LeavesAfter config now s events = (image : Image) → outcomes g now.log now.db image → ∥ ((t : State) × HasState image t × IsStateAfter config s events t) ∥₁

module _ (config : Config) (bytes : Streams) where
  -- Calls were served, from any State that meets `Starts`. `New` is true of the database before the calls,
  -- and `Leaves` of the files after them.
  pub record RunsThen (Starts : State → Type 0) (served : RunReport) (Clean New : Type 0) (Leaves : State → List Event → Type 0) : Type 0 where
    pub read : List ℕ
    pub consumed : Consumes bytes.unread bytes.left read
    pub new : Clean → New
    pub ended : Clean → (s : State) → Starts s
        → (run : Ended (volumes config) (counts_model 0 false) (counts_model served.refusals served.is_down) s read
        (IsAtEnd bytes.left) bytes.held bytes.holds served.end)
        × IsInvariant config s
        × Leaves s (events_of (volumes config) (counts_model 0 false) (counts_model served.refusals served.is_down) s read
        (IsAtEnd bytes.left) bytes.held bytes.holds served.end run)

-- calls were served from the State of files with these contents
abbrev pub ServesThen : Config → Image → Streams → RunReport → Type 0
    → (State → List Event → Type 0) → Type 0
ServesThen config was bytes served Clean Leaves = RunsThen config bytes
    (image_model was served.is_new).holds served Clean (SaysNew was served × WasTaken config was) Leaves

module _ {D : Type 0} (g : disk.Ghosts D) where
  -- the database of files with these contents was refused for this reason; `now` are the files after that
  abbrev pub IsRefusal : Config → Image → Refusal → Files D → Type 0
  IsRefusal config was Blank now = HasNone g was now
  IsRefusal config was (NotAdopted fault) now = Refuses g config was fault now
  IsRefusal config was (NotCopied fault) now = Keeps g was now × (fault ≡ Fault.Refused) × (AreClean g now.log now.db → WasTaken config was)

  -- the failure of a run over files with these contents: the files were not closed after calls; the case of
  -- files that were not opened is a parameter
  abbrev pub IsNotServed : Config → Image → Streams → (Error → Leftover D g → Type 0) → RunFailure D g → Type 0
  IsNotServed config was bytes Unopened (NoFiles error) = ⊥
  IsNotServed config was bytes Unopened (NotOpened error rest) = Unopened error rest
  IsNotServed config was bytes Unopened (Refused refusal now) = AreUntouched bytes × IsRefusal config was refusal now
  IsNotServed config was bytes Unopened (Left served now) = HasRefused served
      × ServesThen config was bytes served (AreClean g now.log now.db) (LeavesAfter g config now)
  IsNotServed config was bytes Unopened (NotClosed served error now) = ((cause : StoreError) × (error ≡ store_error cause))
      × ServesThen config was bytes served (AreClean g now.log now.db) (LeavesAfter g config now)

  -- the files were not opened because of this error; `rest` is left of them
  abbrev pub IsNotOpened : Files D → Error → Leftover D g → Type 0
  IsNotOpened files error rest = IsCleanLeft rest → FailsToOpenFiles files rest error × LeavesFiles files rest

  -- a connection that an opening of files with these contents gives
  abbrev pub Opens : Image → Held (FileStore D g) → Type 0
  Opens was conn = HasCleanDisk (file_state conn) → IsOpened conn × FindsIn was (file_state conn)

  -- `P` is true of the report of the calls, also if the files were not closed after them
  abbrev pub AllServed : (RunReport → Type 0) → Result (Closed D) (RunFailure D g) → Type 0
  AllServed P (Ok closed) = P closed.report
  AllServed P (Err (NoFiles error)) = ⊤
  AllServed P (Err (NotOpened error rest)) = ⊤
  AllServed P (Err (Refused refusal now)) = ⊤
  AllServed P (Err (Left served now)) = P served
  AllServed P (Err (NotClosed served error now)) = P served

  -- a database without tables is refused only if tables were required
  abbrev pub IsBlankAsked : Bool → Refusal → Type 0
  IsBlankAsked is_existing Blank = IsTrue is_existing
  IsBlankAsked is_existing (NotAdopted fault) = ⊤
  IsBlankAsked is_existing (NotCopied fault) = ⊤

  -- files without a table are refused exactly if tables were required
  abbrev pub IsAsked : Bool → Result (Closed D) (RunFailure D g) → Type 0
  IsAsked is_existing (Ok closed) = IsTrue is_existing → closed.report.is_new ≡ false
  IsAsked is_existing (Err (NoFiles error)) = ⊤
  IsAsked is_existing (Err (NotOpened error rest)) = ⊤
  IsAsked is_existing (Err (Refused refusal now)) = IsBlankAsked is_existing refusal
  IsAsked is_existing (Err (Left served now)) = IsTrue is_existing → served.is_new ≡ false
  IsAsked is_existing (Err (NotClosed served error now)) = IsTrue is_existing → served.is_new ≡ false
