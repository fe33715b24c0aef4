-- The files that a run may start from, the first run included.
use Rattle.std.specs.Prelude.{◌≡◌, ◌≢◌, ◌⊎◌, Bool, List, IsTrue, ⊤}
use Rattle.sqlite_disk.specs.declared.Disk as disk
use Rattle.sqlite_disk.specs.declared.Files.{Files}
use Rattle.sqlite_wal.specs.Files.{outcomes}
use Rattle.sqlite_wal.specs.Reads.{AreClean, tally_of_files}
use Rattle.sqlite_wal.specs.Recovery.{Image}
use Rattle.sqlite_store.specs.Report.{named}
use Rattle.sqlite.specs.Files.{image_of}
use Rattle.sqlite.specs.declared.error.Error.{Error}
use Rattle.sqlite.specs.declared.error.Error.TheVariants.{SqliteFailure}
use Rattle.sqlite.specs.declared.file.Leftover.{Leftover}
use Rattle.sqlite.specs.declared.file.Leftover.TheVariants as left
use Rattle.sqlite.specs.declared.error.ErrorCode.{ErrorCode}
use Rattle.sqlite.specs.declared.error.ErrorCode.TheVariants as code
use Rattle.sqlite_pages.specs.declared.error.Error.TheVariants as pages
use Rattle.sqlite_trees.specs.declared.error.StoreError.{StoreError}
use Rattle.sqlite_trees.specs.declared.error.StoreError.TheVariants as fault
use Rattle.csi_config.specs.declared.config.Config.{Config}
use Rattle.csi_keeper.specs.Model.{Model}
use Rattle.csi_keeper.specs.State.{State, first_state}
use Rattle.csi_files.specs.Files.{HasState, image_model}
use Rattle.csi_server.specs.Machine.{Event}
use Rattle.csi_files.specs.Making.{AreAsBefore, IsLaidOut, IsLost, IsMade, IsNotLaidOut, IsToMake, IsUnmade}
use Rattle.csi_files.specs.Serving.{IsNotOpened, IsNotServed, RunsThen, SaysNew, WasTaken}
use Rattle.csi_files.specs.Streams.{AreUntouched, Streams}
use Rattle.csi_files.specs.declared.making.NotLaidOut.{NotLaidOut}
use Rattle.csi_files.specs.declared.making.NotLaidOut.TheVariants.{Emptied, Failed}
use Rattle.csi_files.specs.declared.run.RunReport.{RunReport}
use Rattle.csi_files.specs.declared.run.RunFailure.{RunFailure}
use Rattle.csi_files.specs.declared.run.RunFailure.TheVariants.{NoFiles, NotOpened, Refused, Left, NotClosed}

-- A run over files with these contents may start from this State: the files have a database of the State, or
-- they have no database yet and the State is the first one.
abbrev pub MayStart : Image → State → Type 0
MayStart image s = HasState image s ⊎ (IsUnmade image × (s ≡ first_state 1))

-- the model of files that a run may start from
abbrev pub start_model : Image → Bool → Model State
start_model image is_new = record (image_model image is_new) { holds = λ s. MayStart image s ⊎ (IsTrue is_new × (s ≡ first_state 1)) }

-- The contents `after` a database is made if there was none: a new database, or the contents `before`. They
-- have the State that a run would have started from.
pub record ShowsLaidOut (before after : Image) : Type 0 where
  pub made : IsToMake before → IsMade after
  pub kept : ¬ IsToMake before → after ≡ before
  pub starts : (s : State) → MayStart before s → HasState after s

-- The run reports `is_new` exactly if the database that the files had is without tables, and also if a
-- database was made. A database that the files had was a database of a State that meets every constraint.
pub record SaysStart (config : Config) (was : Image) (served : RunReport) : Type 0 where
  pub taken : WasTaken config was
  pub had : SaysNew was served
  pub made : IsToMake was → IsTrue served.is_new

-- calls were served from the State that a run over files with these contents starts from
abbrev pub StartsThen : Config → Image → Streams → RunReport → Type 0
    → (State → List Event → Type 0) → Type 0
StartsThen config was bytes served Clean Leaves = RunsThen config bytes
    (start_model was served.is_new).holds served Clean (SaysStart config was served) Leaves

-- SQLite's code for the reason why no database was made; if the disk failed, the `StoreError` says how
abbrev pub code_of : NotLaidOut → StoreError → ErrorCode
code_of Emptied _ = code.CannotOpen
code_of (Failed pages.Corrupt) _ = code.DatabaseCorrupt
code_of (Failed pages.Full) _ = code.DiskFull
code_of (Failed pages.OutOfMemory) _ = code.OutOfMemory
code_of (Failed pages.Io) fault.Full = code.DiskFull
code_of (Failed pages.Io) fault.Corrupt = code.DatabaseCorrupt
code_of (Failed pages.Io) _ = code.SystemIoFailure

module _ {D : Type 0} (g : disk.Ghosts D) where
  -- a run may start from this State over each outcome of a crash
  abbrev pub MayStartAgain : Files D → State → Type 0
  MayStartAgain files s = (image : Image) → outcomes g files.log files.db image → ∥ MayStart image s ∥₁

  -- the files now have the State that a run would have started from
  abbrev pub StartsAs : Files D → Files D → Type 0
  StartsAs before after = AreClean g after.log after.db → (s : State) → MayStart (image_of g before) s → HasState (image_of g after) s

  -- a State that a run may start from after a crash before is a State that a run may start from after a crash
  -- now
  abbrev pub KeepsStart : Files D → Files D → Type 0
  KeepsStart before after = AreClean g after.log after.db → (s : State) → MayStartAgain before s → MayStartAgain after s

  -- The error is SQLite's error for the reason why no database was made; it depends on the errors of the
  -- disks since `before`. A WAL next to an empty file is the reason only if it may have changes.
  abbrev pub IsNameOf : Files D → Files D → Error → Type 0
  IsNameOf before now error = (why : NotLaidOut)
      × (error ≡ SqliteFailure (code_of why (named (tally_of_files g (before.log, before.db)) (tally_of_files g (now.log, now.db)))))
      × (why ≢ Failed pages.Corrupt)
      × (why ≡ Emptied → AreAsBefore g before now × (AreClean g now.log now.db → IsLost (image_of g before)))

module _ {D : Type 0} {g : disk.Ghosts D} where
  -- the files were opened, and the disk was truthful to the end
  abbrev pub EndsClean : RunFailure D g → Type 0
  EndsClean (NoFiles error) = ⊥
  EndsClean (NotOpened error rest) = ⊥
  EndsClean (Refused refusal now) = AreClean g now.log now.db
  EndsClean (Left served now) = AreClean g now.log now.db
  EndsClean (NotClosed served error now) = AreClean g now.log now.db

  -- no store was made of the files yet: their schema was not read
  abbrev pub IsStoreless : Leftover D g → Type 0
  IsStoreless (left.Files now) = ⊤
  IsStoreless (left.Unopened now) = ⊤
  IsStoreless (left.Store now) = ⊥

  -- no database was made because of this error
  abbrev pub IsLeftUnmade : Files D → Error → Leftover D g → Type 0
  IsLeftUnmade before error (left.Files now) = IsNotLaidOut g before now × KeepsStart g before now × IsNameOf g before now error
  IsLeftUnmade before error (left.Unopened now) = ⊥
  IsLeftUnmade before error (left.Store now) = ⊥

module _ {D : Type 0} (g : disk.Ghosts D) where
  -- no database was made, or the new database was not opened
  abbrev pub IsNotMade : Files D → Error → Leftover D g → Type 0
  IsNotMade before error rest = IsLeftUnmade before error rest ⊎ ((laid : Files D) × IsLaidOut g before laid × IsNotOpened g laid error rest)

  -- The files were not closed, because of the failure `e`. `was` are the contents that the run started from:
  -- a database was made first if the files held none.
  pub record IsNotStarted (config : Config) (before : Files D) (bytes : Streams) (e : RunFailure D g) : Type 0 where
    pub was : Image
    pub shows : EndsClean e → ShowsLaidOut (image_of g before) was
    pub why : IsNotServed g config was bytes (λ error rest. AreUntouched bytes × IsNotMade before error rest) e
