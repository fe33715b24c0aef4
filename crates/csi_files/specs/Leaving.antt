-- The files of a connection after it is closed or given up.
use Rattle.std.specs.Prelude.{◌≡◌, ◌⊎◌, ℕ, ◌<◌, Option, None, Some, IsTrue}
use Rattle.sqlite_disk.specs.declared.Disk as disk
use Rattle.sqlite_disk.specs.declared.Files.{Files}
use Rattle.sqlite_wal.specs.Files.{outcomes}
use Rattle.sqlite_wal.specs.PageSize.{IsPageSize}
use Rattle.sqlite_wal.specs.Reads.{AreClean}
use Rattle.sqlite_wal.specs.Recovery.{Image, IsIgnored}
use Rattle.sqlite_pool.specs.Stored.{stored_size}
use Rattle.sqlite_trees.specs.Tree.{Trees}
use Rattle.sqlite_trees.specs.declared.error.StoreError.{StoreError}
use Rattle.sqlite_store.specs.declared.store.FileStore.{FileStore}
use Rattle.sqlite.specs.Closing.{files_left}
use Rattle.sqlite.specs.Files.{file_state}
use Rattle.sqlite.specs.Held.{Held}
use Rattle.sqlite.specs.Opening.{HoldsAt}
use Rattle.sqlite.specs.State.{HasCleanDisk, store_error}
use Rattle.sqlite.specs.declared.error.Error.{Error}
use Rattle.csi_files.specs.Files.{HoldsSealed}
use Rattle.csi_files.specs.declared.run.RunReport.{RunReport}
use Rattle.csi_files.specs.declared.run.Closed.{Closed}
use Rattle.csi_files.specs.declared.run.RunFailure.{RunFailure}
use Rattle.csi_files.specs.declared.run.RunFailure.TheVariants.{NoFiles, NotOpened, Refused, Left, NotClosed}

module _ {D : Type 0} {g : disk.Ghosts D} where
  -- the WAL and the database file after a run that failed, if the operating system gave them
  abbrev pub files_of : RunFailure D g → Option (D × D)
  files_of (NoFiles error) = None
  files_of (NotOpened error rest) = Some (files_left rest)
  files_of (Refused refusal now) = Some (now.log, now.db)
  files_of (Left served now) = Some (now.log, now.db)
  files_of (NotClosed served error now) = Some (now.log, now.db)

module _ {D : Type 0} (g : disk.Ghosts D) where
  -- Each outcome of a crash, and so the contents of the files, is a database that the connection may have
  -- left. All of them have pages of one size.
  pub record IsLeft (conn : Held (FileStore D g)) (files : Files D) : Type 0 where
    pub clean : AreClean g files.log files.db → HasCleanDisk (file_state conn)
    pub size : ℕ
    pub allowed : ∥ IsPageSize (stored_size size) ∥₁
    pub each : AreClean g files.log files.db → (image : Image) → outcomes g files.log files.db image
        → ∥ ((db : Trees) × (file_state conn).may_leave db × HoldsAt size image db) ∥₁

  -- Each outcome of a crash, and so the contents of the files, is the last commit. Recovery ignores the rest
  -- of the WAL.
  pub record HoldsCommit (conn : Held (FileStore D g)) (files : Files D) : Type 0 where
    pub was_clean : HasCleanDisk (file_state conn)
    pub was_open : IsTrue (file_state conn).is_open
    pub each : (image : Image) → outcomes g files.log files.db image → ∥ HoldsSealed image (file_state conn).committed.trees ∥₁
    pub ignored : IsIgnored (g.seen files.log)

  -- the connection is closed, and its WAL was not copied because of this error
  abbrev pub IsUncopied : Held (FileStore D g) → Error → Files D → Type 0
  IsUncopied conn error files = IsLeft conn files × (cause : StoreError) × (error ≡ store_error cause)

  module _ (served : RunReport) (conn : Held (FileStore D g)) where
    -- the connection is closed
    pub record IsFinished (outcome : Closed D) : Type 0 where
      pub same : outcome.report ≡ served
      pub copied : AreClean g outcome.files.log outcome.files.db → HoldsCommit conn outcome.files
      pub usable : IsTrue (g.is_usable outcome.files.log) × IsTrue (g.is_usable outcome.files.db)

    -- the connection is given up, or its WAL was not copied
    abbrev pub IsUnfinished : RunFailure D g → Type 0
    IsUnfinished (NoFiles error) = ⊥
    IsUnfinished (NotOpened error left) = ⊥
    IsUnfinished (Refused refusal files) = ⊥
    IsUnfinished (Left outcome files) = (outcome ≡ served) × IsLeft conn files × (IsTrue served.is_down ⊎ (0 < served.refusals))
    IsUnfinished (NotClosed outcome error files) = (outcome ≡ served) × IsUncopied conn error files
