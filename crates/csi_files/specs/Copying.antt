-- The database file and the WAL after the WAL is copied into the database file.
use Rattle.std.specs.Prelude.{ℕ, IsTrue}
use Rattle.sqlite_disk.specs.declared.Disk as disk
use Rattle.sqlite_disk.specs.declared.Files.{Files}
use Rattle.sqlite_wal.specs.Files.{outcomes}
use Rattle.sqlite_wal.specs.Log.{state}
use Rattle.sqlite_wal.specs.Reads.{AreClean}
use Rattle.sqlite_wal.specs.Recovery as raw
use Rattle.sqlite_wal.specs.Recovery.{Image, IsIgnored}
use Rattle.sqlite_wal.specs.declared.error.Error.{Error as Failure}
use Rattle.sqlite_wal.specs.declared.error.Error.TheVariants as failure
use Rattle.sqlite_wal.specs.declared.log.Log.{Log}
use Rattle.sqlite_pool.specs.Stored.{RecoversAs, stored_size}
use Rattle.sqlite_trees.specs.declared.error.StoreError.{StoreError}
use Rattle.sqlite_trees.specs.declared.error.StoreError.TheVariants.{Full, Io, OutOfMemory}
use Rattle.sqlite.specs.Files.{NamesSize, image_of}

module _ {D : Type 0} (g : disk.Ghosts D) where
  -- In each outcome of a crash after the copy, recovery finds the pages of an outcome from before the copy,
  -- if the pages have the size that the files name.
  pub record KeepsPages (before after : Files D) : Type 0 where
    pub clean : AreClean g after.log after.db → AreClean g before.log before.db
    pub crash : AreClean g after.log after.db → (size : ℕ) → NamesSize (image_of g before) (stored_size size) → (image : Image)
        → outcomes g after.log after.db image → (old : Image) × outcomes g before.log before.db old × RecoversAs size old image

  -- As `KeepsPages`, and the database file has all pages of the WAL: recovery ignores the rest of the WAL.
  pub record IsMoved (before after : Files D) : Type 0 where
    pub keeps : KeepsPages before after
    pub ignored : AreClean g after.log after.db → IsIgnored (g.seen after.log)
    pub usable : IsTrue (g.is_usable after.log) × IsTrue (g.is_usable after.db)

module _ {D : Type 0} {g : disk.Ghosts D} where
  -- a crash after the copy leaves only pages that a crash before the copy could leave
  pub record CopiesLog (old new : Log D g) : Type 0 where
    pub clean : IsTrue (state new).is_clean → IsTrue (state old).is_clean
    pub crash : raw.AddsNothing (state old).page_size (state old).may_leave (state new).may_leave

  -- as `CopiesLog`, for the files that the log returns
  pub record LeavesLog (log : Log D g) (after : Files D) : Type 0 where
    pub clean : AreClean g after.log after.db → IsTrue (state log).is_clean
    pub crash : AreClean g after.log after.db → (image : Image) → outcomes g after.log after.db image
        → (old : Image) × (state log).may_leave old × raw.RecoversAs (state log).page_size old image

-- the store's error for a failure to copy the WAL; `fault` is the error if the disk failed
abbrev pub cause_of : Failure → StoreError → StoreError
cause_of (failure.Io e) fault = fault
cause_of failure.OutOfMemory _ = OutOfMemory
cause_of failure.Full _ = Full
cause_of _ _ = Io
