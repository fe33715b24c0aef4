-- The State that the next run finds in files.
use Rattle.sqlite_disk.specs.declared.Disk as disk
use Rattle.sqlite_wal.specs.Recovery.{Image}
use Rattle.sqlite_store.specs.declared.store.FileStore.{FileStore}
use Rattle.sqlite.specs.Files.{over_files}
use Rattle.sqlite.specs.Held.{Held}
use Rattle.csi_config.specs.declared.config.Config.{Config}
use Rattle.csi_keeper.specs.Invariant.{IsInvariant}
use Rattle.csi_keeper.specs.State.{State}
use Rattle.csi_adoption.specs.Again.{IsTakenAs}
use Rattle.csi_files.specs.Files.{HasState}
use Rattle.csi_files.specs.Serving.{Opens}

-- a connection to files with these contents is adopted as their State, unless the disk or memory fails
abbrev pub AreFoundAgain : {D : Type 0} → disk.Ghosts D → Config → Type 0
AreFoundAgain {D} g config = (was : Image) (conn : Held (FileStore D g)) (s : State) → HasState was s → IsInvariant config s → Opens g was conn
    → IsTakenAs over_files config conn s
