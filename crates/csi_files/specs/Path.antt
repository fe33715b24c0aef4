-- The files at a path as disks, and why they were not closed after calls.
use Rattle.std.specs.Prelude.{◌≡◌, ◌⊎◌, ℕ, true, false, List, codes, nat_eq, IsTrue}
use Rattle.std.specs.IoError.{error_kind}
use Rattle.std.specs.List.{starts_with}
use Rattle.std.specs.declared.io.ErrorKind.{ErrorKind}
use Rattle.std.specs.declared.io.ErrorKind.TheVariants as kind
use Rattle.sqlite_disk.specs.declared.Disk as disk
use Rattle.sqlite_disk.specs.declared.calls.Calls as calls
use Rattle.sqlite_disk.specs.declared.start.Start as start
use Rattle.sqlite_disk.specs.declared.modelled.Modelled.{Modelled}
use Rattle.sqlite_disk.specs.Events.{replay}
use Rattle.sqlite_disk.specs.History.{MayLeave}
use Rattle.sqlite_disk.specs.Modelled.{start_of}
use Rattle.sqlite_disk.specs.declared.Files.{Files}
use Rattle.sqlite_std_file.specs.declared.host.Host.{Host}
use Rattle.sqlite_std_file.specs.File.{IsFresh}
use Rattle.sqlite_std_file.specs.declared.pair.OpenError.{OpenError}
use Rattle.sqlite_std_file.specs.declared.pair.OpenError.TheVariants as opening
use Rattle.sqlite.specs.declared.error.Error.{Error}
use Rattle.sqlite.specs.declared.error.Error.TheVariants.{SqliteFailure}
use Rattle.sqlite.specs.declared.error.ErrorCode.TheVariants.{CannotOpen, DatabaseBusy, OutOfMemory}
use Rattle.csi_config.specs.declared.config.Config.{Config}
use Rattle.csi_files.specs.Starting.{IsNotStarted}
use Rattle.csi_files.specs.Streams.{AreUntouched, Streams}
use Rattle.csi_files.specs.declared.run.RunFailure.{RunFailure}
use Rattle.csi_files.specs.declared.run.RunFailure.TheVariants.{NoFiles}

module _ {C S : Type 0} {g : calls.Ghosts C} {first : start.Ghosts S} where
  -- the model of a file, made from the record of its calls and its first contents
  abbrev pub over_calls : disk.Ghosts (Modelled C S g first)
  over_calls = record {
    seen = λ f. (replay (start_of first f) (g.history f.calls)).seen;
    may_leave = λ f. let m = replay (start_of first f) (g.history f.calls) in MayLeave first.is_mixing m.seen m.synced m.steps;
    is_usable = λ f. (replay (start_of first f) (g.history f.calls)).is_usable;
    faults = λ f. (replay (start_of first f) (g.history f.calls)).faults;
    tally_of = λ f. let m = replay (start_of first f) (g.history f.calls) in record { caught = m.caught; refused = m.refused };
    is_clean = λ f. (replay (start_of first f) (g.history f.calls)).is_honest;
    key_of = λ f. (replay (start_of first f) (g.history f.calls)).key;
    is_fair = λ f. (replay (start_of first f) (g.history f.calls)).is_fair;
    is_frozen = λ _. false;
    is_rotten = λ _ _ _. false;
    is_mixing = λ _. first.is_mixing;
  }

-- the reason why there are no files
pub data NoFile : Type 0 where
  -- SQLite does not take the path for a file
  NamesNone : NoFile
  -- the operating system did not open the files
  NotGiven : OpenError → NoFile
  -- the operating system gave no random seed
  NotSeeded : NoFile

-- SQLite's error for a failure of the operating system, by the kind of the failure
abbrev pub kind_error : ErrorKind → Error
kind_error kind.OutOfMemory = SqliteFailure OutOfMemory
kind_error _ = SqliteFailure CannotOpen

-- SQLite's error for files that were not opened
abbrev pub open_error : OpenError → Error
open_error (opening.Io error) = kind_error (error_kind error)
open_error opening.OutOfMemory = SqliteFailure OutOfMemory
open_error opening.Busy = SqliteFailure DatabaseBusy
open_error opening.HotJournal = SqliteFailure CannotOpen

-- SQLite's error for a reason why there are no files
abbrev pub no_file_error : NoFile → Error
no_file_error NamesNone = SqliteFailure CannotOpen
no_file_error (NotGiven cause) = open_error cause
no_file_error NotSeeded = SqliteFailure CannotOpen

-- there are no files, and the error is SQLite's error for one of the reasons
abbrev pub IsNoFile : Error → Type 0
IsNoFile e = (cause : NoFile) × (e ≡ no_file_error cause)

-- SQLite does not take the path for a file
abbrev pub NamesNoFile : List ℕ → Type 0
NamesNoFile path = (path ≡ codes ":memory:") ⊎ IsTrue (starts_with nat_eq path (codes "file:"))

-- the files at a path were not opened, and this is the error for the reason
abbrev pub IsNotGiven : List ℕ → Error → Type 0
IsNotGiven path e = (NamesNoFile path × (e ≡ no_file_error NamesNone))
    ⊎ ((¬ NamesNoFile path) × ((cause : OpenError) × (e ≡ no_file_error (NotGiven cause))))

module _ {S : Type 0} {g : calls.Ghosts Host} (first : start.Ghosts S) (config : Config) (bytes : Streams) where
  -- there are no files, and nothing was read or written
  abbrev pub IsFileless : RunFailure (Modelled Host S g first) over_calls → Type 0
  IsFileless (NoFiles error) = AreUntouched bytes × IsNoFile error
  IsFileless _ = ⊥

  -- the failure of a run over files with the contents `first`: the files were not closed after calls
  abbrev pub IsNotServedAt : RunFailure (Modelled Host S g first) over_calls → Type 0
  IsNotServedAt e = IsFileless e
      ⊎ ((files : Files (Modelled Host S g first)) × IsFresh true files.log × IsFresh false files.db × IsNotStarted over_calls config files bytes e)
