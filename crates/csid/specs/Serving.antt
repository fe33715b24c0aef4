-- The results of calls over the files at a path, and how the program reports them.
use Rattle.std.specs.Prelude.{◌≡◌, ◌⊎◌, ℕ, false, List, Option, None, Some, Result, Ok, Err, IfOk, IfErr, IsErrAnd, IsTrue}
use Rattle.sqlite_disk.specs.declared.modelled.Modelled.{Modelled}
use Rattle.sqlite_disk.specs.declared.Disk as disk
use Rattle.sqlite_disk.specs.declared.start.Start as start
use Rattle.sqlite_std_file.specs.contracts.host.HostCalls.TheImpl as calls
use Rattle.sqlite_std_file.specs.declared.host.Host.{Host}
use Rattle.sqlite_wal.specs.Files.{image_at}
use Rattle.sqlite_wal.specs.Reads.{AreClean}
use Rattle.csi_config.specs.declared.config.Config.{Config}
use Rattle.csi_server.specs.Serving.{Serves, Writes}
use Rattle.csi_server.specs.Volumes.{seen, volumes}
use Rattle.csi_files.specs.declared.run.Closed.{Closed}
use Rattle.csi_files.specs.declared.run.RunFailure.{RunFailure}
use Rattle.csi_files.specs.declared.run.RunFailure.TheVariants.{NoFiles, NotOpened, Refused, Left, NotClosed}
use Rattle.csi_files.specs.declared.run.RunReport.{RunReport}
use Rattle.csi_files.specs.Files.{HasAlone, files_model}
use Rattle.csi_files.specs.Path.{IsNotServedAt, over_calls}
use Rattle.csi_files.specs.Serving.{AllServed, HasRefusedNone, IsAsked, LeavesAfter}
use Rattle.csi_files.specs.Starting.{StartsThen, start_model}
use Rattle.csi_files.specs.Streams.{AreUntouched, Streams, streams}
use Rattle.csid_settings.specs.Statuses.{IsOrNoMemory}
use Rattle.csid_settings.specs.declared.command.TablesFile.{TablesFile}
use Rattle.csid.specs.declared.serving.TablesFailure.{TablesFailure}

-- a failure of the tables or of memory, with this report of calls
abbrev pub FailsAfter : Option RunReport → Result RunReport TablesFailure → Type 0
FailsAfter report said = IsErrAnd said (λ failure. IsOrNoMemory 4 failure.cause × (failure.report ≡ report))

module _ {D : Type 0} {g : disk.Ghosts D} where
  -- the report of a run that failed
  abbrev pub SaysFailure : RunFailure D g → Result RunReport TablesFailure → Type 0
  SaysFailure (NoFiles error) said = FailsAfter None said
  SaysFailure (NotOpened error rest) said = FailsAfter None said
  SaysFailure (Refused refusal files) said = FailsAfter None said
  SaysFailure (Left report files) said = said ≡ Ok report
  SaysFailure (NotClosed report error files) said = FailsAfter (Some report) said

  -- the report of a run that had this outcome
  abbrev pub Says : Result (Closed D) (RunFailure D g) → Result RunReport TablesFailure → Type 0
  Says (Ok closed) said = said ≡ Ok closed.report
  Says (Err failure) said = SaysFailure failure said

module _ {S : Type 0} (first : start.Ghosts S) (config : Config) (file : TablesFile) where
  abbrev File : Type 0
  File = Modelled Host S calls.ghosts first

  -- the outcome of calls over files that began as `first`: all that `serve_path` promises
  pub record IsOutcome (bytes : Streams) (outcome : Result (Closed File) (RunFailure File over_calls)) : Type 0 where
    pub served : IfOk outcome (λ r. Serves (volumes config) (start_model (image_at first) r.report.is_new)
        (seen config (files_model over_calls r.files r.report.refusals r.report.is_down)) bytes.unread bytes.left bytes.held bytes.holds r.report.end)
    pub after : IfOk outcome (λ r. StartsThen config (image_at first) bytes r.report (AreClean over_calls r.files.log r.files.db)
        (LeavesAfter over_calls config r.files))
    pub usable : IfOk outcome (λ r. IsTrue (over_calls.is_usable r.files.log) × IsTrue (over_calls.is_usable r.files.db))
    pub alone : IfOk outcome (λ r. HasAlone over_calls r.files)
    pub writes : AllServed over_calls (λ report. Writes bytes.unread bytes.left bytes.held bytes.holds report.end) outcome
    pub none_refused : IfOk outcome (λ r. HasRefusedNone r.report)
    pub uncopied : AllServed over_calls (λ report. IsTrue file.is_low_memory → report.is_copied ≡ false) outcome
    pub existing : IsAsked over_calls file.is_existing outcome
    pub not_served : IfErr outcome (IsNotServedAt first config bytes)

  -- The files were not opened, and no byte was read or written; or the calls had an outcome, which is
  -- reported.
  abbrev pub IsAnswered : Streams → Result RunReport TablesFailure → Type 0
  IsAnswered bytes said = (AreUntouched bytes × FailsAfter None said)
      ⊎ ((outcome : Result (Closed File) (RunFailure File over_calls)) × IsOutcome bytes outcome × Says outcome said)

  -- the calls among these bytes were served
  abbrev pub IsServed : Option (List ℕ) → Option (List ℕ) → Option (List ℕ) → Result RunReport TablesFailure → Type 0
  IsServed unread held holds said = (left : Option (List ℕ)) × IsAnswered (streams unread left held holds) said
