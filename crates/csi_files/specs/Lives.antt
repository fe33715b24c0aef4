-- Runs over two files, in order, with a stop after each.
use Rattle.std.specs.Prelude.{◌≡◌, true, false, List, [], ◌∷◌, map}
use Rattle.std.specs.Io.KnownBytes.{IsAtEnd}
use Rattle.sqlite_disk.specs.declared.Disk as disk
use Rattle.sqlite_disk.specs.declared.Files.{Files}
use Rattle.sqlite_disk.specs.declared.modelled.Modelled.{Modelled}
use Rattle.sqlite_disk.specs.declared.start.Start as start
use Rattle.sqlite_std_file.specs.File.{IsFresh}
use Rattle.sqlite_std_file.specs.contracts.host.HostCalls.TheImpl as calls
use Rattle.sqlite_std_file.specs.declared.host.Host.{Host}
use Rattle.sqlite_wal.specs.Files.{image_at, outcomes}
use Rattle.sqlite_wal.specs.Reads.{AreClean}
use Rattle.sqlite_wal.specs.Recovery.{Image}
use Rattle.sqlite.specs.Closing.{files_left}
use Rattle.sqlite.specs.Files.{IsCleanLeft, image_of}
use Rattle.sqlite.specs.declared.error.Error.{Error}
use Rattle.sqlite.specs.declared.file.Leftover.{Leftover}
use Rattle.csi_types.specs.declared.requests.Request.{Request}
use Rattle.csi_config.specs.declared.config.Config.{Config}
use Rattle.csi_keeper.specs.Invariant.{IsInvariant}
use Rattle.csi_keeper.specs.State.{State}
use Rattle.csi_machine.specs.Numbers.{NumbersRise}
use Rattle.csi_machine.specs.Retry.{AreTriesOf, after_once, all_tries, reported_once}
use Rattle.csi_server.specs.Machine.{Event}
use Rattle.csi_server.specs.Requests.{reported}
use Rattle.csi_server.specs.Tries.{Exchange, IsLifeOfCalls, events_of, tries_of}
use Rattle.csi_server.specs.Volumes.{volumes}
use Rattle.csi_files.specs.Files.{HasState}
use Rattle.csi_files.specs.Making.{IsLaidOut}
use Rattle.csi_files.specs.Path.{over_calls}
use Rattle.csi_files.specs.Serving.{IsNotOpened, IsStateAfter, LeavesAfter, RunsThen, counts_model}
use Rattle.csi_files.specs.Serving.{events_of as answered}
use Rattle.csi_files.specs.Starting.{IsLeftUnmade, IsNotStarted, IsStoreless, MayStart, StartsThen}
use Rattle.csi_files.specs.declared.run.RunReport.{RunReport}
use Rattle.csi_files.specs.declared.run.Closed.{Closed}
use Rattle.csi_files.specs.Streams.{Streams}
use Rattle.csi_files.specs.declared.run.Refusal.{Refusal}
use Rattle.csi_files.specs.declared.run.RunFailure.TheVariants.{Refused, Left, NotClosed}

-- A run over the contents `next` may start from the State `t`. If the contents `was` have a database of the
-- State `s`, `next` has a database of `t`.
pub record GoesOn (was next : Image) (s t : State) : Type 0 where
  pub may : MayStart next t
  pub has : HasState was s → HasState next t

-- A run over files with the contents `was` answered the calls of this session and left the contents `next`.
-- From each State that the run may have started from, a next run may start from a State after these calls.
abbrev pub IsRunOver : Config → Image → List Exchange → Image → Type 0
IsRunOver config was session next = (s : State) → MayStart was s → IsInvariant config s
    → ∥ ((t : State) × GoesOn was next s t × IsStateAfter config s (events_of session) t) ∥₁

-- Runs with these sessions, in order. Each run is over the contents that the run before it left, and `last`
-- are the contents after the last run.
abbrev pub IsLifeOfFiles : Config → Image → List (List Exchange) → Image → Type 0
IsLifeOfFiles config was [] last = was ≡ last
IsLifeOfFiles config was (session ∷ sessions) last = (next : Image) × IsRunOver config was session next × IsLifeOfFiles config next sessions last

-- A client repeats each of its calls until it hears the reply, while other clients change nothing. The
-- client's replies and the State of the files at the end are the same as if each of its requests was taken
-- once.
abbrev pub LivesOnce : Config → Type 0
LivesOnce config =
    (was last : Image) (s : State) (requests : List Request) (sessions : List (List Exchange)) → MayStart was s → IsInvariant config s
    → AreTriesOf requests (all_tries (map tries_of sessions))
    → IsLifeOfFiles config was sessions last
    → ∥ (GoesOn was last s (after_once config s requests)
    × IsLifeOfCalls config s sessions (map reported (reported_once config s requests)) (after_once config s requests)) ∥₁

-- After any calls a run over the files may start from a State in which the numbers of volumes only rose.
abbrev pub NumbersOnce : Config → Type 0
NumbersOnce config =
    (was last : Image) (s : State) (sessions : List (List Exchange)) → MayStart was s → IsInvariant config s
    → IsLifeOfFiles config was sessions last
    → ∥ ((t : State) × GoesOn was last s t × NumbersRise s t) ∥₁

-- ---- the clauses of `create_and_serve` and `serve_path` make a run a run of such a life

module _ {config : Config} {bytes : Streams} {Starts : State → Type 0} {served : RunReport} {Clean New : Type 0} {Leaves : State
    → List Event → Type 0} where
  -- the run answered the calls of this session
  abbrev pub Answers : RunsThen config bytes Starts served Clean New Leaves → Clean → List Exchange → Type 0
  Answers it clean session = (s : State) (starts : Starts s)
      → events_of session ≡ answered (volumes config) (counts_model 0 false) (counts_model served.refusals served.is_down) s it.read
      (IsAtEnd bytes.left) bytes.held bytes.holds served.end (it.ended clean s starts).0

module _ {D : Type 0} (g : disk.Ghosts D) where
  -- a crash leaves the contents that reads of these files return
  abbrev pub AreAtRest : Files D → Type 0
  AreAtRest files = (image : Image) → outcomes g files.log files.db image → image ≡ image_of g files

-- After a run over files with these contents has closed its files, each outcome of a crash is an outcome of a
-- run of a life. It does not matter how the files were opened.
abbrev pub ClosedGoOn : {D : Type 0} → disk.Ghosts D → Config → Type 0
ClosedGoOn {D} g config = (was : Image) (bytes : Streams) (closed : Closed D)
    (it : StartsThen config was bytes closed.report (AreClean g closed.files.log closed.files.db) (LeavesAfter g config closed.files))
    (clean : AreClean g closed.files.log closed.files.db) (session : List Exchange) → Answers it clean session
    → (next : Image) → outcomes g closed.files.log closed.files.db next → IsRunOver config was session next

module _ {D : Type 0} (g : disk.Ghosts D) (config : Config) (before : Files D) (bytes : Streams) where
  -- The clause `not_served` of `create_and_serve` for a disk that was truthful: each outcome of a crash is an
  -- outcome of a run. Files that were not opened must have been at rest before the run, and the failure must
  -- not hold a store.
  pub record AreRuns : Type 0 where
    pub refused : (served : RunReport) (now : Files D) (it : IsNotStarted g config before bytes (Left served now))
        (clean : AreClean g now.log now.db)
        (session : List Exchange) → Answers it.why.1 clean session
        → (next : Image) → outcomes g now.log now.db next → IsRunOver config (image_of g before) session next
    pub unclosed : (served : RunReport) (error : Error) (now : Files D) (it : IsNotStarted g config before bytes (NotClosed served error now))
        (clean : AreClean g now.log now.db)
        (session : List Exchange) → Answers it.why.1 clean session
        → (next : Image) → outcomes g now.log now.db next → IsRunOver config (image_of g before) session next
    pub unserved : (refusal : Refusal) (now : Files D) → IsNotStarted g config before bytes (Refused refusal now) → AreClean g now.log now.db
        → (next : Image) → outcomes g now.log now.db next → IsRunOver config (image_of g before) [] next
    pub unmade : (error : Error) (rest : Leftover D g) → AreAtRest g before → IsLeftUnmade before error rest → IsCleanLeft rest
        → (next : Image) → outcomes g (files_left rest).0 (files_left rest).1 next → IsRunOver config (image_of g before) [] next
    pub unopened : (laid : Files D) → AreAtRest g before → IsLaidOut g before laid → AreClean g laid.log laid.db
        → (error : Error) (rest : Leftover D g) → IsNotOpened g laid error rest → IsCleanLeft rest → IsStoreless rest
        → (next : Image) → outcomes g (files_left rest).0 (files_left rest).1 next → IsRunOver config (image_of g before) [] next

-- `ClosedGoOn`, and `AreRuns` for any files and streams
abbrev pub RunsGoOn : {D : Type 0} → disk.Ghosts D → Config → Type 0
RunsGoOn {D} g config =
    ClosedGoOn g config × ((before : Files D) (bytes : Streams) → AreRuns g config before bytes)

-- `RunsGoOn` for the files at a path. When they are opened, they have the contents that `first` names, and a
-- crash keeps these contents.
abbrev pub PathGoesOn : {S : Type 0} → start.Ghosts S → Config → Type 0
PathGoesOn {S} first config =
    RunsGoOn {D = Modelled Host S calls.ghosts first} over_calls config
    × ((files : Files (Modelled Host S calls.ghosts first)) → IsFresh true files.log → IsFresh false files.db
    → (image_of over_calls files ≡ image_at first) × AreAtRest over_calls files)
