-- Runs over files, in order, are sessions of calls.
use Rattle.std.proofs.Common.{◌≡◌, List, [], ◌∷◌, ◌++◌, ℕ, Bool, true, false, map, inl, inr, refl, sym, ap₂, subst, subst₂}
use Rattle.std.proofs.Math.Logic.{∥∥₁_elim, ∥∥₁_map, ∥∥₁_prop}
use Rattle.sqlite_disk.specs.declared.Disk.{Ghosts}
use Rattle.sqlite_disk.specs.declared.Files.{Files}
use Rattle.sqlite_disk.specs.Events.{Event as CallEvent, replay, settled}
use Rattle.sqlite_disk.specs.History.{MayLeave, Reaches}
use Rattle.sqlite_disk.specs.Modelled.{start_of}
use Rattle.sqlite_disk.specs.declared.modelled.Modelled.{Modelled}
use Rattle.sqlite_disk.specs.declared.start.Start.{Ghosts as Start}
use Rattle.sqlite_std_file.specs.File.{IsFresh}
use Rattle.sqlite_std_file.specs.contracts.host.HostCalls.TheImpl as calls
use Rattle.sqlite_std_file.specs.declared.host.Host.{Host}
use Rattle.sqlite_wal.specs.Files.{image_at, outcomes}
use Rattle.sqlite_wal.specs.Reads.{AreClean}
use Rattle.sqlite_wal.specs.Recovery.{Image}
use Rattle.sqlite_wal.proofs.LogLemmas.{SeenMayStay}
use Rattle.sqlite.specs.Closing.{files_left}
use Rattle.sqlite.specs.Files.{IsCleanLeft, image_of}
use Rattle.sqlite.specs.declared.error.Error.{Error}
use Rattle.sqlite.specs.declared.file.Leftover.{Leftover}
use Rattle.sqlite.specs.declared.file.Leftover.TheVariants as leftover
use Rattle.envelope.specs.Envelope.{ReplyBytes}
use Rattle.csi_types.specs.declared.requests.Request.{Request}
use Rattle.csi_config.specs.declared.config.Config.{Config}
use Rattle.csi_keeper.specs.Invariant.{IsInvariant}
use Rattle.csi_keeper.specs.State.{State}
use Rattle.csi_machine.specs.Numbers.{NumbersRise}
use Rattle.csi_machine.specs.Retry.{AreTriesOf, after_once, all_tries, reported_once}
use Rattle.csi_machine.specs.facts.Numbers.{numbers_go_on, numbers_stay}
use Rattle.csi_server.specs.Machine.{Event, state_after}
use Rattle.csi_server.specs.Requests.{reported}
use Rattle.csi_server.specs.Tries.{Exchange, IsLifeOfCalls, events_of, heard_of, tries_of}
use Rattle.csi_server.specs.Volumes.{IsPending, volumes}
use Rattle.csi_files.specs.Files.{HasState}
use Rattle.csi_files.specs.Lives.{AreAtRest, AreRuns, ClosedGoOn, GoesOn, IsLifeOfFiles, IsRunOver, LivesOnce, NumbersOnce, PathGoesOn, RunsGoOn}
use Rattle.csi_files.specs.Making.{IsLaidOut}
use Rattle.csi_files.specs.Path.{over_calls}
use Rattle.csi_files.specs.Serving.{IsNotOpened, IsStateAfter}
use Rattle.csi_files.specs.Starting.{IsLeftUnmade, IsNotStarted, IsStoreless, MayStart}
use Rattle.csi_files.specs.Streams.{Streams}
use Rattle.csi_files.specs.declared.run.Refusal.{Refusal}
use Rattle.csi_files.specs.declared.run.Refusal.TheVariants.{Blank, NotAdopted, NotCopied}
use Rattle.csi_files.specs.declared.run.RunFailure.TheVariants.{Refused}
use Rattle.csi_files.proofs.PathLemmas.{image, read_of}
use Rattle.csi_files.proofs.StartingLemmas.{laid_out_has, no_state}
use Rattle.csi_files.proofs.UnopenedLemmas.{kept_unopened}

-- the replies that a client heard in these sessions, and the State that a run over the last files starts from
record Lived (config : Config) (was : Image) (s : State) (sessions : List (List Exchange)) (last : Image) : Type 0 where
  pub heard : List ReplyBytes
  pub left : State
  pub life : IsLifeOfCalls config s sessions heard left
  pub goes : GoesOn was last s left

same_contents : (was last : Image) (s : State) → was ≡ last → MayStart was s → GoesOn was last s s
same_contents was last s same may = record { may = subst (λ image. MayStart image s) same may; has = subst (λ image. HasState image s) same }

lived : (config : Config) (sessions : List (List Exchange)) (was last : Image) (s : State) → MayStart was s → IsInvariant config s → IsLifeOfFiles config was sessions last → ∥ Lived config was s sessions last ∥₁
lived config [] was last s may invariant same = ∣ record { heard = []; left = s; life = (refl, refl); goes = same_contents was last s same may } ∣₁
lived config (session ∷ sessions) was last s may invariant (next, run, more) =
    ∥∥₁_elim (run s may invariant) ∥∥₁_prop (λ found.
    ∥∥₁_map (lived config sessions next last found.0 found.1.may found.2.invariant more) (λ rest. record {
      heard = heard_of config s session ++ rest.heard;
      left = rest.left;
      life = (found.0, rest.heard, found.2.is, refl, rest.life);
      goes = record { may = rest.goes.may; has = λ has. rest.goes.has (found.1.has has) };
    }))

-- the law of calls over the sessions holds for the files
pub lives_once : (config : Config)
    → ((s t : State) (requests : List Request) (sessions : List (List Exchange)) (heard : List ReplyBytes) → IsInvariant config s → AreTriesOf requests (all_tries (map tries_of sessions)) → IsLifeOfCalls config s sessions heard t
    → (heard ≡ map reported (reported_once config s requests)) × (t ≡ after_once config s requests))
    → LivesOnce config
lives_once config retry was last s requests sessions may invariant tries life =
    ∥∥₁_map (lived config sessions was last s may invariant life) (λ it.
    let once = retry s it.left requests sessions it.heard invariant tries it.life in
    (subst (GoesOn was last s) once.1 it.goes, subst₂ (λ heard t. IsLifeOfCalls config s sessions heard t) once.0 once.1 it.life))

-- ---- numbers over such a life

module _ (config : Config) (run : (s : State) (events : List Event) → IsInvariant config s → NumbersRise s (state_after (volumes config) s events))
    (pending : (s : State) (events : List Event) (t : State) → IsInvariant config s → IsPending config s events t → NumbersRise s t) where
  left_rises : (s : State) (events : List Event) (t : State) → IsInvariant config s → IsStateAfter config s events t → NumbersRise s t
  left_rises s events t inv left = elim left.is as (λ _. NumbersRise s t) [
    | inl is ↦ subst (NumbersRise s) (sym is) (run s events inv)
    | inr owed ↦ pending s events t inv owed
  ]

  all_rise : (sessions : List (List Exchange)) (was last : Image) (s : State) → MayStart was s → IsInvariant config s → IsLifeOfFiles config was sessions last
      → ∥ ((t : State) × GoesOn was last s t × NumbersRise s t) ∥₁
  all_rise [] was last s may inv same = ∣ (s, same_contents was last s same may, numbers_stay s) ∣₁
  all_rise (session ∷ sessions) was last s may inv (next, it, more) =
      ∥∥₁_elim (it s may inv) ∥∥₁_prop (λ found.
      ∥∥₁_map (all_rise sessions next last found.0 found.1.may found.2.invariant more) (λ rest. (
        rest.0,
        record { may = rest.1.may; has = λ has. rest.1.has (found.1.has has) },
        numbers_go_on config s found.0 rest.0 inv (left_rises s (events_of session) found.0 inv found.2) rest.2,
      )))

  pub numbers_once : NumbersOnce config
  numbers_once was last s sessions may inv life = all_rise sessions was last s may inv life

-- ---- from a run to a run of a life

-- a next run over files that have a State after the calls may start from it
goes_on : (config : Config) (was next : Image) (s : State) (events : List Event) → ∥ ((t : State) × HasState next t × IsStateAfter config s events t) ∥₁
    → ∥ ((t : State) × GoesOn was next s t × IsStateAfter config s events t) ∥₁
goes_on config was next s events left = ∥∥₁_map left (λ found. (found.0, record { may = inl found.1; has = λ _. found.1 }, found.2))

-- no call leaves the State
none_answered : (config : Config) (s : State) → IsInvariant config s → IsStateAfter config s [] s
unfolding state_after
none_answered config s invariant = record { is = inl refl; invariant = invariant }

-- a next run may start from the same State, if the files keep it and no call was answered
stays_as : (config : Config) (was next : Image) (s : State) → IsInvariant config s → ∥ HasState next s ∥₁ → ∥ ((t : State) × GoesOn was next s t × IsStateAfter config s [] t) ∥₁
stays_as config was next s invariant kept = ∥∥₁_map kept (λ has. (s, record { may = inl has; has = λ _. has }, none_answered config s invariant))

module _ {D : Type 0} (g : Ghosts D) (config : Config) (before : Files D) (bytes : Streams) where
  no_call : (refusal : Refusal) (now : Files D) → IsNotStarted g config before bytes (Refused refusal now) → AreClean g now.log now.db → (next : Image) → outcomes g now.log now.db next
      → IsRunOver config (image_of g before) [] next
  no_call Blank now it clean next out s may invariant = stays_as config _ next s invariant (it.why.1.state clean s ((it.shows clean).starts s may) next out)
  no_call (NotAdopted fault) now it clean next out s may invariant = stays_as config _ next s invariant (it.why.1.state clean s ((it.shows clean).starts s may) next out)
  no_call (NotCopied fault) now it clean next out s may invariant = stays_as config _ next s invariant (it.why.1.0 clean s ((it.shows clean).starts s may) next out)

  not_made : (error : Error) (rest : Leftover D g) → AreAtRest g before → IsLeftUnmade before error rest → IsCleanLeft rest → (next : Image) → outcomes g (files_left rest).0 (files_left rest).1 next
      → IsRunOver config (image_of g before) [] next
  not_made error (leftover.Unopened now) quiet it clean next out s may invariant = absurd it
  not_made error (leftover.Store now) quiet it clean next out s may invariant = absurd it
  not_made error (leftover.Files now) quiet it clean next out s (inl has) invariant =
      let same = quiet next ((it.0.kept clean (no_state _ s has)).crash next out) in
      stays_as config _ next s invariant ∣ subst (λ image. HasState image s) (sym same) has ∣₁
  not_made error (leftover.Files now) quiet it clean next out s (inr unmade) invariant =
      ∥∥₁_map (it.1 clean s (λ image may. ∣ subst (λ image. MayStart image s) (sym (quiet image may)) (inr unmade) ∣₁) next out) (λ start.
      (s, record { may = start; has = λ has. absurd (no_state _ s has (inl unmade.0)) }, none_answered config s invariant))

  not_opened : SeenMayStay g → (laid : Files D) → AreAtRest g before → IsLaidOut g before laid → AreClean g laid.log laid.db → (error : Error) (rest : Leftover D g) → IsNotOpened g laid error rest → IsCleanLeft rest
      → IsStoreless rest → (next : Image) → outcomes g (files_left rest).0 (files_left rest).1 next → IsRunOver config (image_of g before) [] next
  not_opened stays laid quiet is sure error rest it clean none next out s may invariant =
      stays_as config _ next s invariant (kept_unopened g stays laid s (λ image there. ∣ laid_out_has g before laid is sure quiet s may image there ∣₁) rest clean none (it clean).1 next out)

closed_go_on : {D : Type 0} (g : Ghosts D) (config : Config) → ClosedGoOn g config
closed_go_on g config was bytes closed it clean session is next out s may invariant =
    let run = it.ended clean s (inl may) in
    goes_on config was next s _ (subst (λ (events : List Event). ∥ ((t : State) × HasState next t × IsStateAfter config s events t) ∥₁) (sym (is s (inl may))) (run.2 next out))

are_runs : {D : Type 0} (g : Ghosts D) → SeenMayStay g → (config : Config) (before : Files D) (bytes : Streams) → AreRuns g config before bytes
are_runs g stays config before bytes = record {
  refused = λ served now it clean session is next out s may invariant.
      let start = inl ((it.shows clean).starts s may) in
      let run = it.why.1.ended clean s start in
      goes_on config _ next s _ (subst (λ (events : List Event). ∥ ((t : State) × HasState next t × IsStateAfter config s events t) ∥₁) (sym (is s start)) (run.2 next out));
  unclosed = λ served error now it clean session is next out s may invariant.
      let start = inl ((it.shows clean).starts s may) in
      let run = it.why.1.ended clean s start in
      goes_on config _ next s _ (subst (λ (events : List Event). ∥ ((t : State) × HasState next t × IsStateAfter config s events t) ∥₁) (sym (is s start)) (run.2 next out));
  unserved = no_call g config before bytes;
  unmade = not_made g config before bytes;
  unopened = not_opened g config before bytes stays;
}

pub runs_go_on : {D : Type 0} (g : Ghosts D) → SeenMayStay g → (config : Config) → RunsGoOn g config
runs_go_on g stays config = (closed_go_on g config, are_runs g stays config)

-- ---- files at a path

-- a file before its first call
settled_only : (start : List ℕ) (mixes : Bool) (key : ℕ) (history : List CallEvent) (c : List ℕ) → history ≡ settled key ∷ []
    → MayLeave mixes (replay start history).seen (replay start history).synced (replay start history).steps c → c ≡ (replay start history).seen
settled_only start mixes key history c is (inl same) = same
settled_only start mixes key history c is (inr reached) = subst (λ (h : List CallEvent). Reaches mixes (replay start h).synced (replay start h).steps c → c ≡ (replay start h).seen) (sym is) (λ r. r) reached

module _ {S : Type 0} (first : Start S) where
  abbrev File : Type 0
  File = Modelled Host S calls.ghosts first

  fresh_at : (files : Files File) → IsFresh true files.log → IsFresh false files.db → image_of over_calls files ≡ image_at first
  fresh_at files log db = ap₂ image (ap₂ (read_of first.log first.db) log.0 log.1) (ap₂ (read_of first.log first.db) db.0 db.1)

  only_given : (is_log : Bool) (file : File) → IsFresh is_log file → (c : List ℕ) → over_calls.may_leave file c → c ≡ over_calls.seen file
  only_given is_log file fresh c may = settled_only (start_of first file) first.is_mixing file.key file.calls.log.events c fresh.1 may

  pub path_goes_on : (config : Config) → PathGoesOn first config
  path_goes_on config = (
    runs_go_on over_calls (λ file. inl refl) config,
    λ files log db. (fresh_at files log db, λ next may. ap₂ image (only_given true files.log log next.log may.0) (only_given false files.db db next.db may.1)),
  )
