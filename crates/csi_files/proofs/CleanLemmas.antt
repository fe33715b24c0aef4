-- A disk that was truthful at the end of a run was truthful from its opening on.
use Rattle.std.proofs.Common.{◌≡◌, Bool, subst, arith}
use Rattle.sqlite_disk.specs.declared.Disk.{Ghosts}
use Rattle.sqlite_disk.specs.declared.Files.{Files}
use Rattle.sqlite_wal.specs.Reads.{AreClean}
use Rattle.sqlite_store.specs.declared.store.FileStore.{FileStore}
use Rattle.sqlite.specs.Files.{file_state, over_files}
use Rattle.sqlite.specs.Held.{Held}
use Rattle.sqlite.specs.State.{HasCleanDisk}
use Rattle.csi_config.specs.declared.config.Config.{Config}
use Rattle.csi_tables.specs.Keeping.{connection_of, tables_model}
use Rattle.csi_files.specs.Streams.{Streams}
use Rattle.csi_files.specs.declared.run.Refusal.{Refusal}
use Rattle.csi_files.specs.declared.run.Refusal.TheVariants.{Blank, NotAdopted, NotCopied}
use Rattle.csi_files.specs.declared.run.RunReport.{RunReport}
use Rattle.csi_files.specs.declared.run.Closed.{Closed}
use Rattle.csi_files.specs.declared.run.RunFailure.{RunFailure}
use Rattle.csi_files.specs.declared.run.RunFailure.TheVariants.{NoFiles, NotOpened, Refused, Left, NotClosed}
use Rattle.csi_files.specs.Leaving.{HoldsCommit, IsFinished, IsLeft, IsUnfinished}
use Rattle.csi_files.specs.Adopted.{IsRead, IsRefused, ServesOver}
use Rattle.csi_files.specs.Starting.{EndsClean}

module _ {D : Type 0} (g : Ghosts D) (config : Config) (conn back : Held (FileStore D g)) where
  module _ (served : RunReport) (bytes : Streams) (over : ServesOver over_files config conn back served bytes) where
    from_end : HasCleanDisk (file_state (connection_of over_files over.last)) → HasCleanDisk (file_state conn)
    from_end clean = let late : (tables_model over_files over.last).doubt ≡ 0 = clean in omega (arith, over.adopted.clean, over.run.clean, late)

    pub finished_clean : (outcome : Closed D) → IsFinished g served back outcome → AreClean g outcome.files.log outcome.files.db → HasCleanDisk (file_state conn)
    finished_clean outcome it clean = from_end (subst (λ (h : Held (FileStore D g)). HoldsCommit g h outcome.files) over.back_is (it.copied clean)).was_clean

    pub unfinished_clean : (e : RunFailure D g) → IsUnfinished g served back e → EndsClean e → HasCleanDisk (file_state conn)
    unfinished_clean (NoFiles error) h clean = absurd clean
    unfinished_clean (NotOpened error rest) h clean = absurd clean
    unfinished_clean (Refused refusal now) h clean = absurd h
    unfinished_clean (Left outcome now) h clean = from_end ((subst (λ (it : Held (FileStore D g)). IsLeft g it now) over.back_is h.1).clean clean)
    unfinished_clean (NotClosed outcome error now) h clean = from_end ((subst (λ (it : Held (FileStore D g)). IsLeft g it now) over.back_is h.1.0).clean clean)

module _ {D : Type 0} (g : Ghosts D) (config : Config) (conn : Held (FileStore D g)) where
  pub given_up_clean : (is_existing : Bool) (refusal : Refusal) (back : Held (FileStore D g)) (now : Files D) → IsLeft g back now → IsRefused over_files config conn is_existing refusal back → AreClean g now.log now.db
      → HasCleanDisk (file_state conn)
  given_up_clean is_existing Blank back now h u clean = subst (λ (x : Held (FileStore D g)). HasCleanDisk (file_state x)) u.0 (h.clean clean)
  given_up_clean is_existing (NotAdopted fault) back now h u clean = let late : HasCleanDisk (file_state back) = h.clean clean in omega (arith, u.clean, late)
  given_up_clean is_existing (NotCopied fault) back now h u clean =
      let read : IsRead over_files config conn back = u.0 in
      let there : IsLeft g (connection_of over_files read.last) now = subst (λ (x : Held (FileStore D g)). IsLeft g x now) read.back_is h in
      let late : (tables_model over_files read.last).doubt ≡ 0 = there.clean clean in
      omega (arith, read.adopted.clean, read.quiet.clean, late)
