-- A run over files with a newly made database starts from the first State.
use Rattle.std.proofs.Common.{◌⊎◌, ◌≡◌, List, IsTrue, inl, inr, refl, sym, subst}
use Rattle.std.proofs.Math.Logic.{∥∥₁_elim, ∥∥₁_map}
use Rattle.sqlite_disk.specs.declared.Disk.{Ghosts}
use Rattle.sqlite_disk.specs.declared.Files.{Files}
use Rattle.sqlite_wal.specs.Files.{outcomes}
use Rattle.sqlite_wal.specs.Reads.{AreClean, are_clean}
use Rattle.sqlite_wal.specs.Recovery.{Image}
use Rattle.sqlite_wal.proofs.LogLemmas.{SeenMayStay}
use Rattle.sqlite_trees.proofs.Doubt.{clean_of}
use Rattle.sqlite_trees.specs.Tree.{Trees}
use Rattle.sqlite.specs.Files.{HoldsDatabase, image_of}
use Rattle.csi_config.specs.declared.config.Config.{Config}
use Rattle.csi_keeper.specs.State.{State, first_state}
use Rattle.csi_sql.specs.Tables.{no_schema}
use Rattle.csi_server.specs.Machine.{Event}
use Rattle.csi_server.specs.Serving.{Serves}
use Rattle.csi_server.specs.Volumes.{seen, volumes}
use Rattle.csi_files.specs.Files.{HasState, files_model, image_model}
use Rattle.csi_files.specs.Making.{IsLaidOut, IsMade, IsNotLaidOut, IsToMake}
use Rattle.csi_files.specs.Serving.{SaysNew, ServesThen, WasTaken}
use Rattle.csi_files.specs.Starting.{KeepsStart, MayStart, SaysStart, ShowsLaidOut, StartsAs, StartsThen, start_model}
use Rattle.csi_files.specs.Streams.{Streams}
use Rattle.csi_files.specs.declared.run.RunReport.{RunReport}
use Rattle.csi_files.specs.declared.run.Closed.{Closed}
use Rattle.csi_files.proofs.LeaveLemmas.{database_of}
use Rattle.csi_files.proofs.MakingLemmas.{not_torn}
use Rattle.csi_files.proofs.PageLemmas.{made_holds, torn_holds_none, unmade_holds_none}
use Rattle.csi_files.proofs.RunLemmas.{Carries, ends}

made_state : (image : Image) (s : State) → IsMade image → s ≡ first_state 1 → HasState image s
made_state image s made is = let it = made_holds image made in subst (HasState image) (sym is) (record { db = it.0; holds = ∣ it.1 ∣₁; state = inr (it.2, refl) })

no_database : (image : Image) (db : Trees) → ∥ HoldsDatabase image db ∥₁ → ¬ IsToMake image
no_database image db holds wanted = ∥∥₁_elim holds (λ x y. absurd x) (λ held. elim wanted [ inl unmade ↦ unmade_holds_none image db unmade held | inr torn ↦ torn_holds_none image db torn held ])

pub no_state : (image : Image) (s : State) → HasState image s → ¬ IsToMake image
no_state image s has = no_database image has.db (∥∥₁_map has.holds (database_of image has.db))

-- a run over files after a possible making of a database reports whether one was made, and whether the
-- earlier database was without tables
says_start : (config : Config) (before after : Image) (served : RunReport) → ShowsLaidOut before after → SaysNew after served → WasTaken config after → SaysStart config before served
says_start config before after served shows says taken = record {
  taken = λ db held sound. taken db (subst (λ (i : Image). ∥ HoldsDatabase i db.trees ∥₁) (sym (shows.kept (no_database before db.trees held))) held) sound;
  had = λ db held sound. says db (subst (λ (i : Image). ∥ HoldsDatabase i db.trees ∥₁) (sym (shows.kept (no_database before db.trees held))) held) sound;
  made = λ wanted. let it = made_holds after (shows.made wanted) in (says (record { schema = no_schema; trees = it.0 }) ∣ database_of after it.0 it.1 ∣₁ it.2).1 refl;
}

module _ {D : Type 0} (g : Ghosts D) (before after : Files D) where
  pub starts_as : IsLaidOut g before after → StartsAs g before after
  starts_as it clean s (inl has) = subst (λ (i : Image). HasState i s) (sym (it.kept clean (no_state _ s has)).seen) has
  starts_as it clean s (inr unmade) = made_state _ s (it.shown clean (inl unmade.0)) unmade.1

  -- each outcome of a crash has the State, if the files were at rest
  pub laid_out_has : IsLaidOut g before after → AreClean g after.log after.db → ((image : Image) → outcomes g before.log before.db image → image ≡ image_of g before)
      → (s : State) → MayStart (image_of g before) s → (image : Image) → outcomes g after.log after.db image → HasState image s
  laid_out_has it clean quiet s (inl has) image may = subst (λ (i : Image). HasState i s) (sym (quiet image ((it.kept clean (no_state _ s has)).crash image may))) has
  laid_out_has it clean quiet s (inr unmade) image may = made_state image s (it.made clean (inl unmade.0) image may) unmade.1

  pub shows_laid_out : IsLaidOut g before after → AreClean g after.log after.db → ShowsLaidOut (image_of g before) (image_of g after)
  shows_laid_out it clean = record { made = it.shown clean; kept = λ none. (it.kept clean none).seen; starts = starts_as it clean }

  module _ (stays : SeenMayStay g) where
    pub laid_out_keeps : IsLaidOut g before after → KeepsStart g before after
    laid_out_keeps it clean s all image may = ∥∥₁_elim (all (image_of g before) (stays before.log, stays before.db)) squash₁ (λ (start : MayStart (image_of g before) s). elim start [
      | inl has ↦ all image ((it.kept clean (no_state _ s has)).crash image may)
      | inr unmade ↦ ∣ inl (made_state image s (it.made clean (inl unmade.0) image may) unmade.1) ∣₁
    ])

    pub not_laid_out_keeps : IsNotLaidOut g before after → KeepsStart g before after
    not_laid_out_keeps it clean s all image may = ∥∥₁_elim (all (image_of g before) (stays before.log, stays before.db)) squash₁ (λ (start : MayStart (image_of g before) s). elim start [
      | inl has ↦ all image ((it.kept clean (no_state _ s has)).crash image may)
      | inr unmade ↦ elim (it.crash clean (not_torn _ unmade.0) image may) [
        | inl was ↦ all image was
        | inr other ↦ elim other [ inl none ↦ ∣ inr (none, unmade.1) ∣₁ | inr made ↦ ∣ inl (made_state image s made unmade.1) ∣₁ ]
      ]
    ])

  -- a run over the files after the making is a run from the State that a run would have started from
  pub started : (config : Config) (bytes : Streams) (closed : Closed D) → IsLaidOut g before after → (AreClean g closed.files.log closed.files.db → AreClean g after.log after.db)
      → Serves (volumes config) (image_model (image_of g after) closed.report.is_new) (seen config (files_model g closed.files closed.report.refusals closed.report.is_down)) bytes.unread bytes.left bytes.held bytes.holds closed.report.end
      → Serves (volumes config) (start_model (image_of g before) closed.report.is_new) (seen config (files_model g closed.files closed.report.refusals closed.report.is_down)) bytes.unread bytes.left bytes.held bytes.holds closed.report.end
  started config bytes closed laid honest it =
      let last = seen config (files_model g closed.files closed.report.refusals closed.report.is_down) in (
        it.0,
        it.1,
        λ z s may.
            let carries : Carries (image_model (image_of g after) closed.report.is_new) last (start_model (image_of g before) closed.report.is_new) last s = record {
              refused = (refl, refl);
              down = (refl, refl);
              held = λ t has. has;
              only = λ alone t there. absurd there;
              left = λ a t has there. inl there;
              tied = λ tied. tied;
              ties = λ a has tied. tied;
            } in
            let had = elim may as (λ _. HasState (image_of g after) s ⊎ (IsTrue closed.report.is_new × (s ≡ first_state 1))) [
              | inl start ↦ inl (starts_as laid (honest (clean_of (are_clean g closed.files.log closed.files.db) z)) s start)
              | inr new ↦ inr new
            ] in
            ends (volumes config) (image_model (image_of g after) closed.report.is_new) last _ _ s carries it.0 _ bytes.held bytes.holds closed.report.end (it.2 z s had),
      )

-- the States that this run leaves are left by a run from the start
pub started_then : (config : Config) (before after : Image) (bytes : Streams) (served : RunReport) (Clean : Type 0) (Leaves : State → List Event → Type 0) → (Clean → ShowsLaidOut before after)
    → ServesThen config after bytes served Clean Leaves → StartsThen config before bytes served Clean Leaves
started_then config before after bytes served Clean Leaves shows it = record {
  read = it.read;
  consumed = it.consumed;
  new = λ clean. says_start config before after served (shows clean) (it.new clean).0 (it.new clean).1;
  ended = λ clean s may. it.ended clean s (elim may as (λ _. HasState after s ⊎ (IsTrue served.is_new × (s ≡ first_state 1))) [
    | inl start ↦ inl ((shows clean).starts s start)
    | inr new ↦ inr new
  ]);
}
