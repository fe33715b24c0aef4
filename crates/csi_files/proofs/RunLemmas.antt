-- A run that is seen through other models.
use Rattle.std.proofs.Common.{◌≡◌, ◌⊎◌, ℕ, List, [], Option, true, false, inl, inr, refl, sym, subst, subst₂, ◌∙◌, arith}
use Rattle.csi_config.specs.declared.config.Config.{Config}
use Rattle.csi_keeper.specs.Model.{Model}
use Rattle.csi_keeper.specs.State.{State}
use Rattle.csi_keeper.specs.Invariant.{IsInvariant}
use Rattle.csi_keeper.specs.Keeper.{IsQuiet}
use Rattle.csi_keeper.specs.declared.change.StoreFault.TheVariants as fault
use Rattle.csi_through.specs.Copying.{IsWhy}
use Rattle.csi_server.specs.declared.end.RunEnd.{RunEnd}
use Rattle.csi_server.specs.declared.end.RunEnd.TheVariants.{Done, Malformed, ReadFailed, TurnsSpent, WriteFailed, NoMemory}
use Rattle.envelope.specs.Envelope.{CallBytes}
use Rattle.csi_server.specs.Machine.{Event, Machine, RoseBy, Runs, StaysDown, is_down_after, store_marks}
use Rattle.csi_server.specs.Serving.{Answered, Ended}
use Rattle.csi_server.specs.Volumes.{seen, volumes}
use Rattle.csi_files.specs.Streams.{Streams}
use Rattle.csi_files.specs.declared.run.RunReport.{RunReport}
use Rattle.csi_tables.specs.Keeping.{tables_model}
use Rattle.csi_tables.specs.declared.tables.Tables.{Tables}
use Rattle.sqlite.specs.Store.{Ghosts}
use Rattle.csi_files.specs.Adopted.{IsUncopied, ServesFrom, ServesWith, with_counts}
use Rattle.csi_files.specs.Serving.{events_of}

-- A fact of a run from the State s through the models old and new also holds through the models first and
-- last.
pub record Carries {S : Type 0} (old new first last : Model S) (s : S) : Type 0 where
  pub refused : (first.refusals ≡ old.refusals) × (last.refusals ≡ new.refusals)
  pub down : (first.is_down ≡ old.is_down) × (last.is_down ≡ new.is_down)
  pub held : (t : S) → new.holds t → last.holds t
  pub only : ((t : S) → first.survivors t → t ≡ s) → (t : S) → old.survivors t → t ≡ s
  pub left : (a t : S) → new.holds a → last.survivors t → new.survivors t ⊎ (t ≡ a)
  pub tied : first.tied → old.tied
  pub ties : (a : S) → new.holds a → new.tied → last.tied

module _ {S : Type 0} (m : Machine S) (old new first last : Model S) (s : S) (c : Carries old new first last s) where
  runs : (events : List Event) → Runs m old new s events → Runs m first last s events
  runs events r = record {
    allowed = r.allowed;
    formed = r.formed;
    held = c.held _ r.held;
    counted = subst₂ (λ (a b : ℕ). RoseBy a b (store_marks events)) (sym c.refused.0) (sym c.refused.1) r.counted;
    survive = λ alone t left. elim (c.left _ t r.held left) [ inl was ↦ r.survive (c.only alone) t was | inr is ↦ inl is ];
    ties = λ tied. c.ties _ r.held (r.ties (c.tied tied));
    down = subst (λ b. StaysDown m b events) (sym c.down.0) r.down;
    shut = λ shut. c.down.1 ∙ r.shut (subst (λ b. is_down_after b events ≡ true) c.down.0 shut);
  }

  answered : {read : List ℕ} {held holds : Option (List ℕ)} {IsEnd : List CallBytes → Type 0} {more : List ℕ} → Answered m old new s read held holds IsEnd more → Answered m first last s read held holds IsEnd more
  answered it = record { events = it.events; ended = it.ended; run = runs it.events it.run; written = it.written }

  pub ends : (read : List ℕ) (AtEnd : Type 0) (held holds : Option (List ℕ)) (end : RunEnd) → Ended m old new s read AtEnd held holds end → Ended m first last s read AtEnd held holds end
  ends read AtEnd held holds Done it = (answered it.0, it.1)
  ends read AtEnd held holds (Malformed f) it = (answered it.0, it.1)
  ends read AtEnd held holds ReadFailed it = answered it
  ends read AtEnd held holds TurnsSpent it = (answered it.0, it.1)
  ends read AtEnd held holds WriteFailed it = record { events = it.events; begins = it.begins; run = runs it.events it.run; earlier = it.earlier; part = it.part; cut = it.cut; written = it.written }
  ends read AtEnd held holds NoMemory it = (runs [] it.0, it.1)

  -- the run through other models is a run of the same calls
  pub same_events : (read : List ℕ) (AtEnd : Type 0) (held holds : Option (List ℕ)) (end : RunEnd) (it : Ended m old new s read AtEnd held holds end)
      → events_of m old new s read AtEnd held holds end it ≡ events_of m first last s read AtEnd held holds end (ends read AtEnd held holds end it)
  unfolding ends answered
  same_events read AtEnd held holds Done it = refl
  same_events read AtEnd held holds (Malformed f) it = refl
  same_events read AtEnd held holds ReadFailed it = refl
  same_events read AtEnd held holds TurnsSpent it = refl
  same_events read AtEnd held holds WriteFailed it = refl
  same_events read AtEnd held holds NoMemory it = refl

-- the run that was ended
pub run_in : {S : Type 0} (m : Machine S) (old new : Model S) (s : S) (read : List ℕ) (AtEnd : Type 0) (held holds : Option (List ℕ)) (end : RunEnd) (it : Ended m old new s read AtEnd held holds end)
    → Runs m old new s (events_of m old new s read AtEnd held holds end it)
run_in m old new s read AtEnd held holds Done it = it.0.run
run_in m old new s read AtEnd held holds (Malformed f) it = it.0.run
run_in m old new s read AtEnd held holds ReadFailed it = it.run
run_in m old new s read AtEnd held holds TurnsSpent it = it.0.run
run_in m old new s read AtEnd held holds WriteFailed it = it.run
run_in m old new s read AtEnd held holds NoMemory it = it.0

-- A run over a keeper that was read before it, and had no refusal counted then: its counts begin with the
-- run.
pub counted_from : (config : Config) (first mid last : Model State) (served : RunReport) (bytes : Streams) → IsQuiet first mid → first.is_down ≡ false
    → (mid.doubt ≡ 0 → (s : State) → first.holds s → IsInvariant config s → mid.refusals ≡ 0) → ServesWith config mid last served bytes
    → ServesFrom config first last served bytes
counted_from config first mid last served bytes quiet up none it = record {
  clean = omega (arith, quiet.clean, it.clean);
  writes = it.writes;
  serves = (
    it.serves.0,
    it.serves.1,
    λ z s has.
        let early : mid.doubt ≡ 0 = omega (arith, it.clean, z) in
        let carries : Carries (seen config mid) (seen config last) (seen config (with_counts 0 false first)) (seen config (with_counts served.refusals served.is_down last)) s = record {
          refused = (sym (none early s has.0 has.1), it.counted);
          down = (sym (quiet.down ∙ up), it.down);
          held = λ t has. has;
          only = λ alone t there. alone t (quiet.crash early t there);
          left = λ a t has there. inl there;
          tied = λ tied. quiet.ties early tied;
          ties = λ a has tied. tied;
        } in
        ends (volumes config) (seen config mid) (seen config last) _ _ s carries it.serves.0 _ bytes.held bytes.holds served.end (it.serves.2 z s (quiet.state early s has.0, has.1)),
  );
}

-- a keeper before its first call
still : (m : Model State) → IsQuiet m m
still m = record {
  clean = omega arith;
  state = λ z s has. has;
  crash = λ z t there. there;
  ties = λ z tied. tied;
  down = refl;
}

-- a run over a keeper that has refused nothing
pub counted_fresh : (config : Config) (first last : Model State) (served : RunReport) (bytes : Streams) → first.refusals ≡ 0 → first.is_down ≡ false
    → ServesWith config first last served bytes → ServesFrom config first last served bytes
counted_fresh config first last served bytes none up it =
    counted_from config first first last served bytes (still first) up (λ z s has invariant. none) it

-- a run over a keeper that was read for a copy, which memory refused
pub counted_uncopied : (config : Config) (first mid last : Model State) (served : RunReport) (bytes : Streams) → first.refusals ≡ 0 → first.is_down ≡ false
    → IsQuiet first mid → IsWhy first mid fault.NoMemory → ServesWith config mid last served bytes → ServesFrom config first last served bytes
counted_uncopied config first mid last served bytes none up quiet why it =
    counted_from config first mid last served bytes quiet up (λ z s has invariant. why.count z config s has invariant ∙ none) it

-- a run over the file of tables, without a copy
pub file_serves : {S : Type 0} (g : Ghosts S) (config : Config) (first mid last : Tables S) (report : RunReport) (bytes : Streams) → (tables_model g first).refusals ≡ 0
    → (tables_model g first).is_down ≡ false → {P Q : Type 0} → (P × (mid ≡ first)) ⊎ (Q × IsUncopied g first mid fault.NoMemory)
    → ServesWith config (tables_model g mid) (tables_model g last) report bytes → ServesFrom config (tables_model g first) (tables_model g last) report bytes
file_serves g config first mid last report bytes none up (inl (_, same)) it =
    counted_fresh config (tables_model g first) (tables_model g last) report bytes none up (subst (λ t. ServesWith config (tables_model g t) (tables_model g last) report bytes) same it)
file_serves g config first mid last report bytes none up (inr (_, read)) it =
    counted_uncopied config (tables_model g first) (tables_model g mid) (tables_model g last) report bytes none up read.0 read.1 it
