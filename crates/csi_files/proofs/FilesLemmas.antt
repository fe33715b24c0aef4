-- From two files to the State that they have, and back.
use Rattle.std.proofs.Common.{◌⊎◌, ◌↔◌, ◌≡◌, ◌∙◌, Bool, List, Result, Ok, Err, IfOk, IfErr, IsTrue, false, inl, inr, refl, sym, ap, subst, subst₂, arith}
use Rattle.std.proofs.lemmas.Bool.{cases_Bool}
use Rattle.std.proofs.Math.Logic.{∥∥₁_elim, ∥∥₁_map}
use Rattle.std.specs.Io.KnownBytes.{IsAtEnd}
use Rattle.sqlite_disk.specs.declared.Disk.{Ghosts}
use Rattle.sqlite_disk.specs.declared.Files.{Files}
use Rattle.sqlite_wal.specs.Reads.{AreClean, are_clean}
use Rattle.sqlite_wal.specs.Recovery.{Image}
use Rattle.sqlite_wal.proofs.LogLemmas.{SeenMayStay}
use Rattle.sqlite_trees.specs.Objects.{catalog_tree}
use Rattle.sqlite_trees.specs.Props.{Trees-set}
use Rattle.sqlite_trees.specs.Tree.{Trees}
use Rattle.sqlite_trees.proofs.Doubt.{clean_of}
use Rattle.sqlite_catalog.specs.Listing.{IsSound}
use Rattle.sqlite_catalog.proofs.ReadLemmas.{lists_once}
use Rattle.sqlite_schema.specs.declared.schema.Schema.{Schema}
use Rattle.sqlite_store.specs.declared.store.FileStore.{FileStore}
use Rattle.sqlite_store.specs.Laws.{settled_at}
use Rattle.sqlite.specs.Effect.{Database, IsDatabase}
use Rattle.sqlite.specs.Files.{HoldsDatabase, IsOpened, file_state, image_of, over_files}
use Rattle.sqlite.specs.Held.{Held}
use Rattle.sqlite.specs.declared.error.Error.{Error}
use Rattle.sqlite.specs.declared.file.Leftover.{Leftover}
use Rattle.sqlite.specs.Start.{FindsIn}
use Rattle.sqlite.specs.State.{HasCleanDisk}
use Rattle.csi_config.specs.declared.config.Config.{Config}
use Rattle.csi_keeper.specs.Invariant.{IsInvariant}
use Rattle.csi_keeper.specs.Model.{Model}
use Rattle.csi_keeper.specs.State.{State, first_state}
use Rattle.csi_sql.specs.Tables.{no_schema, schema}
use Rattle.csi_tables.specs.Holding.{Holds, IsEitherRows, IsRows}
use Rattle.csi_tables.specs.Keeping.{connection_of, tables_model}
use Rattle.csi_tables.specs.Laws.{OneState}
use Rattle.csi_tables.specs.declared.tables.Tables.{Tables}
use Rattle.csi_adoption.specs.declared.fault.AdoptFault.{AdoptFault}
use Rattle.csi_adoption.specs.Faults.{is_failure}
use Rattle.csi_adoption.specs.Judging.{IsFaultOf}
use Rattle.csi_adoption.specs.Adopting.{IsAdopted, IsStateOf, IsUnadopted}
use Rattle.csi_server.specs.Machine.{Event, Runs, state_after}
use Rattle.csi_server.specs.Serving.{Serves}
use Rattle.csi_server.specs.Volumes.{IsPending, seen, volumes}
use Rattle.csi_files.specs.Streams.{AreUntouched, Streams}
use Rattle.csi_files.specs.declared.run.Refusal.{Refusal}
use Rattle.csi_files.specs.declared.run.Refusal.TheVariants.{Blank, NotAdopted, NotCopied}
use Rattle.csi_files.specs.declared.run.RunReport.{RunReport}
use Rattle.csi_files.specs.declared.run.Closed.{Closed}
use Rattle.csi_files.specs.declared.run.RunFailure.{RunFailure}
use Rattle.csi_files.specs.declared.run.RunFailure.TheVariants.{NoFiles, NotOpened, Refused, Left, NotClosed}
use Rattle.csi_files.specs.Again.{AreFoundAgain}
use Rattle.csi_files.specs.Files.{HasState, HoldsSealed, IsStateIn, files_model, image_model}
use Rattle.csi_files.specs.Leaving.{HoldsCommit, IsFinished, IsLeft, IsUnfinished}
use Rattle.csi_files.specs.Adopted.{IsRead, IsRefused, IsRefusedBack, IsUnserved, ServesOver, ServesTables, with_counts}
use Rattle.csi_files.specs.Serving.{AllServed, HasNone, HasRefused, IsAsked, IsBlankAsked, IsNotServed, IsStateAfter, Keeps, KeepsDatabase, LeavesAfter, Refuses, SaysNew, ServesThen, WasTaken, counts_model}
use Rattle.csi_files.proofs.FirstLemmas.{first_rows}
use Rattle.csi_files.proofs.LeaveLemmas.{database_of, each_left}
use Rattle.csi_files.proofs.RunLemmas.{Carries, ends, run_in, same_events}

not_none : schema ≡ no_schema → ⊥
not_none e = let tables = ap (λ s. s.tables) e in absurd cc

-- trees are a database of only one schema
one_schema : (s t : Schema) (db : Trees) → IsSound s db → IsSound t db → s ≡ t
one_schema s t db a b = lists_once (db catalog_tree) s t a.lists b.lists

either_sound : (s : State) (db : Trees) → IsEitherRows s db → IsSound schema db
either_sound s db (inl first) = first.0.sound
either_sound s db (inr rows) = rows.sound

-- a database with these trees has their State
pub state_of : (db : Database) (trees : Trees) (s : State) → db.trees ≡ trees → IsSound db.schema db.trees → IsStateIn trees s → IsStateOf db s
state_of db trees s same sound (inl rows) =
    inl (one_schema db.schema schema trees (subst (IsSound db.schema) same sound) (either_sound s trees rows), subst (IsEitherRows s) (sym same) rows)
state_of db trees s same sound (inr none) =
    inr (one_schema db.schema no_schema trees (subst (IsSound db.schema) same sound) none.0, none.1)

-- a database has only one State
pub one_state_of : OneState → (db : Database) (s t : State) → IsStateOf db s → IsStateOf db t → s ≡ t
one_state_of one db s t (inl a) (inl b) = one s t db.trees a.1 b.1
one_state_of one db s t (inl a) (inr b) = absurd (not_none (sym a.0 ∙ b.0))
one_state_of one db s t (inr a) (inl b) = absurd (not_none (sym b.0 ∙ a.0))
one_state_of one db s t (inr a) (inr b) = a.1 ∙ sym b.1

-- a database has the State of its trees
in_trees : (db : Database) (s : State) → IsSound db.schema db.trees → IsStateOf db s → IsStateIn db.trees s
in_trees db s sound (inl it) = inl it.1
in_trees db s sound (inr it) = inr (subst (λ q. IsSound q db.trees) it.0 sound, it.1)

-- the laws of the machine for a run over tables: a stop may leave only these States, and the invariant is
-- kept
pub record RunLaws {D : Type 0} (g : Ghosts D) (config : Config) : Type 0 where
  pub left : (old new : Tables (FileStore D g)) (s : State) (events : List Event)
      → Runs (volumes config) (seen config (tables_model over_files old)) (seen config (tables_model over_files new)) s events
      → ((t : State) → (tables_model over_files old).survivors t → t ≡ s)
      → (t : State) → (tables_model over_files new).survivors t → (t ≡ state_after (volumes config) s events) ⊎ IsPending config s events t
  pub runs : (s : State) (events : List Event) → IsInvariant config s → IsInvariant config (state_after (volumes config) s events)
  pub pending : (s : State) (events : List Event) (t : State) → IsInvariant config s → IsPending config s events t → IsInvariant config t

module _ {D : Type 0} (g : Ghosts D) where
  -- an opening of files that have a State finds the State
  pub finds_state : (image : Image) (s : State) (conn : Held (FileStore D g)) → HasState image s → IsOpened conn → FindsIn image (file_state conn) → IsStateOf (file_state conn).committed s
  finds_state image s conn has opened found =
      let same : (file_state conn).committed.trees ≡ has.db = ∥∥₁_elim has.holds (Trees-set _ _) (λ held. found.holds has.db (database_of image has.db held)) in
      state_of (file_state conn).committed has.db s same (opened.1 opened.0.is_open).1 has.state

  -- files that a database was copied into have its State
  kept_state : (conn : Held (FileStore D g)) (image : Image) (s : State) → IsTrue (file_state conn).is_open → Holds (file_state conn) s
      → ∥ HoldsSealed image (file_state conn).committed.trees ∥₁ → HasState image s
  kept_state conn image s is_open holds held =
      let shows = holds is_open in
      record { db = (file_state conn).committed.trees; holds = held; state = inl (inr (subst (λ (d : Database). IsRows s d.trees) shows.settled shows.rows)) }

  module _ (stays : SeenMayStay g) (one : OneState) (config : Config) (laws : RunLaws g config) (was : Image) (conn : Held (FileStore D g)) (opened : HasCleanDisk (file_state conn) → IsOpened conn)
      (found : HasCleanDisk (file_state conn) → FindsIn was (file_state conn)) where
    abbrev model_of : Tables (FileStore D g) → Model State
    model_of t = tables_model over_files t

    start : HasCleanDisk (file_state conn) → (s : State) → HasState was s → IsStateOf (file_state conn).committed s
    start clean s has = finds_state was s conn has (opened clean) (found clean)

    -- the opening found the database of the files
    found_trees : HasCleanDisk (file_state conn) → (db : Database) → ∥ HoldsDatabase was db.trees ∥₁ → (file_state conn).committed.trees ≡ db.trees
    found_trees clean db held = ∥∥₁_elim held (Trees-set _ _) (λ holds. (found clean).holds db.trees holds)

    found_schema : HasCleanDisk (file_state conn) → (db : Database) → ∥ HoldsDatabase was db.trees ∥₁ → IsDatabase db → (file_state conn).committed.schema ≡ db.schema
    found_schema clean db held sound =
        let committed = (file_state conn).committed in
        one_schema committed.schema db.schema db.trees (subst (IsSound committed.schema) (found_trees clean db held) ((opened clean).1 (opened clean).0.is_open).1) sound

    -- the connection has the schema of the database of the files
    conn_schema : HasCleanDisk (file_state conn) → (db : Database) → ∥ HoldsDatabase was db.trees ∥₁ → IsDatabase db → conn.schema ≡ db.schema
    conn_schema clean db held sound = ap (λ (d : Database). d.schema) (opened clean).0.clean ∙ found_schema clean db held sound

    module _ (t : Tables (FileStore D g)) (it : IsAdopted over_files config conn t) (z : (model_of t).doubt ≡ 0) (s : State) (state_is : IsStateOf (file_state conn).committed s) where
      holds_it : (model_of t).holds s × IsInvariant config s
      holds_it = let held = it.held z in subst (λ u. (model_of t).holds u × IsInvariant config u) (one_state_of one (file_state conn).committed held.0 s held.1 state_is) (held.3, held.2)

      only_it : (u : State) → (model_of t).survivors u → u ≡ s
      only_it u there = one_state_of one (file_state conn).committed u s (it.settled z u there) state_is

    -- tables that were adopted were of a State
    was_taken : (t : Tables (FileStore D g)) → IsAdopted over_files config conn t → (model_of t).doubt ≡ 0 → WasTaken config was
    was_taken t it z db held sound =
        let clean : HasCleanDisk (file_state conn) = omega (arith, it.clean, z) in
        let had = it.held z in
        ∣ (
          had.0,
          subst₂ (λ (q : Schema) (t : Trees). IsStateOf (record { schema = q; trees = t }) had.0) (found_schema clean db held sound) (found_trees clean db held) had.1,
          had.2,
        ) ∣₁

    -- ---- calls were served

    module _ (back : Held (FileStore D g)) (served : RunReport) (bytes : Streams) (over : ServesOver over_files config conn back served bytes)
        (blank : IsTrue served.is_new ↔ (conn.schema ≡ no_schema)) where
      abbrev end : Held (FileStore D g)
      end = connection_of over_files over.last

      abbrev first_model : Model State
      first_model = seen config (with_counts 0 false (model_of over.first))

      abbrev last_model : Model State
      last_model = seen config (with_counts served.refusals served.is_down (model_of over.last))

      -- the State that the database had
      begins : HasCleanDisk (file_state conn) → (s : State) → (image_model was served.is_new).holds s → IsStateOf (file_state conn).committed s
      begins clean s has = elim has [
        | inl had ↦ start clean s had
        | inr new ↦ inr (sym (ap (λ (d : Database). d.schema) (opened clean).0.clean) ∙ blank.0 new.0, new.1)
      ]

      -- the run reports it if the database had no table
      says_new : HasCleanDisk (file_state conn) → SaysNew was served
      says_new clean db held sound =
          let same = conn_schema clean db held sound in
          (λ yes. sym same ∙ blank.0 yes, λ none. blank.1 (same ∙ none))

      -- the files were closed
      closed : (files : Files D) → (AreClean g files.log files.db → HoldsCommit g back files)
          → Serves (volumes config) (image_model was served.is_new) (seen config (files_model g files served.refusals served.is_down)) bytes.unread bytes.left bytes.held bytes.holds served.end
      closed files copy = (
        over.run.serves.0,
        over.run.serves.1,
        λ z s has.
            let copied : HoldsCommit g end files = subst (λ (h : Held (FileStore D g)). HoldsCommit g h files) over.back_is (copy (clean_of (are_clean g files.log files.db) z)) in
            let late : (model_of over.last).doubt ≡ 0 = copied.was_clean in
            let early : (model_of over.first).doubt ≡ 0 = omega (arith, over.run.clean, late) in
            let sure : HasCleanDisk (file_state conn) = omega (arith, over.adopted.clean, early) in
            let is = begins sure s has in
            let carries : Carries first_model last_model (image_model was served.is_new) (seen config (files_model g files served.refusals served.is_down)) s = record {
              refused = (refl, refl);
              down = (refl, refl);
              held = λ t it. (kept_state end (image_of g files) t copied.was_open it.0.0 (copied.each (image_of g files) (stays files.log, stays files.db)), it.1);
              only = λ _. only_it over.first over.adopted early s is;
              left = λ a t it there.
                  let had = kept_state end there.0 a copied.was_open it.0.0 (copied.each there.0 there.1) in
                  inr (one_state_of one (file_state there.2.conn).committed t a there.2.state (finds_state there.0 a there.2.conn had there.2.opened there.2.found));
              tied = λ _. over.adopted.ties early;
              ties = λ a it _ image may. ∣ (a, kept_state end image a copied.was_open it.0.0 (copied.each image may)) ∣₁;
            } in
            ends (volumes config) first_model last_model _ _ s carries over.run.serves.0 _ bytes.held bytes.holds served.end (over.run.serves.2 late s (holds_it over.first over.adopted early s is)),
      )

      pub finished : (outcome : Closed D) → IsFinished g served back outcome
          → Serves (volumes config) (image_model was outcome.report.is_new) (seen config (files_model g outcome.files outcome.report.refusals outcome.report.is_down)) bytes.unread bytes.left bytes.held bytes.holds outcome.report.end
      finished outcome it =
          subst (λ (o : RunReport). Serves (volumes config) (image_model was o.is_new) (seen config (files_model g outcome.files o.refusals o.is_down)) bytes.unread bytes.left bytes.held bytes.holds o.end) (sym it.same)
          (closed outcome.files it.copied)

      -- calls were served, and the files were closed or given up
      serves_then : (Clean : Type 0) (Leaves : State → List Event → Type 0) → (Clean → HasCleanDisk (file_state end))
          → (Clean → (s : State) (events : List Event) → Runs (volumes config) first_model last_model s events → ((t : State) → (model_of over.first).survivors t → t ≡ s) → (model_of over.first).tied → IsInvariant config s → Leaves s events)
          → ServesThen config was bytes served Clean Leaves
      serves_then Clean Leaves sure leaves = record {
        read = over.run.serves.0;
        consumed = over.run.serves.1;
        new = λ clean.
            let late : (model_of over.last).doubt ≡ 0 = sure clean in
            let early : (model_of over.first).doubt ≡ 0 = omega (arith, over.run.clean, late) in
            (says_new (omega (arith, over.adopted.clean, early)), was_taken over.first over.adopted early);
        ended = λ clean s has.
            let late : (model_of over.last).doubt ≡ 0 = sure clean in
            let early : (model_of over.first).doubt ≡ 0 = omega (arith, over.run.clean, late) in
            let is = begins (omega (arith, over.adopted.clean, early)) s has in
            let only = only_it over.first over.adopted early s is in
            let tied = over.adopted.ties early in
            let read = over.run.serves.0 in
            let run = over.run.serves.2 late s (holds_it over.first over.adopted early s is) in
            let carries : Carries first_model last_model (counts_model 0 false) (counts_model served.refusals served.is_down) s = record {
              refused = (refl, refl);
              down = (refl, refl);
              held = λ t it. tt;
              only = λ _. only;
              left = λ a t it none. absurd none;
              tied = λ _. tied;
              ties = λ a it _. tt;
            } in (
              ends (volumes config) first_model last_model _ _ s carries read _ bytes.held bytes.holds served.end run,
              (holds_it over.first over.adopted early s is).1,
              subst (Leaves s) (same_events (volumes config) first_model last_model _ _ s carries read _ bytes.held bytes.holds served.end run)
                  (leaves clean s _ (run_in (volumes config) first_model last_model s read (IsAtEnd bytes.left) bytes.held bytes.holds served.end run) only tied (holds_it over.first over.adopted early s is).1),
            );
      }

      -- each outcome of a crash of the closed files has the State after the run
      closed_after : (files : Files D) → (AreClean g files.log files.db → HoldsCommit g back files) → ServesThen config was bytes served (AreClean g files.log files.db) (LeavesAfter g config files)
      closed_after files copy = serves_then (AreClean g files.log files.db) (LeavesAfter g config files) (λ clean. (copied clean).was_clean) (λ clean s events run only tied invariant image may.
          ∣ (
            state_after (volumes config) s events,
            kept_state end image (state_after (volumes config) s events) (copied clean).was_open run.held.0.0 ((copied clean).each image may),
            record { is = inl refl; invariant = run.held.1 },
          ) ∣₁)
        where
          copied : AreClean g files.log files.db → HoldsCommit g end files
          copied clean = subst (λ (h : Held (FileStore D g)). HoldsCommit g h files) over.back_is (copy clean)

      pub finished_after : (outcome : Closed D) → IsFinished g served back outcome → ServesThen config was bytes outcome.report (AreClean g outcome.files.log outcome.files.db) (LeavesAfter g config outcome.files)
      finished_after outcome it =
          subst (λ (o : RunReport). ServesThen config was bytes o (AreClean g outcome.files.log outcome.files.db) (LeavesAfter g config outcome.files)) (sym it.same) (closed_after outcome.files it.copied)

      -- a stop leaves a State after the run
      after : (s : State) (events : List Event) → Runs (volumes config) first_model last_model s events → ((t : State) → (model_of over.first).survivors t → t ≡ s) → IsInvariant config s
          → (t : State) → (model_of over.last).survivors t → IsStateAfter config s events t
      after s events run only invariant t there =
          let old = record over.first { health = record { refusals = 0; is_down = false } } in
          let new = record over.last { health = record { refusals = served.refusals; is_down = served.is_down } } in
          let is = laws.left old new s events run only t there in
          record { is = is; invariant = elim is [ inl is_last ↦ subst (IsInvariant config) (sym is_last) (laws.runs s events invariant) | inr is_pending ↦ laws.pending s events t invariant is_pending ] }

      left_after : (files : Files D) → IsLeft g back files → ServesThen config was bytes served (AreClean g files.log files.db) (LeavesAfter g config files)
      left_after files there =
          let it : IsLeft g end files = subst (λ (h : Held (FileStore D g)). IsLeft g h files) over.back_is there in
          serves_then (AreClean g files.log files.db) (LeavesAfter g config files) it.clean (λ clean s events run only tied invariant image may.
          ∥∥₁_map (each_left g end files it clean image may) (λ found.
          let rows = run.ties tied (it.clean clean) found.0 found.1 in
          (rows.0, record { db = found.0; holds = ∣ found.2 ∣₁; state = inl (inr rows.1) }, after s events run only invariant rows.0 (found.0, found.1, rows.1))))

      pub unfinished : (e : RunFailure D g) → IsUnfinished g served back e → IsNotServed g config was bytes (λ _ _. ⊥) e
      unfinished (NoFiles error) h = absurd h
      unfinished (NotOpened error rest) h = absurd h
      unfinished (Refused refusal now) h = absurd h
      unfinished (Left outcome now) h = (subst HasRefused (sym h.0) h.2, subst (λ o. ServesThen config was bytes o (AreClean g now.log now.db) (LeavesAfter g config now)) (sym h.0) (left_after now h.1))
      unfinished (NotClosed outcome error now) h = ((h.1.1, h.1.2), subst (λ o. ServesThen config was bytes o (AreClean g now.log now.db) (LeavesAfter g config now)) (sym h.0) (left_after now h.1.0))

    -- ---- no call was served

    keeps_blank : (now : Files D) → IsLeft g conn now → Keeps g was now
    keeps_blank now is clean s has image may =
        let early : HasCleanDisk (file_state conn) = is.clean clean in
        let open_ = (opened early).0.is_open in
        let state = in_trees (file_state conn).committed s ((opened early).1 open_).1 (start early s has) in
        ∥∥₁_map (each_left g conn now is clean image may) (λ found.
        record { db = found.0; holds = ∣ found.2 ∣₁; state = subst (λ db. IsStateIn db s) (sym (settled_at conn.store stays found.0 open_ found.1)) state })

    keeps_blank_database : (now : Files D) → IsLeft g conn now → KeepsDatabase g was now
    keeps_blank_database now is clean db held sound image may =
        let early : HasCleanDisk (file_state conn) = is.clean clean in
        let trees = found_trees early db held in
        ∥∥₁_map (each_left g conn now is clean image may) (λ left.
        inl (subst (HoldsDatabase image) (settled_at conn.store stays left.0 (opened early).0.is_open left.1 ∙ trees) (database_of image left.0 left.2)))

    has_none : (back : Held (FileStore D g)) (now : Files D) → back ≡ conn → conn.schema ≡ no_schema → IsLeft g back now → HasNone g was now
    has_none back now same blank is = record {
      state = keeps_blank now at;
      database = keeps_blank_database now at;
      none = λ clean db held sound. sym (conn_schema (at.clean clean) db held sound) ∙ blank;
      first = λ clean s has.
          let early = at.clean clean in
          elim (start early s has) [
            | inl ours ↦ absurd (not_none (sym ours.0 ∙ sym (ap (λ (d : Database). d.schema) (opened early).0.clean) ∙ blank))
            | inr none ↦ none.1
          ];
    }
      where
        at : IsLeft g conn now
        at = subst (λ (h : Held (FileStore D g)). IsLeft g h now) same is

    keeps_unadopted : (fault : AdoptFault) (back : Held (FileStore D g)) (now : Files D) → IsUnadopted over_files config conn fault back → IsLeft g back now → Keeps g was now
    keeps_unadopted fault back now it is clean s has image may =
        let late : HasCleanDisk (file_state back) = is.clean clean in
        let early : HasCleanDisk (file_state conn) = omega (arith, it.clean, late) in
        let state = start early s has in
        let open_ = (opened early).0.is_open in
        let sound = ((opened early).1 open_).1 in
        ∥∥₁_map (each_left g back now is clean image may) (λ found.
        let at : IsStateIn found.0 s = elim (it.crash late found.0 found.1) [
          | inl there ↦ subst (λ db. IsStateIn db s) (sym (settled_at conn.store stays found.0 open_ there)) (in_trees (file_state conn).committed s sound state)
          | inr more ↦ elim more [
            | inl made ↦ elim state [
              | inl ours ↦ absurd (not_none (sym ours.0 ∙ made.1))
              | inr none ↦ inl (inr (subst (λ db. IsRows s db) (sym made.3) (subst (λ t. IsRows t made.0.trees) (sym none.1) (first_rows (file_state conn).committed made.0 made.2))))
            ]
            | inr latest ↦ inl (inr (subst (λ t. IsRows t found.0) (one_state_of one (file_state conn).committed latest.0 s (inl (latest.1, inl latest.2)) state) latest.3))
          ]
        ] in
        record { db = found.0; holds = ∣ found.2 ∣₁; state = at })

    keeps_database : (fault : AdoptFault) (back : Held (FileStore D g)) (now : Files D) → IsUnadopted over_files config conn fault back → IsLeft g back now → KeepsDatabase g was now
    keeps_database fault back now it is clean db held sound image may =
        let late : HasCleanDisk (file_state back) = is.clean clean in
        let early : HasCleanDisk (file_state conn) = omega (arith, it.clean, late) in
        let committed = (file_state conn).committed in
        let trees = found_trees early db held in
        let open_ = (opened early).0.is_open in
        ∥∥₁_map (each_left g back now is clean image may) (λ left. elim (it.crash late left.0 left.1) [
          | inl there ↦ inl (subst (HoldsDatabase image) (settled_at conn.store stays left.0 open_ there ∙ trees) (database_of image left.0 left.2))
          | inr more ↦ elim more [
            | inl made ↦ inr (
              first_state 1,
              inr (subst₂ (λ (q : Schema) (t : Trees). IsSound q t) made.1 trees ((opened early).1 open_).1, refl),
              record { db = left.0; holds = ∣ left.2 ∣₁; state = inl (inr (subst (IsRows (first_state 1)) (sym made.3) (first_rows committed made.0 made.2))) },
            )
            | inr latest ↦ inr (
              latest.0,
              inl (subst (IsEitherRows latest.0) trees (inl latest.2)),
              record { db = left.0; holds = ∣ left.2 ∣₁; state = inl (inr latest.3) },
            )
          ]
        ])

    refuses : (fault : AdoptFault) (back : Held (FileStore D g)) (now : Files D) → IsUnadopted over_files config conn fault back → IsLeft g back now → Refuses g config was fault now
    refuses fault back now it is = record {
      state = keeps_unadopted fault back now it is;
      database = keeps_database fault back now it is;
      sound = λ clean s has invariant. elim (cases_Bool (is_failure fault)) [
        | inl failure ↦ inl failure
        | inr known ↦
            let late : HasCleanDisk (file_state back) = is.clean clean in
            let early : HasCleanDisk (file_state conn) = omega (arith, it.clean, late) in
            elim (cases_Bool (file_state back).is_open) [
              | inl on ↦ elim (start early s has) [
                | inl ours ↦ inl (it.sound late on s ours.0 ours.1 invariant)
                | inr none ↦ inl (it.blank late on none.0)
              ]
              | inr off ↦ inr (it.shut late off known).0
            ]
      ];
      first = λ clean db held sound known.
          let late : HasCleanDisk (file_state back) = is.clean clean in
          let early : HasCleanDisk (file_state conn) = omega (arith, it.clean, late) in
          elim (cases_Bool (file_state back).is_open) [
            | inl on ↦
                let schemas = found_schema early db held sound in
                inl (subst₂ (λ (q : Schema) (t : Trees). IsFaultOf config (record { schema = q; trees = t }) fault) schemas (found_trees early db held) (it.first late on known))
            | inr off ↦ inr (it.shut late off known).0
          ];
    }

    keeps_read : (back : Held (FileStore D g)) (now : Files D) → IsRead over_files config conn back → IsLeft g back now → Keeps g was now
    keeps_read back now read there clean s has image may =
        let it : IsLeft g (connection_of over_files read.last) now = subst (λ (h : Held (FileStore D g)). IsLeft g h now) read.back_is there in
        let late : (model_of read.last).doubt ≡ 0 = it.clean clean in
        let early : (model_of read.first).doubt ≡ 0 = omega (arith, read.quiet.clean, late) in
        ∥∥₁_map (each_left g (connection_of over_files read.last) now it clean image may) (λ found.
        let rows = read.quiet.ties late (read.adopted.ties early) late found.0 found.1 in
        let same = only_it read.first read.adopted early s (start (omega (arith, read.adopted.clean, early)) s has) rows.0 (read.quiet.crash late rows.0 (found.0, found.1, rows.1)) in
        record { db = found.0; holds = ∣ found.2 ∣₁; state = inl (inr (subst (λ t. IsRows t found.0) same rows.1)) })

    taken_read : (back : Held (FileStore D g)) (now : Files D) → IsRead over_files config conn back → IsLeft g back now → AreClean g now.log now.db → WasTaken config was
    taken_read back now read there clean =
        let it : IsLeft g (connection_of over_files read.last) now = subst (λ (h : Held (FileStore D g)). IsLeft g h now) read.back_is there in
        let late : (model_of read.last).doubt ≡ 0 = it.clean clean in
        let early : (model_of read.first).doubt ≡ 0 = omega (arith, read.quiet.clean, late) in
        was_taken read.first read.adopted early

    pub given_up : (is_existing : Bool) (bytes : Streams) (refusal : Refusal) (back : Held (FileStore D g)) (now : Files D) → IsLeft g back now
        → IsRefused over_files config conn is_existing refusal back → AreUntouched bytes → IsNotServed g config was bytes (λ _ _. ⊥) (Refused refusal now)
    given_up is_existing bytes Blank back now h u same = (same, has_none back now u.0 u.1 h)
    given_up is_existing bytes (NotAdopted fault) back now h u same = (same, refuses fault back now u h)
    given_up is_existing bytes (NotCopied fault) back now h u same = (same, (keeps_read back now u.0 h, u.1, taken_read back now u.0 h))

module _ {D : Type 0} (g : Ghosts D) (config : Config) (conn : Held (FileStore D g)) (t : Tables (FileStore D g)) (adopted : IsAdopted over_files config conn t) where
  -- calls were served over the tables that were adopted
  pub serves_over : (back : Held (FileStore D g)) (report : RunReport) (bytes : Streams) → ServesTables over_files t config back report bytes → ServesOver over_files config conn back report bytes
  serves_over back report bytes it = record { first = t; adopted = adopted; last = it.last; run = it.run; back_is = it.back_is }

  -- a read of the tables that were adopted was refused
  pub refused_over : (is_existing : Bool) (refusal : Refusal) (back : Held (FileStore D g)) → IsRefusedBack over_files t refusal back → IsRefused over_files config conn is_existing refusal back
  refused_over is_existing Blank back h = absurd h
  refused_over is_existing (NotAdopted fault) back h = absurd h
  refused_over is_existing (NotCopied fault) back h = (record { first = t; adopted = adopted; last = h.0.last; quiet = h.0.quiet; back_is = h.0.back_is }, h.1)

module _ {D : Type 0} (g : Ghosts D) (config : Config) (conn : Held (FileStore D g)) where
  -- a database that was refused before its volumes were read
  pub unserved_refused : (is_existing : Bool) (refusal : Refusal) (back : Held (FileStore D g)) → IsUnserved over_files config conn is_existing refusal back
      → IsRefused over_files config conn is_existing refusal back
  unserved_refused is_existing Blank back h = h
  unserved_refused is_existing (NotAdopted fault) back h = h
  unserved_refused is_existing (NotCopied fault) back h = absurd h

  pub blank_asked : (is_existing : Bool) (refusal : Refusal) (back : Held (FileStore D g)) → IsRefused over_files config conn is_existing refusal back → IsBlankAsked g is_existing refusal
  blank_asked is_existing Blank back h = h.2
  blank_asked is_existing (NotAdopted fault) back h = tt
  blank_asked is_existing (NotCopied fault) back h = tt

module _ {D : Type 0} (g : Ghosts D) (P : RunReport → Type 0) where
  -- a fact of a run still holds after the files were closed or given up
  pub all_served : (served : RunReport) (conn : Held (FileStore D g)) → P served → (r : Result (Closed D) (RunFailure D g)) → IfOk r (IsFinished g served conn) → IfErr r (IsUnfinished g served conn) → AllServed g P r
  all_served served conn so (Ok outcome) it none = subst P (sym it.same) so
  all_served served conn so (Err (NoFiles error)) none h = absurd h
  all_served served conn so (Err (NotOpened error rest)) none h = absurd h
  all_served served conn so (Err (Refused refusal now)) none h = absurd h
  all_served served conn so (Err (Left outcome now)) none h = subst P (sym h.0) so
  all_served served conn so (Err (NotClosed outcome error now)) none h = subst P (sym h.0) so

module _ {D : Type 0} (g : Ghosts D) (is_existing : Bool) where
  -- new tables were made only if tables were not required to exist
  pub asked : (served : RunReport) (conn : Held (FileStore D g)) → (IsTrue is_existing → served.is_new ≡ false) → (r : Result (Closed D) (RunFailure D g)) → IfOk r (IsFinished g served conn)
      → IfErr r (IsUnfinished g served conn) → IsAsked g is_existing r
  asked served conn so (Ok outcome) it none = λ e. ap (λ (s : RunReport). s.is_new) it.same ∙ so e
  asked served conn so (Err (NoFiles error)) none h = absurd h
  asked served conn so (Err (NotOpened error rest)) none h = absurd h
  asked served conn so (Err (Refused refusal now)) none h = absurd h
  asked served conn so (Err (Left outcome now)) none h = λ e. ap (λ (s : RunReport). s.is_new) h.0 ∙ so e
  asked served conn so (Err (NotClosed outcome error now)) none h = λ e. ap (λ (s : RunReport). s.is_new) h.0 ∙ so e

module _ {D : Type 0} (g : Ghosts D) (config : Config) (was : Image) (bytes : Streams) (None : Error → Leftover D g → Type 0) where
  -- a statement about open files holds from their opening on
  pub not_opened_too : (e : RunFailure D g) → IsNotServed g config was bytes (λ _ _. ⊥) e → IsNotServed g config was bytes None e
  not_opened_too (NoFiles error) h = absurd h
  not_opened_too (NotOpened error rest) h = absurd h
  not_opened_too (Refused refusal now) h = h
  not_opened_too (Left served now) h = h
  not_opened_too (NotClosed served error now) h = h

-- files that have a State are adopted as this State
pub found_again : {D : Type 0} (g : Ghosts D) (config : Config) → OneState → AreFoundAgain g config
found_again g config one was conn s has invariant open_ = record {
  taken = λ t it z. let held = it.held z in
      subst (λ u. (tables_model over_files t).holds u) (one_state_of one (file_state conn).committed held.0 s held.1 (finds (omega (arith, it.clean, z)))) held.3;
  settled = λ t it z r left. one_state_of one (file_state conn).committed r s (it.settled z r left) (finds (omega (arith, it.clean, z)));
  failed = λ fault back it clean is_open. elim (finds (omega (arith, it.clean, clean))) [
    | inl ours ↦ it.sound clean is_open s ours.0 ours.1 invariant
    | inr none ↦ it.blank clean is_open none.0
  ];
}
  where
    finds : HasCleanDisk (file_state conn) → IsStateOf (file_state conn).committed s
    finds clean = let it = open_ clean in finds_state g was s conn has it.0 it.1
