-- The promises of adoption, from the judgement of the rows.
use Rattle.std.proofs.Common.{◌≡◌, ◌≢◌, ◌∙◌, inl, inr, refl, sym, ap, subst, arith, ◌≤◌, true, false, true≢false, None, IsTrue}
use Rattle.sqlite.specs.Effect.{Database}
use Rattle.sqlite.specs.Held.{Held, state}
use Rattle.sqlite.specs.State.{HasCleanDisk, IsLive, KeepsCommit, Survives}
use Rattle.sqlite.specs.Store.{Ghosts}
use Rattle.sqlite.specs.Tree.{Trees}
use Rattle.sqlite_catalog.specs.Listing.{IsSound}
use Rattle.csi_config.specs.declared.config.Config.{Config}
use Rattle.csi_keeper.specs.Invariant.{IsInvariant}
use Rattle.csi_keeper.specs.State.{State, first_state}
use Rattle.csi_keeper.specs.declared.totals.Totals.{Totals}
use Rattle.csi_sql.specs.Making.{MakesTables}
use Rattle.csi_sql.specs.Tables.{no_schema, schema}
use Rattle.csi_sql.specs.Transactions.{LeavesFrom, IsUndone}
use Rattle.csi_tables.specs.Holding.{IsEitherRows, IsFirstRows, IsRows, Shows, conn_doubt, store_doubt, store_holds, store_survivors, store_tied}
use Rattle.csi_tables.specs.Keeping.{is_down, refusals, store_of, IsNewOver}
use Rattle.csi_tables.specs.Laws.{OneState}
use Rattle.csi_tables.specs.declared.tables.Tables.{Tables}
use Rattle.csi_adoption.specs.Faults.{is_failure}
use Rattle.csi_adoption.specs.Failing.{AdoptionFails, IsOfShut}
use Rattle.csi_adoption.specs.declared.fault.AdoptFault.{AdoptFault}
use Rattle.csi_adoption.specs.declared.fault.AdoptFault.TheVariants.{Foreign}
use Rattle.csi_adoption.specs.declared.fault.Foreign.TheVariants as foreign
use Rattle.csi_adoption.specs.Adopting.{committed, IsAdopted, IsNotRefused, IsStateOf, IsTaken, IsUnadopted, LeavesLatest}
use Rattle.csi_adoption.specs.Judging.{IsFaultOf}

-- ---- a connection that was settled

-- only committed changes are seen, and a stop leaves nothing more
pub record IsSettled {S : Type 0} (g : Ghosts S) (old new : Held S) : Type 0 where
  pub clean : conn_doubt g old ≤ conn_doubt g new
  pub was_open : HasCleanDisk (state g new) → IsTrue (state g new).is_open → IsTrue (state g old).is_open
  pub now : HasCleanDisk (state g new) → IsTrue (state g new).is_open → (state g new).now ≡ (state g old).committed
  pub kept : HasCleanDisk (state g new) → IsTrue (state g new).is_open → (state g new).committed ≡ (state g old).committed
  pub crash : HasCleanDisk (state g new) → (db : Trees) → (state g new).may_leave db → (state g old).may_leave db
  pub unlimited : new.step_limit ≡ None

module _ {S : Type 0} (g : Ghosts S) (conn one two : Held S) (limit : one ≡ record conn { step_limit = None }) where
  pub is_settled : (HasCleanDisk (state g two) → IsUndone (state g one) (state g two)) → Survives (state g one) (state g two) (λ _. ⊥) → IsSettled g conn two
  is_settled undone survives =
      let undone : HasCleanDisk (state g two) → IsUndone (state g (record conn { step_limit = None })) (state g two) = subst (λ (h : Held S). HasCleanDisk (state g two) → IsUndone (state g h) (state g two)) limit undone in
      let survives : Survives (state g (record conn { step_limit = None })) (state g two) (λ _. ⊥) = subst (λ (h : Held S). Survives (state g h) (state g two) (λ _. ⊥)) limit survives in
      record {
        clean = survives.clean;
        was_open = λ clean is_open. (undone clean).was_open is_open;
        now = λ clean is_open. (undone clean).now is_open;
        kept = λ clean is_open. (undone clean).committed is_open;
        crash = λ clean db may. elim (survives.crash clean db may) [ inl before ↦ before | inr none ↦ absurd none ];
        unlimited = survives.limit;
      }

-- later commits stay
still_kept : {S : Type 0} {g : Ghosts S} {conn two : Held S} → IsSettled g conn two → (back : Held S) → (HasCleanDisk (state g back) → HasCleanDisk (state g two)) → (HasCleanDisk (state g back) → KeepsCommit (state g two) (state g back))
    → HasCleanDisk (state g back) → KeepsCommit (state g conn) (state g back)
still_kept settled back before keeps clean = record {
  was_open = λ is_open. settled.was_open (before clean) ((keeps clean).was_open is_open);
  committed = λ is_open. (keeps clean).committed is_open ∙ settled.kept (before clean) ((keeps clean).was_open is_open);
}

-- ---- tables that existed

module _ {S : Type 0} (g : Ghosts S) (config : Config) (conn two three : Held S) (totals : Totals) (settled : IsSettled g conn two) (live : IsLive (state g two))
    {Left : Trees → Type 0} (survives : Survives (state g two) (state g three) Left)
    (taken : HasCleanDisk (state g three) → IsTaken config (state g two) (state g three) totals) where
  before : HasCleanDisk (state g three) → HasCleanDisk (state g two)
  before clean = omega (arith, survives.clean)

  -- the rows that were seen are the committed ones
  seen : HasCleanDisk (state g three) → (state g two).now ≡ (state g conn).committed
  seen clean = settled.now (before clean) (taken clean).was_open

  now : HasCleanDisk (state g three) → (state g three).now ≡ (state g three).committed
  now clean = (taken clean).settled (seen clean ∙ sym (settled.kept (before clean) (taken clean).was_open))

  sound : HasCleanDisk (state g three) → IsSound schema (state g two).now.trees
  sound clean = subst (λ s. IsSound s (state g two).now.trees) (taken clean).was_ours (live (taken clean).was_open).0

  abbrev TheState : Type 0
  TheState = (s : State) × IsStateOf (committed g config conn) s × IsInvariant config s × store_holds g (three, totals) s × IsRows s (state g three).committed.trees

  pub the_state : HasCleanDisk (state g three) → TheState
  the_state clean =
      let it = (taken clean).found (sound clean) in
      let rows : IsEitherRows it.0 (state g conn).committed.trees = subst (λ (d : Database). IsEitherRows it.0 d.trees) (seen clean) it.1 in
      let ours : (state g conn).committed.schema ≡ schema = sym (ap (λ (d : Database). d.schema) (seen clean)) ∙ (taken clean).was_ours in
      let shows : IsTrue (state g three).is_open → Shows (state g three) it.0 = λ _. record { schema = (taken clean).is_ours; settled = now clean; rows = it.2 } in
      (it.0, inl (ours, rows), it.3, (shows, it.4, it.2.storable), subst (λ (d : Database). IsRows it.0 d.trees) (now clean) it.2)

  pub stands : HasCleanDisk (state g three) → (s : State) × store_holds g (three, totals) s
  stands clean = let it = the_state clean in (it.0, it.3)

  pub is_adopted : OneState → ((s : S) (db : Trees) → IsTrue (g.view s).is_open → g.recovers s db → db ≡ (g.view s).committed) → (t : Tables S) → store_of g t ≡ (three, totals) → (is_down g t ≡ false) × (refusals g t ≡ 0) → IsAdopted g config conn t
  is_adopted one law t over fresh =
      let clean_of : store_doubt g (store_of g t) ≡ 0 → HasCleanDisk (state g three) = λ z. sym (ap (store_doubt g) over) ∙ z in
      let left : (clean : HasCleanDisk (state g three)) (db : Trees) → (state g three).may_leave db → db ≡ (state g three).committed.trees =
      λ clean db may. law three.store db (taken clean).is_open may in
      record {
        clean = subst (λ (x : Held S × Totals). conn_doubt g conn ≤ store_doubt g x) (sym over) (omega (arith, settled.clean, survives.clean));
        was_open = λ z. let clean = clean_of z in settled.was_open (before clean) (taken clean).was_open;
        held = λ z. let it = the_state (clean_of z) in (it.0, it.1, it.2, subst (λ (x : Held S × Totals). store_holds g x it.0) (sym over) it.3);
        settled = λ z u other.
            let clean = clean_of z in
            let it = the_state clean in
            let there = subst (λ (x : Held S × Totals). store_survivors g x u) over other in
            let rows : IsRows u (state g three).committed.trees = subst (IsRows u) (left clean there.0 there.1) there.2 in
            subst (IsStateOf (committed g config conn)) (one it.0 u (state g three).committed.trees (inr it.4) (inr rows)) it.1;
        ties = λ z. subst (λ (x : Held S × Totals). store_tied g x) (sym over) (λ clean db may. let it = the_state clean in (it.0, subst (IsRows it.0) (sym (left clean db may)) it.4));
        up = fresh.0;
        uncounted = fresh.1;
        unlimited = subst (λ (x : Held S × Totals). x.0.step_limit ≡ None) (sym over) (survives.limit ∙ settled.unlimited);
      }

-- ---- a fault of the tables

module _ {S : Type 0} (g : Ghosts S) (config : Config) (conn two back : Held S) (fault : AdoptFault) (settled : IsSettled g conn two) (live : IsLive (state g two)) (idle : back.in_transaction ≡ false)
    (failed : AdoptionFails g conn back fault) where
  -- the database is read, and only its format may have been written
  pub is_refused : (HasCleanDisk (state g back) → KeepsCommit (state g two) (state g back)) → Survives (state g two) (state g back) (λ db. LeavesLatest config (state g two) db × (is_failure fault ≡ true))
      → (HasCleanDisk (state g back) → is_failure fault ≡ false → IsFaultOf config (state g two).now fault) → (HasCleanDisk (state g back) → (state g two).now.schema ≢ schema → fault ≡ Foreign foreign.Schema) → (HasCleanDisk (state g back) → IsNotRefused config (state g two).now fault)
      → ((state g two).now.schema ≢ no_schema) → (HasCleanDisk (state g back) → (state g back).is_open ≡ false → IsOfShut (state g back).now.schema fault) → IsUnadopted g config conn fault back
  is_refused keeps survives first other sound some shut =
      let before : HasCleanDisk (state g back) → HasCleanDisk (state g two) = λ clean. omega (arith, survives.clean) in
      let seen : HasCleanDisk (state g back) → IsTrue (state g back).is_open → (state g two).now ≡ (state g conn).committed = λ clean is_open. settled.now (before clean) ((keeps clean).was_open is_open) in
      record {
        idle = idle;
        unlimited = survives.limit ∙ settled.unlimited;
        clean = omega (arith, settled.clean, survives.clean);
        kept = still_kept settled back before keeps;
        crash = λ clean db may. elim (survives.crash clean db may) [
          | inl there ↦ inl (settled.crash (before clean) db there)
          | inr left ↦
              let same = settled.now (before clean) left.0.was_open in
              let it = left.0.same (subst (λ s. IsSound s (state g two).now.trees) left.0.was_ours (live left.0.was_open).0) in
              inr (inr (it.0, sym (ap (λ (d : Database). d.schema) same) ∙ left.0.was_ours, subst (λ (d : Database). IsFirstRows it.0 d.trees) same it.1, it.2, it.3, left.1))
        ];
        first = λ clean is_open known. subst (λ (d : Database). IsFaultOf config d fault) (seen clean is_open) (first clean known);
        other = λ clean is_open not_ours _. other clean (λ ours. not_ours (sym (ap (λ (d : Database). d.schema) (seen clean is_open)) ∙ ours));
        failed = failed;
        shut = shut;
        blank = λ clean is_open none. absurd (some (ap (λ (d : Database). d.schema) (seen clean is_open) ∙ none));
        sound = λ clean is_open. subst (λ (d : Database). IsNotRefused config d fault) (seen clean is_open) (sound clean);
      }

-- ---- tables that were made

module _ {S : Type 0} (g : Ghosts S) (config : Config) (conn two : Held S) (settled : IsSettled g conn two) (blank : (state g two).now.schema ≡ no_schema) where
  -- a keeper of the first State
  pub is_made : IsInvariant config (first_state 1) → (t : Tables S) → IsNewOver g two t → (store_doubt g (store_of g t) ≡ 0 → IsTrue (state g two).is_open) → IsAdopted g config conn t
  is_made new t made was_open =
      let of_first : store_doubt g (store_of g t) ≡ 0 → IsStateOf (committed g config conn) (first_state 1) =
      λ z. let before : HasCleanDisk (state g two) = omega (arith, z, made.clean) in inr (sym (ap (λ (d : Database). d.schema) (settled.now before (was_open z))) ∙ blank, refl) in
      record {
        clean = omega (arith, settled.clean, made.clean);
        was_open = λ z. let before : HasCleanDisk (state g two) = omega (arith, z, made.clean) in settled.was_open before (was_open z);
        held = λ z. (first_state 1, of_first z, new, made.begun z blank);
        settled = λ z u it. subst (IsStateOf (committed g config conn)) (sym (made.settled z blank u it)) (of_first z);
        ties = λ z. made.ties z blank;
        up = made.up;
        uncounted = made.uncounted;
        unlimited = made.limit ∙ settled.unlimited;
      }

  -- a failure to make the tables
  pub is_unmade : (back : Held S) (fault : AdoptFault) → back.in_transaction ≡ false → is_failure fault ≡ true → (HasCleanDisk (state g back) → IsUndone (state g two) (state g back))
      → Survives (state g two) (state g back) (LeavesFrom no_schema MakesTables (state g two))
      → AdoptionFails g conn back fault → IsUnadopted g config conn fault back
  is_unmade back fault idle failure undone survives failed =
      let before : HasCleanDisk (state g back) → HasCleanDisk (state g two) = λ clean. omega (arith, survives.clean) in
      record {
        idle = idle;
        unlimited = survives.limit ∙ settled.unlimited;
        clean = omega (arith, settled.clean, survives.clean);
        kept = still_kept settled back before (λ clean. record { was_open = (undone clean).was_open; committed = (undone clean).committed });
        crash = λ clean db may. elim (survives.crash clean db may) [
          | inl there ↦ inl (settled.crash (before clean) db there)
          | inr left ↦
              let seen = settled.now (before clean) left.0 in
              inr (inl (left.1, sym (ap (λ (d : Database). d.schema) seen) ∙ blank, subst (λ (d : Database). MakesTables d left.1) seen (left.2 blank), left.3))
        ];
        first = λ clean is_open known. absurd (true≢false (sym failure ∙ known));
        other = λ clean is_open _ not_blank. absurd (not_blank (sym (ap (λ (d : Database). d.schema) (settled.now (before clean) ((undone clean).was_open is_open))) ∙ blank));
        failed = failed;
        shut = λ clean _ known. absurd (true≢false (sym failure ∙ known));
        blank = λ clean is_open none. failure;
        sound = λ clean is_open s ours rows invariant. failure;
      }
