-- Tables that were judged, and then brought to the latest format.
use Rattle.std.proofs.Common.{◌≡◌, ◌∙◌, ◌==◌, inl, inr, refl, sym, ap, subst, arith, ℕ, Bool, true, false}
use Rattle.std.proofs.lemmas.Bool.Decides.{nat_tests}
use Rattle.sqlite.proofs.StateLemmas.{survives_then}
use Rattle.sqlite.specs.Effect.{Database}
use Rattle.sqlite.specs.Held.{Held, state}
use Rattle.sqlite.specs.State.{HasCleanDisk, IsUnchanged, Survives}
use Rattle.sqlite.specs.Store.{Ghosts}
use Rattle.sqlite.specs.Tree.{Trees}
use Rattle.csi_config.specs.declared.config.Config.{Config}
use Rattle.csi_keeper.specs.Invariant.{IsInvariant}
use Rattle.csi_keeper.specs.State.{State}
use Rattle.csi_keeper.specs.Totals.{AreTotals}
use Rattle.csi_keeper.specs.declared.totals.Totals.{Totals}
use Rattle.csi_sql.specs.Tables.{schema}
use Rattle.csi_sql.specs.declared.formats.TheConstants.{FIRST_FORMAT}
use Rattle.csi_sql.specs.Effects.{Changes, Leaves, SetsFormat}
use Rattle.csi_tables.specs.Holding.{IsEitherRows, IsFirstRows, IsRows, IsRowsIn, IsRowsOf}
use Rattle.csi_adoption.specs.Adopting.{IsFound, IsTaken, LeavesLatest}

-- the law of the latest format
abbrev pub Latest : Type 0
Latest = (format : ℕ) (s : State) (old new : Database) → old.schema ≡ schema → IsRowsOf format s old.trees → SetsFormat old new → IsRows s new.trees

module _ {S : Type 0} (g : Ghosts S) (config : Config) (two three four : Held S) (format : ℕ) (totals : Totals)
    (same : HasCleanDisk (state g three) → IsUnchanged (state g two) (state g three)) (scanned : Survives (state g two) (state g three) (λ _. ⊥))
    (found : HasCleanDisk (state g three) → IsFound config (state g two).now format totals) (latest : Latest)
    (survives : Survives (state g three) (state g four) (λ db. (format ≡ FIRST_FORMAT) × Leaves SetsFormat (state g three) db)) where
  before : HasCleanDisk (state g four) → HasCleanDisk (state g three)
  before clean = omega (arith, survives.clean)

  ours : HasCleanDisk (state g three) → (state g three).now.schema ≡ schema
  ours clean = ap (λ (d : Database). d.schema) (same clean).0.now_is ∙ (found clean).schema_is

  -- the judged rows, as they are after the scans
  stand : HasCleanDisk (state g three) → (s : State) → IsRowsOf format s (state g two).now.trees → IsRowsOf format s (state g three).now.trees
  stand clean s rows = subst (λ (d : Database). IsRowsOf format s d.trees) (sym (same clean).0.now_is) rows

  first : (s : State) (db : Trees) → format ≡ FIRST_FORMAT → IsRowsIn format s db → IsFirstRows s db
  first s db is rows = (subst (λ f. IsRowsOf f s db) is rows.0, rows.1 is)

  upgraded : HasCleanDisk (state g four) → format ≡ FIRST_FORMAT → Changes SetsFormat (state g three) (state g four) → IsTaken config (state g two) (state g four) totals
  upgraded clean is change =
      let past = before clean in
      let sets : SetsFormat (state g three).now (state g four).now = change.effect (ours past) in
      record {
        was_open = (same past).0.was_open;
        is_open = change.is_open;
        was_ours = (found past).schema_is;
        is_ours = sets.schema ∙ ours past;
        settled = λ _. sym change.committed;
        found = λ sound.
            let it = (found past).found sound in
            (it.1, inl (first it.1 (state g two).now.trees is it.2), latest format it.1 (state g three).now (state g four).now (ours past) (stand past it.1 it.2.0) sets, it.3, it.4);
      }

  as_it_was : HasCleanDisk (state g three) → (format ≡ FIRST_FORMAT → ⊥) → IsTaken config (state g two) (state g three) totals
  as_it_was clean other = record {
    was_open = (same clean).0.was_open;
    is_open = (same clean).0.is_open;
    was_ours = (found clean).schema_is;
    is_ours = ours clean;
    settled = λ e. (same clean).0.now_is ∙ e ∙ sym (same clean).0.committed_is;
    found = λ sound.
        let it = (found clean).found sound in
        elim it.0 as (λ _. (s : State) × IsEitherRows s (state g two).now.trees × IsRows s (state g three).now.trees × IsInvariant config s × AreTotals totals s) [
          | inl is ↦ absurd (other is)
          | inr is ↦
              let rows : IsRows it.1 (state g two).now.trees = subst (λ f. IsRowsOf f it.1 (state g two).now.trees) is it.2.0 in
              (it.1, inr rows, subst (λ f. IsRowsOf f it.1 (state g three).now.trees) is (stand clean it.1 it.2.0), it.3, it.4)
        ];
  }

  pub is_taken : (HasCleanDisk (state g four) → format ≡ FIRST_FORMAT → Changes SetsFormat (state g three) (state g four)) → ((format ≡ FIRST_FORMAT → ⊥) → four ≡ three)
      → HasCleanDisk (state g four) → IsTaken config (state g two) (state g four) totals
  is_taken ok stays clean = go (format == FIRST_FORMAT) refl
    where
      go : (b : Bool) → (format == FIRST_FORMAT) ≡ b → IsTaken config (state g two) (state g four) totals
      go true is = let first : format ≡ FIRST_FORMAT = grind (arith, nat_tests, is) in upgraded clean first (ok clean first)
      go false is =
          let other : format ≡ FIRST_FORMAT → ⊥ = λ e. grind (arith, nat_tests, is, e) in
          subst (λ (h : Held S). IsTaken config (state g two) (state g h) totals) (sym (stays other)) (as_it_was (before clean) other)

  -- if the tables were not brought to the latest format, something failed
  pub taken_survives : {Failed : Type 0} → Failed → Survives (state g two) (state g four) (λ db. LeavesLatest config (state g two) db × Failed)
  taken_survives {Failed} failed = survives_then (state g two) (state g three) (state g four) (λ _. ⊥) (λ db. (format ≡ FIRST_FORMAT) × Leaves SetsFormat (state g three) db) (λ db. LeavesLatest config (state g two) db × Failed) (λ _ db none. absurd none) (λ clean db left.
      let past = before clean in (
        record {
          was_open = (same past).0.was_open;
          was_ours = (found past).schema_is;
          same = λ sound.
              let it = (found past).found sound in
              let made = left.1.1 in
              let rows : IsRows it.1 made.trees = latest format it.1 (state g three).now made (ours past) (stand past it.1 it.2.0) (left.1.2 (ours past)) in
              (it.1, first it.1 (state g two).now.trees left.0 it.2, subst (IsRows it.1) (sym left.1.3) rows, it.3);
        },
        failed,
      )) scanned survives
