-- Tables that a keeper left are adopted.
use Rattle.std.proofs.Common.{◌≡◌, ◌∙◌, inl, inr, sym, ap, subst, arith, IsTrue}
use Rattle.sqlite.specs.Effect.{Database}
use Rattle.sqlite.specs.Held.{Held, state}
use Rattle.sqlite.specs.State.{HasCleanDisk}
use Rattle.sqlite.specs.Store.{Ghosts}
use Rattle.csi_config.specs.declared.config.Config.{Config}
use Rattle.csi_keeper.specs.Invariant.{IsInvariant}
use Rattle.csi_keeper.specs.State.{State}
use Rattle.csi_sql.specs.Tables.{no_schema, schema}
use Rattle.csi_tables.specs.Holding.{IsEitherRows, IsRows, store_holds}
use Rattle.csi_tables.specs.Keeping.{connection_of, store_of}
use Rattle.csi_tables.specs.Laws.{OneState}
use Rattle.csi_adoption.specs.Adopting.{committed, IsStateOf}
use Rattle.csi_adoption.specs.Again.{EitherTaken, EndsTaken, IsTakenAs, StopsTaken}

not_none : schema ≡ no_schema → ⊥
not_none e = let tables = ap (λ s. s.tables) e in absurd cc

-- a database with rows has the State of its rows
state_of_rows : OneState → (db : Database) (s t : State) → db.schema ≡ schema → IsEitherRows s db.trees → IsStateOf db t → t ≡ s
state_of_rows one db s t ours rows (inl it) = one t s db.trees it.1 rows
state_of_rows one db s t ours rows (inr none) = absurd (not_none (sym ours ∙ none.0))

module _ {S : Type 0} (g : Ghosts S) (one : OneState) where
  -- rows of a State that meets every constraint
  taken_as : (config : Config) (conn : Held S) (s : State) → (HasCleanDisk (state g conn) → IsTrue (state g conn).is_open → (committed g config conn).schema ≡ schema)
      → (HasCleanDisk (state g conn) → IsTrue (state g conn).is_open → IsEitherRows s (committed g config conn).trees) → IsInvariant config s → IsTakenAs g config conn s
  taken_as config conn s ours rows invariant = record {
    taken = λ t it z.
        let clean : HasCleanDisk (state g conn) = omega (arith, it.clean, z) in
        let open_ = it.was_open z in
        let held = it.held z in
        subst (store_holds g (store_of g t)) (state_of_rows one (committed g config conn) s held.0 (ours clean open_) (rows clean open_) held.1) held.3;
    settled = λ t it z r left.
        let clean : HasCleanDisk (state g conn) = omega (arith, it.clean, z) in
        let open_ = it.was_open z in
        state_of_rows one (committed g config conn) s r (ours clean open_) (rows clean open_) (it.settled z r left);
    failed = λ fault back it clean open_.
        let before : HasCleanDisk (state g conn) = omega (arith, it.clean, clean) in
        let was = (it.kept clean).was_open open_ in
        it.sound clean open_ s (ours before was) (rows before was) invariant;
  }

  pub ends_taken : EndsTaken g
  ends_taken config t s held invariant =
      taken_as config (connection_of g t) s
      (λ clean open_. let shows = held.0 open_ in sym (ap (λ (d : Database). d.schema) shows.settled) ∙ shows.schema)
      (λ clean open_. let shows = held.0 open_ in inr (subst (λ (d : Database). IsRows s d.trees) shows.settled shows.rows)) invariant

  pub either_taken : EitherTaken g
  either_taken config conn s ours rows invariant = taken_as config conn s (λ _ _. ours) (λ _ _. rows) invariant

  pub stops_taken : StopsTaken g
  stops_taken config t db clean tied may =
      let it = tied clean db may in
      record {
        left = it.0;
        survivor = (db, may, it.1);
        again = λ conn ours trees invariant. taken_as config conn it.0 (λ _ _. ours) (λ _ _. inr (subst (IsRows it.0) (sym trees) it.1)) invariant;
      }
