-- A statement after a statement that returned Ok.
use Rattle.std.proofs.Common.{◌≡◌, ◌≤◌, ◌∙◌, refl, subst, arith, ℕ, [], List, Option, Ok, Err, Result, IsErrAnd, IsTrue, OnOk}
use Rattle.sqlite.specs.Effect.{Database}
use Rattle.sqlite.specs.Held.{Held, state}
use Rattle.sqlite.specs.Schema.{Schema}
use Rattle.sqlite.specs.State.{State, HasCleanDisk}
use Rattle.sqlite.specs.Store.{Ghosts}
use Rattle.sqlite.specs.declared.error.Error.{Error}
use Rattle.sqlite.proofs.InsideLemmas.{keeps_then}
use Rattle.sqlite.proofs.StateLemmas.{survives_then}
use Rattle.csi_sql.specs.Failing.{FailsOver, SqlRefuses}
use Rattle.csi_sql.specs.Transactions.{RunsOver, StepsFrom}
use Rattle.csi_sql.specs.facts.Failing.{fails_after, fails_weaker, handed}

-- both effects, by the database between the two statements
abbrev pub Both : (Database → Database → Type 0) → (Database → Database → Type 0) → Database → Database → Type 0
Both One Two old new = (db : Database) × One old db × Two db new

module _ {first second : Schema} {One : Database → Database → Type 0} (made : (old new : Database) → One old new → new.schema ≡ second) (a b c : State) where
  both_steps : {Y : Type 0} (Two : Database → Database → Type 0) (r : Result Y Error) → StepsFrom first One a b → OnOk r (StepsFrom second Two b c) → OnOk r (StepsFrom first (Both One Two) a c)
  both_steps Two (Ok y) one two = record {
    shown = record { was_open = one.shown.was_open; is_open = two.shown.is_open; now_is = refl; committed_is = two.shown.committed_is ∙ one.shown.committed_is; mode = two.shown.mode };
    effect = λ has. let it = one.effect has in (b.now, it, two.effect (made a.now b.now it));
  }
  both_steps Two (Err e) one two = tt

  later_reported : {Y : Type 0} (r : Result Y Error) (text : List ℕ) (R : State → Error → Type 0) → ((s : State) (db : Database) (e : Error) → IsTrue s.is_open → One s.now db → SqlRefuses text [] (record s { now = db }) e → R s e)
      → a.faults ≤ b.faults → b.step_limit ≡ a.step_limit → StepsFrom first One a b → FailsOver second (SqlRefuses text []) b c r → FailsOver first R a c r
  later_reported (Ok y) text R why up limit one failed has = tt
  later_reported (Err e) text R why up limit one failed has =
      let did = one.effect has in
      let is = made a.now b.now did in
      fails_after (SqlRefuses text [] b) (R a) a b c e up one.shown.is_open limit
      (λ refused. why a b.now e one.shown.was_open did (subst (λ (l : Option ℕ). SqlRefuses text [] (record a { now = b.now; step_limit = l }) e) limit refused)) (failed is)

module _ {S X : Type 0} {g : Ghosts S} {a b c : Held S} {first second : Schema} {One : Database → Database → Type 0} {P : State → Error → Type 0} {x : X}
    (one : RunsOver g a b first One P (Ok x)) (made : (old new : Database) → One old new → new.schema ≡ second) where
  pub runs_after : {Y : Type 0} {Two : Database → Database → Type 0} (text : List ℕ) (R : State → Error → Type 0) (r : Result Y Error)
      → ((s : State) (db : Database) (e : Error) → IsTrue s.is_open → One s.now db → SqlRefuses text [] (record s { now = db }) e → R s e) → RunsOver g b c second Two (SqlRefuses text []) r → RunsOver g a c first (Both One Two) R r
  runs_after {Two = Two} text R r why two =
      let earlier : HasCleanDisk (state g c) → HasCleanDisk (state g b) = λ clean. omega (arith, two.survives.clean) in
      record {
        ok = λ clean inside. let step = one.ok (earlier clean) inside in both_steps made (state g a) (state g b) (state g c) Two r step (two.ok clean step.shown.mode);
        failed = λ clean inside.
            let step = one.ok (earlier clean) inside in
            later_reported made (state g a) (state g b) (state g c) r text R why one.survives.counts one.survives.limit step (two.failed clean step.shown.mode);
        kept = λ clean inside. let step = one.ok (earlier clean) inside in keeps_then (state g a) (state g b) (state g c) (one.kept (earlier clean) inside) (two.kept clean step.shown.mode);
        survives = survives_then (state g a) (state g b) (state g c) (λ _. ⊥) (λ _. ⊥) (λ _. ⊥) (λ _ db none. none) (λ _ db none. none) one.survives two.survives;
      }

no_ok : {X : Type 0} (r : Result X Error) (e : Error) (P : Type 0) → IsErrAnd r (λ x. x ≡ e) → OnOk r P
no_ok (Ok x) e P is = absurd is
no_ok (Err x) e P is = tt

-- an error that is passed on
pub runs_handed : {S X Y : Type 0} {g : Ghosts S} {a b : Held S} {before : Schema} {Made Effect : Database → Database → Type 0} {R : State → Error → Type 0} {e : Error} (r : Result Y Error)
    → RunsOver g a b {X = X} before Made R (Err e) → IsErrAnd r (λ x. x ≡ e) → RunsOver g a b before Effect R r
runs_handed {e = e} r ran is = record {
  ok = λ clean inside. no_ok r e _ is;
  failed = λ clean inside has. handed r e _ is (ran.failed clean inside has);
  kept = ran.kept;
  survives = ran.survives;
}

reported_weaker : {Y : Type 0} (a b : State) (before : Schema) (P R : State → Error → Type 0) (r : Result Y Error) → ((s : State) (e : Error) → s.now.schema ≡ before → P s e → R s e) → FailsOver before P a b r → FailsOver before R a b r
reported_weaker a b before P R (Ok y) f failed has = tt
reported_weaker a b before P R (Err e) f failed has = fails_weaker (P a) (R a) a b e (f a e has) (failed has)

-- the reason for a refusal, in terms of another definition
pub runs_weaker : {S Y : Type 0} {g : Ghosts S} {a b : Held S} {before : Schema} {Effect : Database → Database → Type 0} {P R : State → Error → Type 0} (r : Result Y Error)
    → ((s : State) (e : Error) → s.now.schema ≡ before → P s e → R s e) → RunsOver g a b before Effect P r → RunsOver g a b before Effect R r
runs_weaker {g = g} {a = a} {b = b} {before = before} {P = P} {R = R} r f ran = record {
  ok = ran.ok;
  failed = λ clean inside. reported_weaker (state g a) (state g b) before P R r f (ran.failed clean inside);
  kept = ran.kept;
  survives = ran.survives;
}
