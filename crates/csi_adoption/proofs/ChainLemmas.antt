-- One scan after another.
use Rattle.std.proofs.Common.{◌≡◌, ◌∙◌, ap, subst, arith, List, Result, Ok, Err, IsErr, OnOk}
use Rattle.sqlite.specs.Effect.{Database}
use Rattle.sqlite.specs.Held.{Held, state}
use Rattle.sqlite.specs.Order.{Row}
use Rattle.sqlite.specs.State.{State, HasCleanDisk, IsUnchanged, KeepsCommit}
use Rattle.sqlite.specs.Store.{Ghosts}
use Rattle.sqlite.specs.Tree.{Trees}
use Rattle.sqlite.proofs.Callers.{unchanged_then}
use Rattle.sqlite.proofs.StateLemmas.{survives_then}
use Rattle.csi_adoption.specs.Scanning.{Scans}

keeps_then : (a b c : State) → KeepsCommit a b → KeepsCommit b c → KeepsCommit a c
keeps_then a b c p q = record { was_open = λ is_open. p.was_open (q.was_open is_open); committed = λ is_open. q.committed is_open ∙ p.committed (q.was_open is_open) }

on_ok : {X E : Type 0} (r : Result X E) {P Q : Type 0} → (P → Q) → OnOk r P → OnOk r Q
on_ok (Ok x) f p = f p
on_ok (Err e) f p = tt

never : {X E : Type 0} (P : Type 0) (r : Result X E) → IsErr r → OnOk r P
never P (Ok x) err = absurd (cc)
never P (Err e) err = tt

always : {X E : Type 0} (r : Result X E) {P : Type 0} → P → OnOk r P
always (Ok x) p = p
always (Err e) p = tt

module _ {S : Type 0} (g : Ghosts S) where
  -- a disk that is clean after a scan was clean before it
  pub clean_before : {X E : Type 0} (a b : Held S) (r : Result X E) → Scans g a b r → HasCleanDisk (state g b) → HasCleanDisk (state g a)
  clean_before a b r scan clean = omega (arith, scan.survives.clean)

  pub same_trees : (a b : Held S) → IsUnchanged (state g a) (state g b) → (state g b).now.trees ≡ (state g a).now.trees
  same_trees a b same = ap (λ (d : Database). d.trees) same.0.now_is

  pub chained : {X Y E F : Type 0} (a b c : Held S) (x : X) (r : Result Y F) → Scans g a b {E = E} (Ok x) → Scans g b c r → Scans g a c r
  chained a b c x r one two = record {
    same = λ clean. on_ok r (λ same. unchanged_then (state g a) (state g b) (state g c) (one.same (clean_before b c r two clean)) same) (two.same clean);
    kept = λ clean. keeps_then (state g a) (state g b) (state g c) (one.kept (clean_before b c r two clean)) (two.kept clean);
    survives = survives_then (state g a) (state g b) (state g c) (λ _. ⊥) (λ _. ⊥) (λ _. ⊥) (λ _ db none. none) (λ _ db none. none) one.survives two.survives;
  }

  -- the rows that a second scan shows are rows of the trees before both scans
  pub shown_after : {X Y E F : Type 0} (a b c : Held S) (x : X) (r : Result Y F) (What : Trees → List Row → Type 0) {Report : List Row → Type 0} → Scans g a b {E = E} (Ok x) → Scans g b c r
      → (HasCleanDisk (state g c) → (rows : List Row) × What (state g b).now.trees rows × Report rows) → HasCleanDisk (state g c) → (rows : List Row) × What (state g a).now.trees rows × Report rows
  shown_after a b c x r What one two seen clean = let it = seen clean in (it.0, subst (λ (t : Trees). What t it.0) (same_trees a b (one.same (clean_before b c r two clean))) it.1, it.2)

  -- the rows that were looked at stay, for every answer
  pub ended : {X Y E F : Type 0} (a b : Held S) (x : X) (r : Result Y F) → Scans g a b {E = E} (Ok x) → Scans g a b r
  ended a b x r one = record { same = λ clean. go r (one.same clean); kept = one.kept; survives = one.survives }
    where
      go : {Y F : Type 0} (r : Result Y F) → IsUnchanged (state g a) (state g b) → OnOk r (IsUnchanged (state g a) (state g b))
      go (Ok y) same = same
      go (Err f) same = tt

  pub failed : {X Y E F : Type 0} (a b : Held S) (r : Result X E) (s : Result Y F) → IsErr s → Scans g a b r → Scans g a b s
  failed a b r s err one = record { same = λ clean. never _ s err; kept = one.kept; survives = one.survives }
