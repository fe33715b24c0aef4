-- A keeper after one read or several.
use Rattle.std.proofs.Common.{◌≡◌, ◌≤◌, ◌∙◌, arith, refl, false, Result, Ok, Err, IfOk}
use Rattle.csi_keeper.specs.State.{State}
use Rattle.csi_keeper.specs.Keeper.{IsQuiet, Reads, Reports}
use Rattle.csi_keeper.specs.Model.{Model}

pub quiet_same : (a : Model State) → IsQuiet a a
quiet_same a = record { clean = omega arith; state = λ d s h. h; crash = λ d t h. h; ties = λ d t. t; down = refl }

pub quiet_then : {a b c : Model State} → IsQuiet a b → IsQuiet b c → IsQuiet a c
quiet_then {a} {b} {c} p q =
    let more : a.doubt ≤ c.doubt = omega (arith, p.clean, q.clean) in
    let before : c.doubt ≡ 0 → b.doubt ≡ 0 = λ d. omega (arith, q.clean) in
    record {
      clean = more;
      state = λ d s h. q.state d s (p.state (before d) s h);
      crash = λ d t h. p.crash (before d) t (q.crash d t h);
      ties = λ d t. q.ties d (p.ties (before d) t);
      down = q.down ∙ p.down;
    }

-- a read that changes nothing in a keeper that is not down
pub read_same : {X : Type 0} (a : Model State) (x : X) {IsSo : State → X → Type 0} → a.is_down ≡ false → Reports a a (λ s. IsSo s x) → Reads a a (Ok x) IsSo
read_same a x up reported = record { value = reported; quiet = quiet_same a; count = refl; down = (λ e. absurd (cc (e)), λ is. absurd (cc (is, up))) }

-- a property of each answer
pub if_ok : {X E : Type 0} {P Q : X → Type 0} → ((x : X) → P x → Q x) → (r : Result X E) → IfOk r P → IfOk r Q
if_ok f (Ok x) h = f x h
if_ok f (Err e) h = h
