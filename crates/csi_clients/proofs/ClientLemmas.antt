-- Functions that are set at one client, and the States that a session leaves, try by try.
use Rattle.std.proofs.Common.{◌≡◌, ◌∙◌, ◌⊎◌, inl, inr, ap, sym, subst, cond, refl, ℕ, ◌==◌, List, [], ◌∷◌, ◌++◌, Bool, true, false, if◌then◌else◌, eq-eqb, eqb-true}
use Rattle.std.specs.List.{AllByRecursion}
use Rattle.csi_config.specs.declared.config.Config.{Config}
use Rattle.csi_keeper.specs.State.{State}
use Rattle.csi_machine.specs.Retry.{Marked, Try, after_try, state_after, IsDue, Leaves}
use Rattle.csi_machine.specs.Step.{step}

-- ---- one client of many

abbrev pub set : {A : Type 0} → (ℕ → A) → ℕ → A → ℕ → A
set f c v d = if d == c then v else f d

pub set_here : {A : Type 0} (f : ℕ → A) (c : ℕ) (v : A) → set f c v c ≡ v
set_here f c v = ap (λ b. cond b v (f c)) (eq-eqb c c refl)

pub set_there : {A : Type 0} (f : ℕ → A) (c : ℕ) (v : A) (d : ℕ) → (d ≡ c → ⊥) → set f c v d ≡ f d
set_there f c v d far = go (d == c) refl
  where
    go : (b : Bool) → (d == c) ≡ b → cond b v (f d) ≡ f d
    go true t = absurd (far (eqb-true d c t))
    go false t = refl

-- a fact of this client and of any other client is a fact of all clients
pub by_client : (P : ℕ → Type 0) (c : ℕ) → P c → ((d : ℕ) → (d ≡ c → ⊥) → P d) → (d : ℕ) → P d
by_client P c here there d = go (d == c) refl
  where
    go : (b : Bool) → (d == c) ≡ b → P d
    go true t = subst P (sym (eqb-true d c t)) here
    go false t = there d (λ e. let y : (d == c) ≡ true = eq-eqb d c e in absurd (cc (y, t)))

-- a function that is set to its own value
pub set_same : {A : Type 0} (f : ℕ → A) (c : ℕ) (v : A) → v ≡ f c → set f c v ≡ f
set_same f c v e = λ i d. by_client (λ d. set f c v d ≡ f d) c (set_here f c v ∙ e) (λ d far. set_there f c v d far) d i

-- ---- the States that a session leaves

abbrev pub AreStill : Config → State → List Try → Type 0
AreStill config x ts = AllByRecursion (λ v. after_try config x v ≡ x) ts

-- the State after the tries, or the State that a refused try would have made, if no try after it moved the
-- State
abbrev pub Left : Config → State → List Try → State → Type 0
Left config x [] u = u ≡ x
Left config x (t ∷ ts) u = Left config (after_try config x t) ts u ⊎ ((t.end ≡ Marked) × AreStill config x ts × (u ≡ (step config x t.request).1))

module _ (config : Config) where
  left_end : (ts : List Try) (x u : State) → u ≡ state_after config x ts → Left config x ts u
  left_end [] x u e = e
  left_end (t ∷ ts) x u e = inl (left_end ts (after_try config x t) u e)

  left_due : (before : List Try) (t : Try) (after : List Try) (x u : State) → t.end ≡ Marked → AreStill config (state_after config x before) after → u ≡ (step config (state_after config x before) t.request).1
      → Left config x (before ++ t ∷ after) u
  left_due [] t after x u marked still is = inr (marked, still, is)
  left_due (b ∷ before) t after x u marked still is = inl (left_due before t after (after_try config x b) u marked still is)

  pub left_of : (ts : List Try) (x u : State) → Leaves config x ts u → Left config x ts u
  left_of ts x u leaves = elim leaves as (λ _. Left config x ts u) [
    | inl e ↦ left_end ts x u e
    | inr d ↦ of_due d
  ]
    where
      of_due : IsDue config x ts u → Left config x ts u
      of_due d = subst (λ (l : List Try). Left config x l u) (sym d.whole) (left_due d.before d.refused d.after x u d.is_marked d.still d.is)

  -- tries that keep the State
  pub kept : (x : State) (ts : List Try) → AreStill config x ts → state_after config x ts ≡ x
  kept x [] still = refl
  kept x (t ∷ ts) still = ap (λ (z : State). state_after config z ts) still.0 ∙ kept x ts still.1
