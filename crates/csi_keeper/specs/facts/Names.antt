-- If no volume is found by a name, no volume has the name.
use Rattle.std.proofs.Common.{◌≡◌, ◌∙◌, ap, sym, cond, ℕ, List, [], ◌∷◌, map, find, Bool, true, false, Some, None, refl}
use Rattle.std.specs.Ordering.{nat_cmp, eq_by_cmp}
use Rattle.std.specs.FinMap as fin
use lib.Pointwise.{bytes_decides}
use Rattle.csi_types.specs.Maps.{same_text}
use Rattle.csi_keeper.specs.declared.volume.Volume.{Volume}
use Rattle.csi_keeper.specs.State.{State, named}
use Rattle.csi_keeper.specs.Texts.{Text}
use Rattle.csi_keeper.specs.facts.Finite.{none_some, same_some}

no_name : (es : List (ℕ × Volume)) (name : Text) (n : ℕ) (v : Volume) → find (λ v. same_text v.name name) (map (λ e. e.1) es) ≡ None
    → fin.find nat_cmp n es ≡ Some v → v.name ≡ name → ⊥
no_name [] name n v none some is = none_some v some
no_name (e ∷ es) name n v none some is = go (λ h k. no_name es name n v h k is) (same_text e.1.name name) refl (eq_by_cmp nat_cmp n e.0) none some
  where
    go : (find (λ v. same_text v.name name) (map (λ e. e.1) es) ≡ None → fin.find nat_cmp n es ≡ Some v → ⊥)
        → (b : Bool) → same_text e.1.name name ≡ b → (d : Bool)
        → cond b (Some e.1) (find (λ v. same_text v.name name) (map (λ e. e.1) es)) ≡ None
        → cond d (Some e.1) (fin.find nat_cmp n es) ≡ Some v → ⊥
    go more true t d h k = none_some e.1 (sym h)
    go more false t true h k =
        let named : e.1.name ≡ name = ap (λ (v : Volume). v.name) (same_some e.1 v k) ∙ is in
        let y : same_text e.1.name name ≡ true = (bytes_decides e.1.name name).1 named in
        absurd (cc (t, y))
    go more false t false h k = more h k

-- if no volume is found by a name, no volume has the name
pub nobody : (s : State) (name : Text) (n : ℕ) (v : Volume) → named s name ≡ None → fin.get s.volumes n ≡ Some v → v.name ≡ name → ⊥
nobody s name n v none some is = no_name (fin.entries s.volumes) name n v none (sym (fin.get-entries s.volumes n) ∙ some) is
