-- No number is given twice.
use Rattle.std.proofs.Common.{◌≡◌, ◌∙◌, ℕ, Option, Some, None, IfSome, inl, inr, refl, ap, ap₂, sym, subst, arith}
use Rattle.std.specs.Cmp.{nat_cmp_total}
use Rattle.std.specs.FinMap as fin
use Rattle.csi_types.specs.Maps.{TextMap}
use Rattle.csi_types.specs.declared.requests.Request.{Request}
use Rattle.csi_config.specs.declared.config.Config.{Config}
use Rattle.csi_keeper.specs.declared.change.Change.{Change}
use Rattle.csi_keeper.specs.declared.change.Change.TheVariants.{AddVolume, RemoveVolume, Attach, Detach, DetachAll, SetMutable}
use Rattle.csi_keeper.specs.declared.volume.Volume.{Volume}
use Rattle.csi_keeper.specs.Invariant.{IsInvariant}
use Rattle.csi_keeper.specs.State.{State, changed, with_mutable, Allows}
use Rattle.csi_keeper.specs.facts.Finite.{inserted, none_some, removed, same_some}
use Rattle.csi_keeper.specs.facts.Mutable.{stood}
use Rattle.csi_machine.specs.Numbers.{NumbersRise}
use Rattle.csi_machine.specs.Plan.{after}
use Rattle.csi_machine.specs.Step.{settled_plan, step}
use Rattle.csi_machine.specs.facts.Numbers.{numbers_stay, same_there}
use Rattle.csi_machine.proofs.AnsweringLemmas.{moved_is}
use Rattle.csi_machine.proofs.PlanLemmas.{IsSound}

none_of : (o : Option Volume) → ((w : Volume) → o ≡ Some w → ⊥) → o ≡ None
none_of None never = refl
none_of (Some w) never = absurd (never w refl)

-- the volume with a number, before and after other mutable parameters are set
same_set : (s : State) (k : ℕ) (m : TextMap) (n : ℕ) (v w : Volume) → fin.get s.volumes n ≡ Some v → fin.get (changed s (SetMutable k m)).volumes n ≡ Some w
    → w ≡ with_mutable w.mutable v
same_set s k m n v w old new =
    let was = stood s.volumes k m n w new in
    let one : was.0 ≡ v = same_some was.0 v (sym was.1 ∙ old) in
    elim was.2 as (λ _. w ≡ with_mutable w.mutable v) [
      | inl same ↦ same_there s n v w old (was.1 ∙ ap Some (sym same))
      | inr set ↦ set.1 ∙ ap₂ with_mutable (sym (ap (λ (x : Volume). x.mutable) set.1)) one
    ]

change_rises : (s : State) (c : Change) → Allows s c → NumbersRise s (changed s c)
change_rises s (AddVolume v) allows = record {
  next = omega arith;
  gone = λ n before none. none_of _ (λ w there. elim (inserted nat_cmp_total fin.nat_cmp-IsAntisymmetric s.volumes v.number v n w there) as (λ _. ⊥) [
    | inl new ↦ omega (arith, before, new.0, allows.0)
    | inr old ↦ none_some w (sym none ∙ old)
  ]);
  same = λ n u w old new. elim (inserted nat_cmp_total fin.nat_cmp-IsAntisymmetric s.volumes v.number v n w new) as (λ _. w ≡ with_mutable w.mutable u) [
    | inl added ↦ absurd (none_some u (sym allows.1 ∙ ap (fin.get s.volumes) (sym added.0) ∙ old))
    | inr there ↦ same_there s n u w old there
  ];
}
change_rises s (RemoveVolume k) allows = record {
  next = omega arith;
  gone = λ n before none. none_of _ (λ w there. none_some w (sym none ∙ (removed nat_cmp_total fin.nat_cmp-IsAntisymmetric s.volumes k n w there).1));
  same = λ n v w old new. same_there s n v w old (removed nat_cmp_total fin.nat_cmp-IsAntisymmetric s.volumes k n w new).1;
}
change_rises s (Attach k a) allows = record { next = omega arith; gone = λ n before none. none; same = same_there s }
change_rises s (Detach k node) allows = record { next = omega arith; gone = λ n before none. none; same = same_there s }
change_rises s (DetachAll k) allows = record { next = omega arith; gone = λ n before none. none; same = same_there s }
change_rises s (SetMutable k m) allows = record {
  next = omega arith;
  gone = λ n before none. none_of _ (λ w there. let old = stood s.volumes k m n w there in none_some old.0 (sym none ∙ old.1));
  same = same_set s k m;
}

after_rises : (s : State) (o : Option Change) → IfSome o (Allows s) → NumbersRise s (after s o)
after_rises s None allows = numbers_stay s
after_rises s (Some c) allows = change_rises s c allows

pub step_rises : (config : Config) (r : Request) → IsSound config (λ s. settled_plan config s r) → (s : State) → IsInvariant config s → NumbersRise s (step config s r).1
step_rises config r sound s inv = subst (NumbersRise s) (moved_is config s r) (after_rises s (settled_plan config s r).change (sound.allows s inv))
