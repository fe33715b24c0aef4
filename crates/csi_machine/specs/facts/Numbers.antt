-- The numbers of volumes from State to State.
use Rattle.std.proofs.Common.{◌≡◌, ◌∙◌, ℕ, Option, Some, None, ap, refl, subst, sym, arith}
use Rattle.std.specs.FinMap.{get}
use Rattle.csi_config.specs.declared.config.Config.{Config}
use Rattle.csi_keeper.specs.Invariant.{IsInvariant}
use Rattle.csi_keeper.specs.State.{State, with_mutable}
use Rattle.csi_keeper.specs.declared.volume.Volume.{Volume}
use Rattle.csi_keeper.specs.facts.Finite.{none_some, same_some}
use Rattle.csi_machine.specs.Numbers.{NumbersRise}

-- a number has at most one volume
pub same_there : (s : State) (n : ℕ) (v w : Volume) → get s.volumes n ≡ Some v → get s.volumes n ≡ Some w → w ≡ with_mutable w.mutable v
same_there s n v w old new = subst (λ (x : Volume). x ≡ with_mutable x.mutable v) (same_some v w (sym old ∙ new)) refl

-- the numbers, if the State stays
pub numbers_stay : (s : State) → NumbersRise s s
numbers_stay s = record { next = omega arith; gone = λ n before none. none; same = same_there s }

-- the numbers over two steps, from a State that meets the invariant
pub numbers_go_on : (config : Config) (s t u : State) → IsInvariant config s → NumbersRise s t → NumbersRise t u → NumbersRise s u
numbers_go_on config s t u inv first then_ = record {
  next = omega (arith, first.next, then_.next);
  gone = λ n before none. then_.gone n (omega (arith, before, first.next)) (first.gone n before none);
  same = λ n v w old new. between n v w old new (get t.volumes n) refl;
}
  where
    between : (n : ℕ) (v w : Volume) → get s.volumes n ≡ Some v → get u.volumes n ≡ Some w → (o : Option Volume) → get t.volumes n ≡ o
        → w ≡ with_mutable w.mutable v
    between n v w old new None gone =
        let given = (inv.volumes n v old).given.1 in
        absurd (none_some w (sym (then_.gone n (omega (arith, given, first.next)) gone) ∙ new))
    between n v w old new (Some x) there = then_.same n x w there new ∙ ap (with_mutable w.mutable) (first.same n v x old there)
