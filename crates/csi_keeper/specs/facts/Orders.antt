-- The orders of the State's maps.
use Rattle.std.proofs.Common.{◌≡◌, inl, inr, subst, cond, arith, refl, ℕ, suc, ◌<◌, ◌==◌, nat_lt, Bool, true, false, T, Ordering, Less, Equal, Greater}
use Rattle.std.proofs.lemmas.Bool.Decides.{leb_tells}
use Rattle.std.specs.Cmp.{IsTotalOrder}
use Rattle.std.specs.Ordering.{is_lt, nat_cmp, ordering_then}
use Rattle.std.specs.FinMap.{IsAntisymmetric, nat_cmp-IsAntisymmetric, slice_cmp-IsAntisymmetric}
use Rattle.std.proofs.lemmas.Cmp.{then_total, on_total, nat_cmp_total, nat_list_cmp_total}
use Rattle.csi_keeper.specs.State.{AttachmentKey, attachment_key_cmp}
use Rattle.csi_keeper.specs.Texts.{text_cmp}

pub place_total : IsTotalOrder attachment_key_cmp
place_total = then_total (on_total (λ (p : AttachmentKey). p.0) nat_cmp_total) (on_total (λ (p : AttachmentKey). p.1) nat_list_cmp_total)

pub both_equal : (a b : Ordering) → ordering_then a b ≡ Equal → (a ≡ Equal) × (b ≡ Equal)
both_equal Less b e = absurd (cc)
both_equal Equal b e = (refl, e)
both_equal Greater b e = absurd (cc)

pub text_exact : IsAntisymmetric text_cmp
text_exact = slice_cmp-IsAntisymmetric nat_cmp-IsAntisymmetric

pub place_exact : IsAntisymmetric attachment_key_cmp
place_exact a b e =
    let two = both_equal (nat_cmp a.0 b.0) (text_cmp a.1 b.1) e in
    let first : a.0 ≡ b.0 = nat_cmp-IsAntisymmetric a.0 b.0 two.0 in
    let second : a.1 ≡ b.1 = text_exact a.1 b.1 two.1 in
    λ i. (first i, second i)

-- the order of numbers
pub less_is : (x y : ℕ) → T (is_lt (nat_cmp x y)) → x < y
less_is x y h = elim (leb_tells (suc x) y) as (λ _. x < y) [ inl a ↦ omega (arith, a.1) | inr b ↦ absurd (no_less x y b.0 h) ]
  where
    no_less : (x y : ℕ) → nat_lt x y ≡ false → T (is_lt (nat_cmp x y)) → ⊥
    no_less x y e h = go (x == y) (subst (λ b. T (is_lt (cond b Less (cond (x == y) Equal Greater)))) e h)
      where
        go : (d : Bool) → T (is_lt (cond d Equal Greater)) → ⊥
        go true h = h
        go false h = h
