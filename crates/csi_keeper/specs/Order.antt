-- The order of capability keys is a total order, and keys that it does not distinguish are equal.
use Rattle.std.specs.Prelude.{◌≡◌, ℕ, true, ◌==◌, Option, Some, None}
use Rattle.std.specs.declared.cmp.Ordering.{Ordering}
use Rattle.std.specs.declared.cmp.Ordering.TheVariants.{Less, Equal, Greater}
use Rattle.std.specs.Cmp.{IsTotalOrder, IsEquivalence, IsPartialEquivalence, IsPartialOrder, po, on_total, then_total, nat_cmp_total, both_tied}
use Rattle.std.specs.Cmp.{both_ways, tied_itself, partial_equiv_from_equiv, eq_by_cmp_equiv}
use Rattle.std.specs.Cmp.Lexicographic.{options_total, nat_list_cmp_total, texts_ties}
use Rattle.std.specs.FinMap.{IsAntisymmetric, nat_cmp-IsAntisymmetric, slice_cmp-IsAntisymmetric}
use Rattle.std.specs.Ordering.{nat_cmp, is_eq, eq_by_cmp, as_partial_cmp, ordering_then}
use Rattle.std.specs.Option.{option_cmp}
use Rattle.std.proofs.Common.{refl, sym, ap, subst, eq-eqb, eqb-true}
use Rattle.csi_keeper.specs.declared.capability.CapKey.{CapKey}
use Rattle.csi_keeper.specs.declared.capability.Kind.{Kind}
use Rattle.csi_keeper.specs.declared.capability.Kind.TheVariants.{Block, Mount}
use Rattle.csi_keeper.specs.Capability.{same_kind, same_key, kind_cmp, key_cmp}
use Rattle.csi_keeper.specs.Texts.{Text, text_cmp}

type_of : Kind → Option Text
type_of Block = None
type_of (Mount t) = Some t

by_type : (a b : Kind) → option_cmp text_cmp (type_of a) (type_of b) ≡ kind_cmp a b
unfolding type_of
by_type Block Block = refl
by_type Block (Mount t) = refl
by_type (Mount t) Block = refl
by_type (Mount t) (Mount u) = refl

pub kind_total : IsTotalOrder kind_cmp
kind_total = subst IsTotalOrder (λ i a b. by_type a b i) (on_total type_of (options_total nat_list_cmp_total))

pub key_total : IsTotalOrder key_cmp
key_total = then_total (on_total (λ (k : CapKey). k.kind) kind_total) (on_total (λ (k : CapKey). k.mode) nat_cmp_total)

tied : (r : Ordering) → is_eq r ≡ true → r ≡ Equal
tied Less e = absurd (cc)
tied Equal e = refl
tied Greater e = absurd (cc)

nats_tie : (a b : ℕ) → (a == b) ≡ is_eq (nat_cmp a b)
nats_tie a b =
    both_ways _ _
    (λ h. ap is_eq (subst (λ n. nat_cmp a n ≡ Equal) (eqb-true a b h) (tied_itself nat_cmp_total a)))
    (λ h. eq-eqb a b (nat_cmp-IsAntisymmetric a b (tied _ h)))

kinds_tie : (a b : Kind) → same_kind a b ≡ is_eq (kind_cmp a b)
kinds_tie Block Block = refl
kinds_tie Block (Mount t) = refl
kinds_tie (Mount t) Block = refl
kinds_tie (Mount t) (Mount u) = texts_ties t u

-- keys are equal exactly if the order does not distinguish them
pub keys_tie : (a b : CapKey) → same_key a b ≡ eq_by_cmp key_cmp a b
keys_tie a b = both_tied _ _ _ _ (kinds_tie a.kind b.kind) (nats_tie a.mode b.mode)

pub key_order : IsPartialOrder same_key (as_partial_cmp key_cmp)
key_order = po key_total keys_tie

pub key_equiv : IsEquivalence same_key
key_equiv = subst IsEquivalence (λ i a b. sym (keys_tie a b) i) (eq_by_cmp_equiv key_total)

pub key_per : IsPartialEquivalence same_key
key_per = partial_equiv_from_equiv key_equiv

both_equal : (a b : Ordering) → ordering_then a b ≡ Equal → (a ≡ Equal) × (b ≡ Equal)
both_equal Less b e = absurd (cc)
both_equal Equal b e = (refl, e)
both_equal Greater b e = absurd (cc)

kind_exact : (a b : Kind) → kind_cmp a b ≡ Equal → a ≡ b
kind_exact Block Block e = refl
kind_exact Block (Mount t) e = absurd (cc)
kind_exact (Mount t) Block e = absurd (cc)
kind_exact (Mount t) (Mount u) e = ap Mount (slice_cmp-IsAntisymmetric nat_cmp-IsAntisymmetric t u e)

pub key_exact : IsAntisymmetric key_cmp
key_exact a b e =
    let two = both_equal (kind_cmp a.kind b.kind) (nat_cmp a.mode b.mode) e in
    let first = kind_exact a.kind b.kind two.0 in
    let second : a.mode ≡ b.mode = nat_cmp-IsAntisymmetric a.mode b.mode two.1 in
    λ i. record { kind = first i; mode = second i }
