-- Keys that rise, as a test and as a fact.
use Rattle.std.proofs.Common.{◌≡◌, ◌∙◌, refl, sym, ap, ℕ, zero, suc, ◌-◌, ◌<◌, ◌≤◌, arith, List, [], ◌∷◌, length, get_or, Bool, true, false, true≢false, ◌&&◌}
use Rattle.std.specs.List.{AllByRecursion, AllAdjacentBelow, list_all}
use Rattle.std.specs.List.Sorted.{IsStrictlySortedBy}
use Rattle.std.specs.Ordering.{is_lt}
use Rattle.std.specs.declared.cmp.Ordering.{Ordering}
use Rattle.std.specs.declared.cmp.Ordering.TheVariants.{Less, Equal, Greater}
use Rattle.std.proofs.lemmas.Map.Keys.{sorted_from_all_adjacent}
use Rattle.csi_keeper.specs.Capability.{AreOrdered, key_cmp}
use Rattle.csi_keeper.specs.Order.{key_total}
use Rattle.csi_keeper.specs.declared.capability.CapKey.{CapKey}
use Rattle.csi_keeper.specs.declared.capability.Kind.TheVariants.{Block}
use Rattle.csi_constraints.specs.Coding.{is_before, rise}

less : (o : Ordering) → is_lt o ≡ true → o ≡ Less
less Less e = refl
less Equal e = absurd (cc)
less Greater e = absurd (cc)

pub both : (a b : Bool) → a ≡ true → b ≡ true → (a && b) ≡ true
both true b e h = h
both false b e h = absurd (cc)

pub parts : (a b : Bool) → (a && b) ≡ true → (a ≡ true) × (b ≡ true)
parts true b e = (refl, e)
parts false b e = absurd (cc)

all_before : (k : CapKey) (ks : List CapKey) → AllByRecursion (λ j. key_cmp k j ≡ Less) ks → list_all (is_before k) ks ≡ true
all_before k [] all = refl
all_before k (j ∷ ks) all = both _ _ (ap is_lt all.0) (all_before k ks all.1)

before_all : (k : CapKey) (ks : List CapKey) → list_all (is_before k) ks ≡ true → AllByRecursion (λ j. key_cmp k j ≡ Less) ks
before_all k [] all = tt
before_all k (j ∷ ks) all = let p = parts (is_before k j) (list_all (is_before k) ks) all in (less _ p.0, before_all k ks p.1)

pub rise-ordered : (ks : List CapKey) → AreOrdered ks → rise ks ≡ true
unfolding IsStrictlySortedBy
rise-ordered [] up = refl
rise-ordered (k ∷ ks) up = both _ _ (all_before k ks up.0) (rise-ordered ks up.1)

pub ordered_rise : (ks : List CapKey) → rise ks ≡ true → AreOrdered ks
unfolding IsStrictlySortedBy
ordered_rise [] up = tt
ordered_rise (k ∷ ks) up = let p = parts (list_all (is_before k) ks) (rise ks) up in (before_all k ks p.0, ordered_rise ks p.1)

-- each key is before the next
next_rises : (ks : List CapKey) (i : ℕ) (d e : CapKey) → AreOrdered ks → suc i < length ks → key_cmp (get_or ks i d) (get_or ks (suc i) e) ≡ Less
unfolding IsStrictlySortedBy
next_rises [] i d e up low = absurd (omega (arith, low))
next_rises (k ∷ []) i d e up low = absurd (omega (arith, low))
next_rises (k ∷ j ∷ ks) zero d e up low = up.0.0
next_rises (k ∷ j ∷ ks) (suc i) d e up low = next_rises (j ∷ ks) i d e up.1 (omega (arith, low))

spare : CapKey
spare = record { kind = Block; mode = 0 }

-- the keys rise if each is before the next
pub rise_all : (ks : List CapKey) (i : ℕ) → length ks ≤ i → AllAdjacentBelow (λ a b. is_before a b ≡ true) ks i → true ≡ rise ks
rise_all ks i last all = sym (rise-ordered ks (sorted_from_all_adjacent key_total ks spare (λ k low. less _ (all k spare (omega (arith, low, last))))))

-- the keys do not rise if one is not before the next
pub rise_not : (ks : List CapKey) (i : ℕ) (j k : CapKey) → 0 < i → i < length ks → j ≡ get_or ks (i - 1) j → k ≡ get_or ks i k → is_before j k ≡ false → false ≡ rise ks
rise_not ks zero j k some low one next none = absurd (omega (arith, some))
rise_not ks (suc i) j k some low one next none = go (rise ks) refl
  where
    here : suc i - 1 ≡ i
    here = omega arith

    none_here : is_before (get_or ks i j) (get_or ks (suc i) k) ≡ false
    none_here = sym (ap (λ x. is_before x (get_or ks (suc i) k)) (one ∙ ap (λ n. get_or ks n j) here)) ∙ sym (ap (is_before j) next) ∙ none

    go : (b : Bool) → rise ks ≡ b → false ≡ rise ks
    go false e = sym e
    go true e = absurd (true≢false (sym (ap is_lt (next_rises ks i j k (ordered_rise ks e) low)) ∙ none_here))
