-- Ordered segments: segments with equal keys are adjacent.
use Rattle.std.proofs.Common.{◌≡◌, ℕ, ◌+◌, ◌<◌, Bool, true, false, not, ◌||◌, ◌&&◌, List, [], ◌∷◌, length, map, get_or, refl, sym, ap, subst, ◌∙◌, arith, suc, zero, add-one}
use Rattle.std.specs.Cmp.Lexicographic.{slice_cmp, texts_ties, on_texts}
use Rattle.std.specs.List.{list_any, AllByRecursion, IsAllAdjacentAnswer, IsDistinct}
use Rattle.std.specs.Str.{str_to_ascii_lowercase}
use Rattle.std.specs.List.Sorted.{IsPermutation, IsSorted, IsStrictlySortedBy}
use Rattle.std.specs.Ordering.{nat_cmp, on, is_lt, is_eq, ordering_reverse}
use Rattle.std.specs.declared.cmp.Ordering.{Ordering}
use Rattle.std.specs.declared.cmp.Ordering.TheVariants.{Less, Equal, Greater}
use Rattle.std.proofs.lemmas.List.Sorted.{IsPermutation-sym}
use Rattle.std.proofs.lemmas.Map.Keys.{IsDistinct-IsPermutation, sorted_from_all_adjacent}
use Rattle.csi_types.specs.Maps.{same_text}
use Rattle.csi_types.specs.Segments.{entry_of, folded_key}
use Rattle.csi_types.specs.Topology.{alike, some_two}
use Rattle.csi_types.specs.declared.topology.segments.Segment.{Segment}
use Rattle.csi_types.proofs.FoldingLemmas.{Text, Entry, false≢true, or_first_false, or_second_false, or_later, text_same, same_as_itself, both_ways}

abbrev pub alike_entries : Entry → Entry → Bool
alike_entries e f = alike e.0 f.0

abbrev pub by_key : Segment → Segment → Ordering
by_key = on folded_key (slice_cmp nat_cmp)

-- keys that differ, for both definitions
none_later : (x : Entry) (es : List Entry) → list_any (alike_entries x) es ≡ false → AllByRecursion (λ e. alike_entries x e ≡ false) es
none_later x [] h = tt
none_later x (e ∷ es) h = (or_first_false _ (list_any (alike_entries x) es) h, none_later x es (or_second_false (alike_entries x e) _ h))

no_later : (x : Entry) (es : List Entry) → AllByRecursion (λ e. alike_entries x e ≡ false) es → list_any (alike_entries x) es ≡ false
no_later x [] h = refl
no_later x (e ∷ es) h = ap (λ b. b || list_any (alike_entries x) es) h.0 ∙ no_later x es h.1

distinct : (es : List Entry) → some_two alike_entries es ≡ false → IsDistinct alike_entries es
unfolding IsDistinct
distinct [] h = tt
distinct (e ∷ es) h = (none_later e es (or_first_false _ (some_two alike_entries es) h), distinct es (or_second_false (list_any (alike_entries e) es) _ h))

none_alike : (es : List Entry) → IsDistinct alike_entries es → some_two alike_entries es ≡ false
unfolding IsDistinct
none_alike [] h = refl
none_alike (e ∷ es) h = ap (λ b. b || some_two alike_entries es) (no_later e es h.0) ∙ none_alike es h.1

alike_back : (a b : Text) → alike a b ≡ true → alike b a ≡ true
alike_back a b h = subst (λ t. same_text t (str_to_ascii_lowercase a) ≡ true) (text_same _ _ h) (same_as_itself (str_to_ascii_lowercase a))

alike_turned : (a b : Text) → alike a b ≡ alike b a
alike_turned a b = both_ways _ _ (alike_back a b) (alike_back b a)

from_false : (a b : Bool) → (a ≡ false → b ≡ false) → (b ≡ false → a ≡ false) → a ≡ b
from_false true true f g = refl
from_false true false f g = g refl
from_false false b f g = sym (f refl)

-- the order of entries does not matter
pub some_two_permuted : (es fs : List Entry) → IsPermutation es fs → some_two alike_entries fs ≡ some_two alike_entries es
some_two_permuted es fs p =
    from_false _ _
    (λ h. none_alike es (IsDistinct-IsPermutation alike_entries (λ x y. alike_turned x.0 y.0) fs es (IsPermutation-sym es fs p) (distinct fs h)))
    (λ h. none_alike fs (IsDistinct-IsPermutation alike_entries (λ x y. alike_turned x.0 y.0) es fs p (distinct es h)))

-- neighbours that are alike
neighbours : (ss : List Segment) (k : ℕ) (d : Segment) → suc k < length ss → alike_entries (entry_of (get_or ss k d)) (entry_of (get_or ss (suc k) d)) ≡ true → some_two alike_entries (map entry_of ss) ≡ true
neighbours [] k d h a = absurd (omega arith)
neighbours (s ∷ []) k d h a = absurd (omega arith)
neighbours (s ∷ t ∷ ss) zero d h a = ap (λ b. (b || list_any (alike_entries (entry_of s)) (map entry_of ss)) || some_two alike_entries (map entry_of (t ∷ ss))) a
neighbours (s ∷ t ∷ ss) (suc k) d h a = or_later (list_any (alike_entries (entry_of s)) (map entry_of (t ∷ ss))) _ (neighbours (t ∷ ss) k d (omega arith) a)

-- segments that rise
below_apart : (s : Segment) (ss : List Segment) → AllByRecursion (λ t. by_key s t ≡ Less) ss → list_any (alike_entries (entry_of s)) (map entry_of ss) ≡ false
below_apart s [] h = refl
below_apart s (t ∷ ss) h =
    ap (λ b. b || list_any (alike_entries (entry_of s)) (map entry_of ss)) (texts_ties (folded_key s) (folded_key t) ∙ ap is_eq h.0)
    ∙ below_apart s ss h.1

rising : (ss : List Segment) → IsStrictlySortedBy by_key ss → some_two alike_entries (map entry_of ss) ≡ false
unfolding IsStrictlySortedBy
rising [] h = refl
rising (s ∷ ss) h = ap (λ b. b || some_two alike_entries (map entry_of ss)) (below_apart s ss h.0) ∙ rising ss h.1

tied : (r : Ordering) → is_lt r ≡ false → is_lt (ordering_reverse r) ≡ false → r ≡ Equal
tied Less h k = absurd (false≢true (sym h))
tied Equal h k = refl
tied Greater h k = absurd (false≢true (sym k))

less : (r : Ordering) → true ≡ is_lt r → r ≡ Less
less Less h = refl
less Equal h = absurd (false≢true (sym h))
less Greater h = absurd (false≢true (sym h))

-- in ordered segments two are alike if two neighbours do not rise
pub tied_neighbours : (ss : List Segment) (r : Bool) → IsSorted by_key ss → IsAllAdjacentAnswer (λ x y b. b ≡ is_lt (by_key x y)) ss r → not r ≡ some_two alike_entries (map entry_of ss)
tied_neighbours [] true o a = refl
tied_neighbours (s ∷ ss) true o a = sym (rising (s ∷ ss) (sorted_from_all_adjacent (on_texts folded_key) (s ∷ ss) s (λ k h. less _ (a k s h))))
tied_neighbours [] false o a = absurd (let none = a.1 in omega (arith, none))
tied_neighbours (s ∷ ss) false o a =
    let all = s ∷ ss in
    let one = get_or all a.0 s in
    let next = get_or all (a.0 + 1) s in
    let back : is_lt (ordering_reverse (by_key one next)) ≡ false = ap is_lt (sym ((on_texts folded_key).antisymm next one)) ∙ o a.0 s (omega arith) a.1 in
    let equal : by_key one next ≡ Equal = tied (by_key one next) (sym (a.2 s)) back in
    let both : alike_entries (entry_of one) (entry_of next) ≡ true = texts_ties (folded_key one) (folded_key next) ∙ ap is_eq equal in
    let room = a.1 in
    sym (neighbours all a.0 s (omega (arith, room)) (subst (λ j. alike_entries (entry_of one) (entry_of (get_or all j s)) ≡ true) (add-one a.0) both))

-- a segment at a place
at_place : (p : Entry → Bool) (ss : List Segment) (i : ℕ) (s : Segment) → i < length ss → s ≡ get_or ss i s → p (entry_of s) ≡ true → list_any p (map entry_of ss) ≡ true
at_place p [] i s h is a = absurd (omega arith)
at_place p (t ∷ ss) zero s h is a = ap (λ b. b || list_any p (map entry_of ss)) (ap (λ u. p (entry_of u)) (sym is) ∙ a)
at_place p (t ∷ ss) (suc i) s h is a = or_later (p (entry_of t)) _ (at_place p ss i s (omega arith) is a)

pub found_place : (ss : List Segment) (i : ℕ) (s t : Segment) → i < length ss → s ≡ get_or ss i s → by_key (get_or ss i s) t ≡ Equal → same_text t.value.now s.value.now ≡ true → list_any (λ f. alike t.key.now f.0 && same_text t.value.now f.1) (map entry_of ss) ≡ true
found_place ss i s t h is tie same =
    let key : alike s.key.now t.key.now ≡ true = texts_ties (folded_key s) (folded_key t) ∙ ap (λ u. is_eq (by_key u t)) is ∙ ap is_eq tie in
    at_place (λ f. alike t.key.now f.0 && same_text t.value.now f.1) ss i s h is (ap (λ b. b && same_text t.value.now s.value.now) (alike_back s.key.now t.key.now key) ∙ same)
