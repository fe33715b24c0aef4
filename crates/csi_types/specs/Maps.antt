-- Equality of texts and of maps of texts, as a test.
use Rattle.std.specs.Prelude.{◌≡◌, ℕ, Bool, ◌&&◌, T, List, nat_eq}
use Rattle.std.specs.Cmp.{IsEquivalence, IsPartialEquivalence, and_equiv, on_equiv, partial_equiv_from_equiv}
use Rattle.std.specs.Cmp.Lexicographic.{pointwise, slice_cmp, lists_equiv, nat_list_eq_equiv}
use Rattle.std.specs.FinMap.{FinMap, entries, is_sorted}
use Rattle.std.specs.List.{AllByRecursion}
use Rattle.std.specs.Ordering.{nat_cmp}
use Rattle.std.specs.declared.cmp.Ordering.TheVariants.{Less}

-- a map of texts, in byte order of its keys
abbrev pub TextMap : Type 0
TextMap = FinMap (slice_cmp nat_cmp) (List ℕ)

-- the keys of the entries are in strictly rising order
abbrev pub IsRising : List (List ℕ × List ℕ) → Type 0
IsRising es = T (is_sorted (slice_cmp nat_cmp) es)

-- all keys of the entries are below this key
abbrev pub AreBelow : List ℕ → List (List ℕ × List ℕ) → Type 0
AreBelow key es = AllByRecursion (λ e. slice_cmp nat_cmp e.0 key ≡ Less) es

abbrev pub same_text : List ℕ → List ℕ → Bool
same_text = pointwise nat_eq

-- the maps have the same entries
abbrev pub same_map : TextMap → TextMap → Bool
same_map m n = pointwise (λ p q. same_text p.0 q.0 && same_text p.1 q.1) (entries m) (entries n)

pub same_map_equiv : IsEquivalence same_map
same_map_equiv = on_equiv entries (lists_equiv (and_equiv (on_equiv (λ p. p.0) nat_list_eq_equiv) (on_equiv (λ p. p.1) nat_list_eq_equiv)))

pub same_map_per : IsPartialEquivalence same_map
same_map_per = partial_equiv_from_equiv same_map_equiv
