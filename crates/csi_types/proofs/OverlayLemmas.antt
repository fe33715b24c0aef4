-- Maps laid over one another: their value at a key.
use Rattle.std.proofs.Common.{◌≡◌, cond, true, false, ◌&&◌, List, [], ◌∷◌, ◌++◌, Option, Some, None, reverse, refl, sym, ap, subst, ◌∙◌}
use Rattle.std.specs.Cmp.Lexicographic.{nat_list_cmp_total, texts_ties}
use Rattle.std.specs.FinMap.{find, get, entries, entries_sorted, from_entries, get-entries, get-from_entries, same_map}
use Rattle.std.specs.List.{list_all}
use Rattle.std.specs.Option.{option_or}
use Rattle.std.specs.Ordering.{eq_by_cmp}
use Rattle.std.specs.Prelude.{◌↔◌}
use Rattle.csi_types.specs.Maps.{TextMap, IsRising}
use Rattle.csi_types.specs.Overlays.{laid_over, is_text, has_each}
use Rattle.csi_types.proofs.FoldingLemmas.{and_first, and_second, false≢true, same_as_itself, text_same}
use Rattle.csi_types.proofs.Maps.{Text, exact, find_app, find_back, keys_sorted, not_found, second_so, text_cmp, tied}

-- a given key has the given value, and any other key its own
pub get_laid : (m given : TextMap) (k : Text) → get (laid_over m given) k ≡ option_or (get given k) (get m k)
unfolding laid_over
get_laid m given k =
    get-from_entries nat_list_cmp_total (entries given ++ entries m) k ∙ find_app k (entries given) (entries m)
    ∙ ap (λ (o : Option Text). option_or o (find text_cmp k (entries m))) (sym (get-entries given k))
    ∙ ap (λ (o : Option Text). option_or (get given k) o) (sym (get-entries m k))

-- equal answers make equal maps
maps_same : (m n : TextMap) → ((k : Text) → get m k ≡ get n k) → m ≡ n
maps_same = same_map nat_list_cmp_total exact

-- the entries of a map make the map
pub itself : (m : TextMap) → from_entries (entries m) ≡ m
itself m = maps_same _ m (λ k. get-from_entries nat_list_cmp_total (entries m) k ∙ sym (get-entries m k))

-- the entries may come in either order
pub laid_from : (m given : TextMap) → from_entries (reverse (entries given) ++ entries m) ≡ laid_over m given
laid_from m given = maps_same _ _ (λ k.
    get-from_entries nat_list_cmp_total (reverse (entries given) ++ entries m) k ∙ find_app k (reverse (entries given)) (entries m)
    ∙ ap (λ (o : Option Text). option_or o (find text_cmp k (entries m))) (find_back k (entries given) (keys_sorted (entries given) (entries_sorted given)) ∙ sym (get-entries given k))
    ∙ ap (λ (o : Option Text). option_or (get given k) o) (sym (get-entries m k))
    ∙ sym (get_laid m given k))

-- a map has each entry of another

is_text_of : (v : Text) (o : Option Text) → is_text v o ≡ true → o ≡ Some v
is_text_of v None h = absurd (false≢true h)
is_text_of v (Some w) h = ap Some (text_same w v h)

of_is_text : (v : Text) (o : Option Text) → o ≡ Some v → is_text v o ≡ true
of_is_text v o e = ap (is_text v) e ∙ same_as_itself v

finds_each : (m : TextMap) (es : List (Text × Text)) → list_all (λ e. is_text e.1 (get m e.0)) es ≡ true → (k v : Text) → find text_cmp k es ≡ Some v → get m k ≡ Some v
finds_each m [] h k v f = absurd cc
finds_each m (e ∷ es) h k v f =
    elim (eq_by_cmp text_cmp k e.0) as (λ b. eq_by_cmp text_cmp k e.0 ≡ b → cond b (Some e.1) (find text_cmp k es) ≡ Some v → get m k ≡ Some v) [
      | true ↦ λ t g.
          ap (get m) (exact k e.0 (tied _ t)) ∙ is_text_of e.1 (get m e.0) (and_first _ _ h) ∙ g
      | false ↦ λ t g. finds_each m es (and_second (is_text e.1 (get m e.0)) _ h) k v g
    ] refl f

-- the first entry of a key is found before the others
passes_by : (e : Text × Text) (es : List (Text × Text)) → IsRising (e ∷ es) → (k v : Text) → find text_cmp k es ≡ Some v → find text_cmp k (e ∷ es) ≡ Some v
passes_by e es h k v f =
    elim (eq_by_cmp text_cmp k e.0) as (λ b. eq_by_cmp text_cmp k e.0 ≡ b → cond b (Some e.1) (find text_cmp k es) ≡ Some v) [
      | true ↦ λ t.
          let none : find text_cmp k es ≡ None = subst (λ (q : Text). find text_cmp q es ≡ None) (sym (exact k e.0 (tied _ t))) (not_found e.0 es (keys_sorted (e ∷ es) h)) in
          absurd (cc (none, f))
      | false ↦ λ t. f
    ] refl

finds_itself : (e : Text × Text) (es : List (Text × Text)) → find text_cmp e.0 (e ∷ es) ≡ Some e.1
finds_itself e es = ap (λ b. cond b (Some e.1) (find text_cmp e.0 es)) (sym (texts_ties e.0 e.0) ∙ same_as_itself e.0)

each_found : (m : TextMap) (es : List (Text × Text)) → IsRising es → ((k v : Text) → find text_cmp k es ≡ Some v → get m k ≡ Some v) → list_all (λ e. is_text e.1 (get m e.0)) es ≡ true
each_found m [] h g = refl
each_found m (e ∷ es) h g =
    ap (λ b. b && list_all (λ f. is_text f.1 (get m f.0)) es) (of_is_text e.1 (get m e.0) (g e.0 e.1 (finds_itself e es)))
    ∙ each_found m es (second_so _ _ h) (λ k v f. g k v (passes_by e es h k v f))

pub has_gets : (m given : TextMap) → has_each m given ≡ true → (k v : Text) → get given k ≡ Some v → get m k ≡ Some v
has_gets m given h k v g = finds_each m (entries given) h k v (sym (get-entries given k) ∙ g)

pub gets_have : (m given : TextMap) → ((k v : Text) → get given k ≡ Some v → get m k ≡ Some v) → has_each m given ≡ true
gets_have m given g = each_found m (entries given) (entries_sorted given) (λ k v f. g k v (get-entries given k ∙ f))

pub included : (m given : TextMap) → (has_each m given ≡ true) ↔ ((k v : Text) → get given k ≡ Some v → get m k ≡ Some v)
included m given = (has_gets m given, gets_have m given)

-- the overlay's entries are in the result

or_first : (a b : Option Text) (v : Text) → a ≡ Some v → option_or a b ≡ Some v
or_first a b v e = ap (λ (o : Option Text). option_or o b) e

pub laid_has : (m given : TextMap) → has_each (laid_over m given) given ≡ true
laid_has m given = gets_have (laid_over m given) given (λ k v g. get_laid m given k ∙ or_first (get given k) (get m k) v g)

-- if the value was there already, nothing changes

or_had : (a b : Option Text) → ((v : Text) → a ≡ Some v → b ≡ Some v) → option_or a b ≡ b
or_had None b h = refl
or_had (Some v) b h = sym (h v refl)

pub laid_kept : (m given : TextMap) → has_each m given ≡ true → laid_over m given ≡ m
laid_kept m given h = maps_same _ m (λ k. get_laid m given k ∙ or_had (get given k) (get m k) (λ v g. has_gets m given h k v g))

pub laid_again : (m given : TextMap) → laid_over (laid_over m given) given ≡ laid_over m given
laid_again m given = laid_kept (laid_over m given) given (laid_has m given)

pub has_itself : (m : TextMap) → has_each m m ≡ true
has_itself m = gets_have m m (λ k v g. g)
