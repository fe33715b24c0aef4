-- Topologies are equal, when their keys are folded, exactly if each entry of one is in the other.
use Rattle.std.proofs.Common.{◌≡◌, ℕ, Bool, true, false, cond, ◌&&◌, ◌||◌, List, [], ◌∷◌, Option, Some, None, map, refl, sym, ap, subst, ◌∙◌}
use Rattle.std.specs.Cmp.Lexicographic.{slice_cmp, nat_list_cmp_total, texts_ties}
use Rattle.std.specs.FinMap.{FinMap, find, get, entries, from_entries, get-from_entries, same_map as maps_from_gets, same_entries_map, nat_cmp-IsAntisymmetric, slice_cmp-IsAntisymmetric}
use Rattle.std.specs.List.{list_any, list_all}
use Rattle.std.specs.Ordering.{nat_cmp}
use Rattle.std.specs.Str.{str_to_ascii_lowercase}
use Rattle.csi_types.specs.Maps.{TextMap, same_text, same_map}
use Rattle.csi_types.specs.Topology.{some_two, alike, folded, has_alike_keys, is_within, same_topology}
use lib.Pointwise.{pointwise_decides, bytes_decides}

abbrev pub Text : Type 0
Text = List ℕ

abbrev pub Entry : Type 0
Entry = Text × Text

abbrev pub same_key : Entry → Entry → Bool
same_key e f = same_text e.0 f.0

abbrev pub same_entry : Entry → Entry → Bool
same_entry e f = same_text e.0 f.0 && same_text e.1 f.1

pub false≢true : false ≡ true → ⊥
false≢true e = absurd (cc e)

-- facts about two tests
pub and_first : (a b : Bool) → (a && b) ≡ true → a ≡ true
and_first true b h = refl
and_first false b h = h

pub and_second : (a b : Bool) → (a && b) ≡ true → b ≡ true
and_second true b h = h
and_second false b h = absurd (false≢true h)

pub or_first_false : (a b : Bool) → (a || b) ≡ false → a ≡ false
or_first_false true b h = h
or_first_false false b h = refl

pub or_second_false : (a b : Bool) → (a || b) ≡ false → b ≡ false
or_second_false true b h = absurd (false≢true (sym h))
or_second_false false b h = h

pub text_same : (a b : Text) → same_text a b ≡ true → a ≡ b
text_same a b h = (bytes_decides a b).0 h

pub same_as_itself : (a : Text) → same_text a a ≡ true
same_as_itself a = (bytes_decides a a).1 refl

-- `find` by the tests
found : Text → List Entry → Option Text
found q es = find (slice_cmp nat_cmp) q es

found_first : (q : Text) (e : Entry) (es : List Entry) → found q (e ∷ es) ≡ cond (same_text q e.0) (Some e.1) (found q es)
unfolding found
found_first q e es = ap (λ b. cond b (Some e.1) (find (slice_cmp nat_cmp) q es)) (sym (texts_ties q e.0))

-- an entry of the list has its key
key_from_entry : (e : Entry) (es : List Entry) → list_any (same_entry e) es ≡ true → list_any (same_key e) es ≡ true
key_from_entry e [] h = h
key_from_entry e (f ∷ es) h =
    elim (same_text e.0 f.0) as (λ b. ((b && same_text e.1 f.1) || list_any (same_entry e) es) ≡ true → (b || list_any (same_key e) es) ≡ true) [
      | true ↦ λ _. refl
      | false ↦ λ k. key_from_entry e es k
    ] h

-- among entries with distinct keys, each entry is found
found_entry : (q v : Text) (es : List Entry) → some_two same_key es ≡ false → list_any (same_entry (q, v)) es ≡ true → found q es ≡ Some v
found_entry q v [] d h = absurd (false≢true h)
found_entry q v (f ∷ es) d h =
    let first = or_first_false _ (some_two same_key es) d in
    let rest = or_second_false (list_any (same_key f) es) _ d in
    found_first q f es
    ∙ elim (same_text q f.0) as (λ b. same_text q f.0 ≡ b → ((b && same_text v f.1) || list_any (same_entry (q, v)) es) ≡ true → cond b (Some f.1) (found q es) ≡ Some v) [
      | true ↦ λ e k. elim (same_text v f.1) as (λ b. same_text v f.1 ≡ b → (b || list_any (same_entry (q, v)) es) ≡ true → Some f.1 ≡ Some v) [
        | true ↦ λ w _. ap Some (sym (text_same v f.1 w))
        | false ↦ λ w m. absurd (false≢true (sym first ∙ ap (λ k. list_any (λ g. same_text k g.0) es) (sym (text_same q f.0 e)) ∙ key_from_entry (q, v) es m))
      ] refl k
      | false ↦ λ e k. found_entry q v es rest k
    ] refl h

the_same : (a b : Text) → Some a ≡ Some b → a ≡ b
the_same a b h = cc

-- a found entry is in the list
entry_found : (q v : Text) (es : List Entry) → found q es ≡ Some v → list_any (same_entry (q, v)) es ≡ true
unfolding found
entry_found q v [] h = absurd (cc h)
entry_found q v (f ∷ es) h =
    elim (same_text q f.0) as (λ b. cond b (Some f.1) (found q es) ≡ Some v → ((b && same_text v f.1) || list_any (same_entry (q, v)) es) ≡ true) [
      | true ↦ λ k. ap (λ b. b || list_any (same_entry (q, v)) es) (subst (λ w. same_text v w ≡ true) (sym (the_same f.1 v k)) (same_as_itself v))
      | false ↦ λ k. entry_found q v es k
    ] (sym (found_first q f es) ∙ h)

pub or_later : (a b : Bool) → b ≡ true → (a || b) ≡ true
or_later true b h = refl
or_later false b h = h

-- a member of one list is a member of the other, if each entry of the one is
has_also : (e : Entry) (es fs : List Entry) → list_all (λ f. list_any (same_entry f) fs) es ≡ true → list_any (same_entry e) es ≡ true → list_any (same_entry e) fs ≡ true
has_also e [] fs a h = absurd (false≢true h)
has_also e (f ∷ es) fs a h =
    elim (same_entry e f) as (λ b. same_entry e f ≡ b → (b || list_any (same_entry e) es) ≡ true → list_any (same_entry e) fs ≡ true) [
      | true ↦ λ s _.
          let key : e.0 ≡ f.0 = text_same e.0 f.0 (and_first _ _ s) in
          let value : e.1 ≡ f.1 = text_same e.1 f.1 (and_second (same_text e.0 f.0) _ s) in
          subst (λ v. list_any (same_entry (e.0, v)) fs ≡ true) (sym value) (subst (λ k. list_any (same_entry (k, f.1)) fs ≡ true) (sym key) (and_first _ _ a))
      | false ↦ λ _ k. has_also e es fs (and_second (list_any (same_entry f) fs) _ a) k
    ] refl h

-- lists that find alike have each other's entries
all_has : (es fs xs : List Entry) → some_two same_key es ≡ false → ((q : Text) → found q es ≡ found q fs) → ((e : Entry) → list_any (same_entry e) xs ≡ true → list_any (same_entry e) es ≡ true) → list_all (λ e. list_any (same_entry e) fs) xs ≡ true
all_has es fs [] d is in_es = refl
all_has es fs (x ∷ xs) d is in_es =
    let here : list_any (same_entry x) (x ∷ xs) ≡ true = ap (λ b. (b && same_text x.1 x.1) || list_any (same_entry x) xs) (same_as_itself x.0) ∙ ap (λ b. b || list_any (same_entry x) xs) (same_as_itself x.1) in
    let one : list_any (same_entry x) fs ≡ true = entry_found x.0 x.1 fs (sym (is x.0) ∙ found_entry x.0 x.1 es d (in_es x here)) in
    ap (λ b. b && list_all (λ e. list_any (same_entry e) fs) xs) one
    ∙ all_has es fs xs d is (λ e h. in_es e (or_later (same_entry e x) _ h))

-- lists with the same entries have equal look-ups
found_alike : (es fs : List Entry) → some_two same_key es ≡ false → some_two same_key fs ≡ false → list_all (λ e. list_any (same_entry e) fs) es ≡ true → list_all (λ f. list_any (same_entry f) es) fs ≡ true → (q : Text) → found q es ≡ found q fs
found_alike es fs d d' there back q =
    elim (found q es) as (λ o. found q es ≡ o → o ≡ found q fs) [
      | Some v ↦ λ e. sym (found_entry q v fs d' (has_also (q, v) es fs there (entry_found q v es e)))
      | None ↦ λ e. elim (found q fs) as (λ o. found q fs ≡ o → None ≡ o) [
        | Some w ↦ λ f. sym e ∙ found_entry q w es d (has_also (q, w) fs es back (entry_found q w fs f))
        | None ↦ λ _. refl
      ] refl
    ] refl

pub both_ways : (a b : Bool) → (a ≡ true → b ≡ true) → (b ≡ true → a ≡ true) → a ≡ b
both_ways true b f g = sym (f refl)
both_ways false true f g = g refl
both_ways false false f g = refl

entry_decides : (e f : Entry) → (same_entry e f ≡ true → e ≡ f) × (e ≡ f → same_entry e f ≡ true)
entry_decides e f = (
  λ h. let key = text_same e.0 f.0 (and_first _ _ h) in let value = text_same e.1 f.1 (and_second (same_text e.0 f.0) _ h) in λ i. (key i, value i),
  λ p. subst (λ g. same_entry e g ≡ true) p (ap (λ b. b && same_text e.1 e.1) (same_as_itself e.0) ∙ same_as_itself e.1),
)

same_map_decides : (m n : FinMap (slice_cmp nat_cmp) Text) → (same_map m n ≡ true → m ≡ n) × (m ≡ n → same_map m n ≡ true)
same_map_decides m n = (
  λ h. same_entries_map m n ((pointwise_decides entry_decides (entries m) (entries n)).0 h),
  λ p. (pointwise_decides entry_decides (entries m) (entries n)).1 (ap entries p),
)

abbrev Folded : List Entry → FinMap (slice_cmp nat_cmp) Text
Folded es = from_entries es

-- lists with equal maps
maps_alike : (es fs : List Entry) → ((q : Text) → found q es ≡ found q fs) → Folded es ≡ Folded fs
unfolding found
maps_alike es fs is =
    maps_from_gets nat_list_cmp_total (slice_cmp-IsAntisymmetric nat_cmp-IsAntisymmetric) _ _ (λ q.
    get-from_entries nat_list_cmp_total es q ∙ is q ∙ sym (get-from_entries nat_list_cmp_total fs q))

alike_maps : (es fs : List Entry) → Folded es ≡ Folded fs → (q : Text) → found q es ≡ found q fs
unfolding found
alike_maps es fs is q = sym (get-from_entries nat_list_cmp_total es q) ∙ ap (λ m. get m q) is ∙ get-from_entries nat_list_cmp_total fs q

-- if the keys of each list differ: each entry of one list is in the other exactly if their maps are equal
lists_same : (es fs : List Entry) → some_two same_key es ≡ false → some_two same_key fs ≡ false → (list_all (λ e. list_any (same_entry e) fs) es && list_all (λ f. list_any (same_entry f) es) fs) ≡ same_map (Folded es) (Folded fs)
lists_same es fs d d' =
    both_ways _ _
    (λ h. (same_map_decides _ _).1 (maps_alike es fs (found_alike es fs d d' (and_first _ _ h) (and_second (list_all (λ e. list_any (same_entry e) fs) es) _ h))))
    (λ h.
    let is = alike_maps es fs ((same_map_decides (Folded es) (Folded fs)).0 h) in
    ap (λ b. b && list_all (λ f. list_any (same_entry f) es) fs) (all_has es fs es d is (λ _ k. k)) ∙ all_has fs es fs d' (λ q. sym (is q)) (λ _ k. k))

-- the entry with its key folded
abbrev fold_key : Entry → Entry
fold_key e = (str_to_ascii_lowercase e.0, e.1)

any_folded : (test : Entry → Bool) (es : List Entry) → list_any test (map fold_key es) ≡ list_any (λ e. test (fold_key e)) es
any_folded test [] = refl
any_folded test (e ∷ es) = ap (λ b. test (fold_key e) || b) (any_folded test es)

all_folded : (es fs : List Entry) → list_all (λ e. list_any (same_entry e) (map fold_key fs)) (map fold_key es) ≡ list_all (λ e. list_any (λ f. alike e.0 f.0 && same_text e.1 f.1) fs) es
all_folded [] fs = refl
all_folded (e ∷ es) fs =
    ap (λ b. b && list_all (λ e. list_any (same_entry e) (map fold_key fs)) (map fold_key es)) (any_folded (same_entry (fold_key e)) fs)
    ∙ ap (λ b. list_any (λ f. alike e.0 f.0 && same_text e.1 f.1) fs && b) (all_folded es fs)

two_folded : (es : List Entry) → some_two same_key (map fold_key es) ≡ some_two (λ e f. alike e.0 f.0) es
two_folded [] = refl
two_folded (e ∷ es) =
    ap (λ b. b || some_two same_key (map fold_key es)) (any_folded (same_key (fold_key e)) es)
    ∙ ap (λ b. list_any (λ f. alike e.0 f.0) es || b) (two_folded es)

-- topologies whose keys differ are equal if each has the other's segments
pub within_both : (m n : TextMap) → has_alike_keys m ≡ false → has_alike_keys n ≡ false → (is_within m n && is_within n m) ≡ same_topology m n
unfolding folded
within_both m n d d' =
    ap (λ b. b && is_within n m) (sym (all_folded (entries m) (entries n)))
    ∙ ap (λ b. list_all (λ e. list_any (same_entry e) (map fold_key (entries n))) (map fold_key (entries m)) && b) (sym (all_folded (entries n) (entries m)))
    ∙ lists_same (map fold_key (entries m)) (map fold_key (entries n)) (two_folded (entries m) ∙ d) (two_folded (entries n) ∙ d')

-- containment is transitive
all_also : (xs es fs : List Entry) → list_all (λ x. list_any (same_entry x) es) xs ≡ true → list_all (λ e. list_any (same_entry e) fs) es ≡ true → list_all (λ x. list_any (same_entry x) fs) xs ≡ true
all_also [] es fs h k = refl
all_also (x ∷ xs) es fs h k =
    ap (λ b. b && list_all (λ x. list_any (same_entry x) fs) xs) (has_also x es fs k (and_first _ _ h))
    ∙ all_also xs es fs (and_second (list_any (same_entry x) es) _ h) k

within_then : (m n o : TextMap) → is_within m n ≡ true → is_within n o ≡ true → is_within m o ≡ true
within_then m n o h k =
    sym (all_folded (entries m) (entries o))
    ∙ all_also (map fold_key (entries m)) (map fold_key (entries n)) (map fold_key (entries o)) (all_folded (entries m) (entries n) ∙ h) (all_folded (entries n) (entries o) ∙ k)

-- equal topologies contain the same topologies, and are contained in the same ones
pub equal_inner : (m n o : TextMap) → has_alike_keys m ≡ false → has_alike_keys n ≡ false → same_topology m n ≡ true → is_within o m ≡ is_within o n
equal_inner m n o d d' same =
    let both = within_both m n d d' ∙ same in
    both_ways _ _ (λ h. within_then o m n h (and_first _ _ both)) (λ h. within_then o n m h (and_second (is_within m n) _ both))

pub equal_outer : (m n o : TextMap) → has_alike_keys m ≡ false → has_alike_keys n ≡ false → same_topology m n ≡ true → is_within m o ≡ is_within n o
equal_outer m n o d d' same =
    let both = within_both m n d d' ∙ same in
    both_ways _ _ (λ h. within_then n m o (and_second (is_within m n) _ both) h) (λ h. within_then m n o (and_first _ _ both) h)
