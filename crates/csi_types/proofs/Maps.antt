-- Entries of texts as a finite map.
use Rattle.std.proofs.Common.{◌≡◌, ◌<◌, ◌≤◌, ◌+◌, ℕ, zero, suc, ltb, Bool, cond, List, [], ◌∷◌, Option, Some, None, Ordering, true, false, length, get_or, reverse, ◌++◌, append_assoc, arith, refl, sym, ap, subst, ◌∙◌}
use Rattle.std.specs.Ordering.{nat_cmp, eq_by_cmp, ordering_index, ordering_reverse, match_ordering}
use Rattle.std.specs.Cmp.Lexicographic.{slice_cmp, nat_list_cmp_total, pointwise}
use Rattle.std.specs.BTreeMap.{insert_entry, is_at}
use Rattle.std.specs.Map.{keys_of, lookup}
use Rattle.std.specs.List.Sorted.{IsStrictlySortedBy, IsNonDecreasingBy, IsPartitionPoint}
use Rattle.std.proofs.lemmas.List.Sorted.{searchable_from_sorted}
use Rattle.std.specs.FinMap.{FinMap, find, get, put, insert, entries, empty, from_entries, from_sorted, get-from_entries, get-entries, len-entries, len-empty, entries_sorted, is_sorted, entries-insert, entries-from_sorted, get-from_sorted, same_map, same_entries_map, nat_cmp-IsAntisymmetric, slice_cmp-IsAntisymmetric, IsAntisymmetric}
use Rattle.std.specs.FinMap.Entries.{by_order, below_all, is_sorted-put}
use Rattle.std.specs.Ordering.{is_eq, is_lt}
use Rattle.std.specs.List.{AllByRecursion}
use Rattle.std.specs.Option.{option_or}
use Rattle.std.proofs.lemmas.Bool.{ltb-true, ltb-false}
use Rattle.std.proofs.lemmas.List.{append-nil, reverse-append}
use Rattle.std.specs.declared.cmp.Ordering.TheVariants.{Less, Equal, Greater}
use Rattle.std.specs.Prelude.{T, ◌&&◌}
use Rattle.csi_types.specs.Maps.{IsRising, AreBelow}

abbrev pub Text : Type 0
Text = List ℕ

abbrev pub text_cmp : Text → Text → Ordering
text_cmp = slice_cmp nat_cmp

pub exact : IsAntisymmetric text_cmp
exact = slice_cmp-IsAntisymmetric nat_cmp-IsAntisymmetric

find_text : (es : List (Text × Text)) (q : Text) → find text_cmp q es ≡ lookup (is_at (text_cmp q)) es
find_text [] q = refl
find_text (e ∷ es) q = ap (cond (is_at (text_cmp q) e.0) (Some e.1)) (find_text es q)

sorted_rest : (k : Text) (ks : List Text) → IsStrictlySortedBy text_cmp (k ∷ ks) → IsStrictlySortedBy text_cmp ks
unfolding IsStrictlySortedBy
sorted_rest k ks h = h.1

pub zero_long : (es : List (Text × Text)) → length es ≡ 0 → es ≡ []
zero_long [] h = refl
zero_long (e ∷ es) h = absurd (omega arith)

empty_entries : entries (empty {X = Text} {R = text_cmp}) ≡ []
empty_entries = zero_long _ (sym (len-entries empty) ∙ len-empty text_cmp Text)

or_none : (a : Option Text) → option_or a None ≡ a
or_none None = refl
or_none (Some v) = refl

pub find_app : (q : Text) (xs ys : List (Text × Text)) → find text_cmp q (xs ++ ys) ≡ option_or (find text_cmp q xs) (find text_cmp q ys)
find_app q [] ys = refl
find_app q (x ∷ xs) ys =
    elim (eq_by_cmp text_cmp q x.0) as (λ b. cond b (Some x.1) (find text_cmp q (xs ++ ys)) ≡ option_or (cond b (Some x.1) (find text_cmp q xs)) (find text_cmp q ys)) [
      | true ↦ refl
      | false ↦ find_app q xs ys
    ]

pub not_found : (k : Text) (es : List (Text × Text)) → IsStrictlySortedBy text_cmp (k ∷ keys_of es) → find text_cmp k es ≡ None
unfolding IsStrictlySortedBy
not_found k [] h = refl
not_found k (e ∷ es) h = ap (λ r. cond (is_eq r) (Some e.1) (find text_cmp k es)) h.0.0 ∙ not_found k es (h.0.1, h.1.1)

pub tied : (r : Ordering) → is_eq r ≡ true → r ≡ Equal
tied Less e = absurd cc
tied Equal e = refl
tied Greater e = absurd cc

-- in sorted entries the last entry of a key is also its first
pub find_back : (q : Text) (es : List (Text × Text)) → IsStrictlySortedBy text_cmp (keys_of es) → find text_cmp q (reverse es) ≡ find text_cmp q es
find_back q [] h = refl
find_back q (e ∷ es) h =
    let rest = find_back q es (sorted_rest e.0 (keys_of es) h) in
    ap (find text_cmp q) (reverse-append (e ∷ []) es) ∙ find_app q (reverse es) (e ∷ [])
    ∙ ap (λ (o : Option Text). option_or o (cond (eq_by_cmp text_cmp q e.0) (Some e.1) None)) rest
    ∙ elim (eq_by_cmp text_cmp q e.0) as (λ b. eq_by_cmp text_cmp q e.0 ≡ b → option_or (find text_cmp q es) (cond b (Some e.1) None) ≡ cond b (Some e.1) (find text_cmp q es)) [
      | true ↦ λ t. ap (λ (o : Option Text). option_or o (Some e.1)) (subst (λ (k : Text). find text_cmp k es ≡ None) (sym (exact q e.0 (tied _ t))) (not_found e.0 es h))
      | false ↦ λ t. or_none (find text_cmp q es)
    ] refl

pub is_less : (r : Ordering) → T (is_lt r) → r ≡ Less
is_less Less p = refl
is_less Equal p = absurd p
is_less Greater p = absurd p

first_so : (a b : Bool) → T (a && b) → T a
first_so true b p = tt
first_so false b p = absurd p

pub second_so : (a b : Bool) → T (a && b) → T b
second_so true b p = p
second_so false b p = absurd p

each_below : (k : Text) (fs : List (Text × Text)) → T (below_all text_cmp k fs) → AllByRecursion (λ y. text_cmp k y ≡ Less) (keys_of fs)
each_below k [] b = tt
each_below k (f ∷ fs) b = (is_less _ (first_so _ _ b), each_below k fs (second_so _ _ b))

pub keys_sorted : (es : List (Text × Text)) → T (is_sorted text_cmp es) → IsStrictlySortedBy text_cmp (keys_of es)
unfolding IsStrictlySortedBy
keys_sorted [] h = tt
keys_sorted (e ∷ es) h = (each_below e.0 es (first_so _ _ h), keys_sorted es (second_so _ _ h))

-- the entries of a map, in order, make the map
pub again : (m : FinMap text_cmp Text) → from_entries {R = text_cmp} (reverse (entries m)) ≡ m
again m = same_map nat_list_cmp_total exact _ _ (λ q.
    get-from_entries nat_list_cmp_total (reverse (entries m)) q
    ∙ find_back q (entries m) (keys_sorted (entries m) (entries_sorted m))
    ∙ sym (get-entries m q))

both_false : (a b : Bool) → b ≡ false → (a && b) ≡ false
both_false true b h = h
both_false false b h = refl

-- lists of two lengths differ
pub apart_by_length : {A B : Type 0} (E : A → B → Bool) (xs : List A) (ys : List B) → (length xs ≡ length ys → ⊥) → pointwise E xs ys ≡ false
apart_by_length E [] [] h = absurd (h refl)
apart_by_length E [] (y ∷ ys) h = refl
apart_by_length E (x ∷ xs) [] h = refl
apart_by_length E (x ∷ xs) (y ∷ ys) h = both_false (E x y) _ (apart_by_length E xs ys (λ e. h (ap suc e)))

both_so : (a b : Bool) → T a → T b → T (a && b)
both_so true b p q = q
both_so false b p q = p

-- the entries of a map that was made from rising entries are these entries
pub entries_of : (es : List (Text × Text)) (m : FinMap text_cmp Text) → IsRising es → from_sorted es ≡ m → entries m ≡ es
entries_of es m h e = ap entries (sym e) ∙ entries-from_sorted text_cmp es h

-- the list has all entries if the tree has none
pub all_listed : (es fs : List (Text × Text)) (m : FinMap text_cmp Text) → IsRising (es ++ fs) → from_sorted (es ++ fs) ≡ m → length fs ≡ 0 → es ≡ entries m
all_listed es [] m h e none = sym (entries_of (es ++ []) m h e ∙ append-nil es)
all_listed es (f ∷ fs) m h e none = absurd (omega arith)

pub none_held : from_sorted {R = text_cmp} [] ≡ empty {X = Text}
none_held = same_entries_map _ _ (entries-from_sorted text_cmp [] tt ∙ sym empty_entries)

-- the entries after an entry is put among them
pub put_rising : (k v : Text) (es fs : List (Text × Text)) → IsRising es → fs ≡ put text_cmp k v es → IsRising fs
put_rising k v es fs h e = subst (λ xs. IsRising xs) (sym e) (is_sorted-put text_cmp nat_list_cmp_total k v es h)

pub put_inserts : (k v : Text) (es fs : List (Text × Text)) → IsRising es → fs ≡ put text_cmp k v es → from_sorted {R = text_cmp} fs ≡ insert (from_sorted es) k v
put_inserts k v es fs h e =
    same_entries_map _ _ (entries-from_sorted text_cmp fs (put_rising k v es fs h e) ∙ e
    ∙ ap (put text_cmp k v) (sym (entries-from_sorted text_cmp es h)) ∙ sym (entries-insert nat_list_cmp_total (from_sorted es) k v))

greater : (x y : Text) → text_cmp x y ≡ Less → text_cmp y x ≡ Greater
greater x y h = nat_list_cmp_total.antisymm y x ∙ ap ordering_reverse h

-- a key goes after the keys that are below it
pub put_beyond : (k v : Text) (es ts : List (Text × Text)) → AreBelow k es → put text_cmp k v (es ++ ts) ≡ es ++ put text_cmp k v ts
put_beyond k v [] ts h = refl
put_beyond k v (e ∷ es) ts h =
    ap (λ r. by_order r ((k, v) ∷ e ∷ (es ++ ts)) ((e.0, v) ∷ (es ++ ts)) (e ∷ put text_cmp k v (es ++ ts))) (greater e.0 k h.0)
    ∙ ap (λ r. e ∷ r) (put_beyond k v es ts h.1)

-- a tree enters as a map does
pub tree_puts : (k v : Text) (es : List (Text × Text)) → insert_entry text_cmp es k v ≡ put text_cmp k v es
tree_puts k v [] = refl
tree_puts k v (e ∷ es) =
    elim (text_cmp k e.0) as (λ r. match_ordering r ((k, v) ∷ e ∷ es) ((e.0, v) ∷ es) (e ∷ insert_entry text_cmp es k v) ≡ by_order r ((k, v) ∷ e ∷ es) ((e.0, v) ∷ es) (e ∷ put text_cmp k v es)) [
      | Less ↦ refl
      | Equal ↦ refl
      | Greater ↦ ap (λ r. e ∷ r) (tree_puts k v es)
    ]

below_last : (k : Text) (xs : List (Text × Text)) (e : Text × Text) → T (below_all text_cmp k (xs ++ e ∷ [])) → text_cmp k e.0 ≡ Less
below_last k [] e h = is_less _ (first_so _ _ h)
below_last k (x ∷ xs) e h = below_last k xs e (second_so _ _ h)

-- a key that is above the last key is above all keys
pub beyond_last : (k : Text) (xs : List (Text × Text)) (e : Text × Text) → IsRising (xs ++ e ∷ []) → text_cmp e.0 k ≡ Less → AreBelow k (xs ++ e ∷ [])
beyond_last k [] e h l = (l, tt)
beyond_last k (x ∷ xs) e h l = (nat_list_cmp_total.trans x.0 e.0 k (below_last x.0 xs e (first_so _ _ h)) l, beyond_last k xs e (second_so _ _ h) l)

front_below : (k : Text) (xs ys : List (Text × Text)) → T (below_all text_cmp k (xs ++ ys)) → T (below_all text_cmp k xs)
front_below k [] ys h = tt
front_below k (x ∷ xs) ys h = both_so _ _ (first_so _ _ h) (front_below k xs ys (second_so _ _ h))

pub front_rises : (xs ys : List (Text × Text)) → IsRising (xs ++ ys) → IsRising xs
front_rises [] ys h = tt
front_rises (x ∷ xs) ys h = both_so _ _ (front_below x.0 xs ys (first_so _ _ h)) (front_rises xs ys (second_so _ _ h))

back_rises : (xs ys : List (Text × Text)) → IsRising (xs ++ ys) → IsRising ys
back_rises [] ys h = h
back_rises (x ∷ xs) ys h = back_rises xs ys (second_so _ _ h)

goes_first : (e : Text × Text) (es : List (Text × Text)) → IsRising (e ∷ es) → insert_entry text_cmp es e.0 e.1 ≡ e ∷ es
goes_first e [] h = refl
goes_first e (f ∷ es) h =
    ap (λ r. match_ordering r (e ∷ f ∷ es) ((f.0, e.1) ∷ es) (f ∷ insert_entry text_cmp es e.0 e.1)) (is_less _ (first_so _ _ (first_so _ _ h)))

-- the last item of a list moves to the next tree
pub last_moves : (xs : List (Text × Text)) (e : Text × Text) (ts : List (Text × Text)) → IsRising ((xs ++ e ∷ []) ++ ts) → xs ++ insert_entry text_cmp ts e.0 e.1 ≡ (xs ++ e ∷ []) ++ ts
last_moves xs e ts h =
    let whole = append_assoc xs (e ∷ []) ts in
    ap (λ r. xs ++ r) (goes_first e ts (back_rises xs (e ∷ ts) (subst (λ es. IsRising es) whole h))) ∙ sym whole

-- an entry that a search finds is the entry of its key
below_at : (k : Text) (es : List (Text × Text)) (i : ℕ) (d : Text × Text) → T (below_all text_cmp k es) → i < length es → text_cmp k (get_or es i d).0 ≡ Less
below_at k [] i d h l = absurd (omega arith)
below_at k (e ∷ es) zero d h l = is_less _ (first_so _ _ h)
below_at k (e ∷ es) (suc i) d h l = below_at k es i d (second_so _ _ h) (omega arith)

pub find_at : (k : Text) (es : List (Text × Text)) (i : ℕ) (d : Text × Text) → IsRising es → i < length es → text_cmp (get_or es i d).0 k ≡ Equal → find text_cmp k es ≡ Some (get_or es i d).1
find_at k [] i d h l e = absurd (omega arith)
find_at k (x ∷ es) zero d h l e = ap (λ r. cond (is_eq r) (Some x.1) (find text_cmp k es)) (nat_list_cmp_total.antisymm k x.0 ∙ ap ordering_reverse e)
find_at k (x ∷ es) (suc i) d h l e =
    let less : text_cmp x.0 k ≡ Less = subst (λ q. text_cmp x.0 q ≡ Less) (exact _ _ e) (below_at x.0 es i d (first_so _ _ h) (omega arith)) in
    ap (λ r. cond (is_eq r) (Some x.1) (find text_cmp k es)) (greater x.0 k less) ∙ find_at k es i d (second_so _ _ h) (omega arith) e

-- a key that a search misses is not among their keys
rises : (es : List (Text × Text)) → IsRising es → (n : ℕ) (d : Text × Text) → 0 ≤ n → n + 1 < length es → is_lt (text_cmp (get_or es (n + 1) d).0 (get_or es n d).0) ≡ false
rises [] h n d z l = absurd (omega arith)
rises (e ∷ es) h zero d z l = ap is_lt (greater e.0 (get_or es 0 d).0 (below_at e.0 es 0 d (first_so _ _ h) (omega arith)))
rises (e ∷ es) h (suc n) d z l =
    let next : suc n + 1 ≡ suc (n + 1) = omega arith in
    rw next (rises es (second_so _ _ h) n d (omega arith) (omega arith))

none_at : (k : Text) (es : List (Text × Text)) → ((j : ℕ) (d : Text × Text) → j < length es → is_eq (text_cmp k (get_or es j d).0) ≡ false) → find text_cmp k es ≡ None
none_at k [] h = refl
none_at k (e ∷ es) h = ap (λ b. cond b (Some e.1) (find text_cmp k es)) (h 0 e (omega arith)) ∙ none_at k es (λ j d l. h (suc j) d (omega arith))

apart_below : (k x : Text) → text_cmp x k ≡ Less → is_eq (text_cmp k x) ≡ false
apart_below k x h = ap is_eq (greater x k h)

apart_above : (k x : Text) → text_cmp x k ≡ Greater → is_eq (text_cmp k x) ≡ false
apart_above k x h = ap is_eq (nat_list_cmp_total.antisymm k x ∙ ap ordering_reverse h)

pub find_none : (k : Text) (es : List (Text × Text)) (i : ℕ) → IsRising es
    → (IsNonDecreasingBy (λ y. ordering_index (text_cmp y.0 k)) es → IsPartitionPoint (λ y. text_cmp y.0 k ≡ Less) (λ y. text_cmp y.0 k ≡ Greater) es i)
    → find text_cmp k es ≡ None
find_none k es i h p =
    let parts = p (searchable_from_sorted nat_list_cmp_total (λ e. e.0) es k (rises es h)) in
    none_at k es (λ j d l. elim (ltb j i) as (λ b. ltb j i ≡ b → is_eq (text_cmp k (get_or es j d).0) ≡ false) [
      | true ↦ λ t. apart_below k _ (parts.0 j d (omega arith) (ltb-true j i t))
      | false ↦ λ t. apart_above k _ (parts.1 j d (ltb-false j i t) l)
    ] refl)

-- the value that a list and a tree have at a key
pub got_listed : (k : Text) (es ts : List (Text × Text)) (i : ℕ) (d : Text × Text) → IsRising (es ++ ts) → i < length es → text_cmp (get_or es i d).0 k ≡ Equal → get (from_sorted {R = text_cmp} (es ++ ts)) k ≡ Some (get_or es i d).1
got_listed k es ts i d h l e =
    get-from_sorted text_cmp (es ++ ts) k h ∙ find_app k es ts
    ∙ ap (λ (o : Option Text). option_or o (find text_cmp k ts)) (find_at k es i d (front_rises es ts h) l e)

pub got_in_tree : (k : Text) (es ts : List (Text × Text)) → IsRising (es ++ ts) → find text_cmp k es ≡ None → get (from_sorted {R = text_cmp} (es ++ ts)) k ≡ lookup (is_at (text_cmp k)) ts
got_in_tree k es ts h e =
    get-from_sorted text_cmp (es ++ ts) k h ∙ find_app k es ts
    ∙ ap (λ (o : Option Text). option_or o (find text_cmp k ts)) e ∙ find_text ts k
