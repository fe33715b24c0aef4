-- Capability keys in order, and the keys of capabilities, one capability after the other.
use Rattle.std.proofs.Common.{◌≡◌, ◌∙◌, ap, ap₂, sym, subst, refl, cond, arith, ℕ, ◌+◌, ◌<◌, ◌≤◌, Bool, true, false, ◌&&◌, ◌||◌, is_some, List, []}
use Rattle.std.proofs.Common.{◌∷◌, ◌++◌, map, length, take, get_or, Option, Some, None, T, Ordering, Less, Equal, Greater, append-nil}
use Rattle.std.specs.BTreeMap.{is_at}
use Rattle.std.specs.BTreeSet.{insert_key}
use Rattle.std.specs.FinMap as fin
use Rattle.std.specs.FinMap.Entries.{by_order, below_all}
use Rattle.std.specs.List.{list_any, list_all, filter_map, cons_option, AllByRecursion}
use Rattle.std.specs.List.Sorted.{IsStrictlySortedBy}
use Rattle.std.specs.Option.{option_and_then}
use Rattle.std.specs.Ordering.{eq_by_cmp, is_lt, match_ordering}
use Rattle.std.proofs.lemmas.List.{take_more, length-map}
use Rattle.csi_types.specs.declared.capability.Capability.{Capability}
use Rattle.csi_keeper.specs.declared.capability.CapKey.{CapKey}
use Rattle.csi_keeper.specs.Capability.{key_cmp, AreOrdered, key_of, keys_of, ordered, same_key, wider_key, has_same, has_key, have_keys}
use Rattle.csi_keeper.specs.Order.{key_total, key_exact, keys_tie}
use Rattle.csi_keeper.specs.facts.Capability.{has_same_none}

abbrev Entry : Type 0
Entry = CapKey × Bool

abbrev entry : CapKey → Entry
entry k = (k, true)

abbrev set_of : List CapKey → fin.FinMap key_cmp Bool
set_of ks = fin.from_entries (map entry ks)

find_push : (ks : List CapKey) (k q : CapKey)
    → fin.find key_cmp q (map entry (ks ++ k ∷ [])) ≡ cond (eq_by_cmp key_cmp q k) (Some true) (fin.find key_cmp q (map entry ks))
find_push [] k q = refl
find_push (j ∷ ks) k q =
    ap (cond (eq_by_cmp key_cmp q j) (Some true)) (find_push ks k q)
    ∙ both (eq_by_cmp key_cmp q j) (eq_by_cmp key_cmp q k) (fin.find key_cmp q (map entry ks))
  where
    both : (a b : Bool) (o : Option Bool) → cond a (Some true) (cond b (Some true) o) ≡ cond b (Some true) (cond a (Some true) o)
    both true true o = refl
    both true false o = refl
    both false true o = refl
    both false false o = refl

set_push : (ks : List CapKey) (k : CapKey) → set_of (ks ++ k ∷ []) ≡ fin.insert (set_of ks) k true
set_push ks k = fin.same_map key_total key_exact _ _ (λ q.
    fin.get-from_entries key_total (map entry (ks ++ k ∷ [])) q ∙ find_push ks k q
    ∙ sym (fin.get-insert key_total (set_of ks) k true q ∙ ap (cond (eq_by_cmp key_cmp q k) (Some true)) (fin.get-from_entries key_total (map entry ks) q)))

keys_put : (k : CapKey) (es : List Entry) → map (λ e. e.0) (fin.put key_cmp k true es) ≡ insert_key key_cmp (map (λ e. e.0) es) k
keys_put k [] = refl
keys_put k (e ∷ es) = go (key_cmp k e.0) (keys_put k es)
  where
    go : (r : Ordering) → map (λ e. e.0) (fin.put key_cmp k true es) ≡ insert_key key_cmp (map (λ e. e.0) es) k
        → map (λ e. e.0) (by_order r ((k, true) ∷ e ∷ es) ((e.0, true) ∷ es) (e ∷ fin.put key_cmp k true es))
        ≡ match_ordering r (k ∷ e.0 ∷ map (λ e. e.0) es) (e.0 ∷ map (λ e. e.0) es) (e.0 ∷ insert_key key_cmp (map (λ e. e.0) es) k)
    go Less more = refl
    go Equal more = refl
    go Greater more = ap (λ ks. e.0 ∷ ks) more

insert_is : (m : fin.FinMap key_cmp Bool) (k : CapKey) → fin.keys (fin.insert m k true) ≡ insert_key key_cmp (fin.keys m) k
insert_is m k = ap (map (λ (e : Entry). e.0)) (fin.entries-insert key_total m k true) ∙ keys_put k (fin.entries m)

-- the ordered keys after one more key
ordered_push : (ks : List CapKey) (k : CapKey) → ordered (ks ++ k ∷ []) ≡ insert_key key_cmp (ordered ks) k
ordered_push ks k = ap fin.keys (set_push ks k) ∙ insert_is (set_of ks) k

ordered_cons : (k : CapKey) (ks : List CapKey) → ordered (k ∷ ks) ≡ insert_key key_cmp (ordered ks) k
ordered_cons k ks = insert_is (set_of ks) k

onto : (o : Option CapKey) (ks js : List CapKey) → cons_option o (ks ++ js) ≡ cons_option o ks ++ js
onto None ks js = refl
onto (Some k) ks js = refl

pushed : (cs : List Capability) (c : Capability) → filter_map key_of (cs ++ c ∷ []) ≡ filter_map key_of cs ++ cons_option (key_of c) []
pushed [] c = refl
pushed (d ∷ cs) c = ap (cons_option (key_of d)) (pushed cs c) ∙ onto (key_of d) (filter_map key_of cs) (cons_option (key_of c) [])

next_keys : (cs : List Capability) (i : ℕ) (d : Capability) → i < length cs
    → keys_of (take (i + 1) cs) ≡ ordered (filter_map key_of (take i cs) ++ cons_option (key_of (get_or cs i d)) [])
next_keys cs i d h = ap keys_of (take_more cs i d h) ∙ ap ordered (pushed (take i cs) (get_or cs i d))

-- the keys with one capability more: its key is added, if it has one
pub keys_more : (cs : List Capability) (i : ℕ) (d : Capability) (k : CapKey) → i < length cs → Some k ≡ key_of (get_or cs i d)
    → keys_of (take (i + 1) cs) ≡ insert_key key_cmp (keys_of (take i cs)) k
keys_more cs i d k h e =
    next_keys cs i d h ∙ ap (λ o. ordered (filter_map key_of (take i cs) ++ cons_option o [])) (sym e) ∙ ordered_push (filter_map key_of (take i cs)) k

pub keys_same : (cs : List Capability) (i : ℕ) (d : Capability) → i < length cs → None ≡ key_of (get_or cs i d)
    → keys_of (take (i + 1) cs) ≡ keys_of (take i cs)
keys_same cs i d h e =
    next_keys cs i d h ∙ ap (λ o. ordered (filter_map key_of (take i cs) ++ cons_option o [])) (sym e) ∙ ap ordered (append-nil (filter_map key_of (take i cs)))

-- keys of no capabilities
pub keys_none : fin.keys (fin.empty {X = Bool} {R = key_cmp}) ≡ []
keys_none = zero_long (fin.keys (fin.empty {X = Bool} {R = key_cmp}))
    (length-map _ (λ (e : Entry). e.0) ∙ sym (fin.len-entries (fin.empty {X = Bool} {R = key_cmp})) ∙ fin.len-empty key_cmp Bool)
  where
    zero_long : (ks : List CapKey) → length ks ≡ 0 → ks ≡ []
    zero_long [] h = refl
    zero_long (k ∷ ks) h = absurd (omega arith)

-- the keys of one capability: its key, if it has one
pub keys_of_unknown : (c : Capability) → None ≡ key_of c → [] ≡ keys_of (c ∷ [])
keys_of_unknown c e = sym (ap (λ o. ordered (cons_option o [])) (sym e) ∙ keys_none)

pub keys_of_one : (c : Capability) (k : CapKey) → Some k ≡ key_of c → k ∷ [] ≡ keys_of (c ∷ [])
keys_of_one c k e = sym (ap (λ o. ordered (cons_option o [])) (sym e) ∙ ordered_cons k [] ∙ ap (λ ks. insert_key key_cmp ks k) keys_none)

is_less : (r : Ordering) → T (is_lt r) → r ≡ Less
is_less Less p = refl
is_less Equal p = absurd p
is_less Greater p = absurd p

both_so : (a b : Bool) → T (a && b) → T a × T b
both_so true b p = (tt, p)
both_so false b p = absurd p

each_below : (k : CapKey) (es : List Entry) → T (below_all key_cmp k es) → AllByRecursion (λ y. key_cmp k y ≡ Less) (map (λ e. e.0) es)
each_below k [] b = tt
each_below k (e ∷ es) b = let two = both_so (is_lt (key_cmp k e.0)) (below_all key_cmp k es) b in (is_less _ two.0, each_below k es two.1)

keys_rise : (es : List Entry) → T (fin.is_sorted key_cmp es) → AreOrdered (map (λ e. e.0) es)
unfolding IsStrictlySortedBy
keys_rise [] h = tt
keys_rise (e ∷ es) h = let two = both_so (below_all key_cmp e.0 es) (fin.is_sorted key_cmp es) h in (each_below e.0 es two.0, keys_rise es two.1)

pub keys_ordered : (cs : List Capability) → AreOrdered (keys_of cs)
keys_ordered cs = keys_rise (fin.entries (set_of (filter_map key_of cs))) (fin.entries_sorted (set_of (filter_map key_of cs)))

one_at_least : (ks : List CapKey) (k : CapKey) → 1 ≤ length (insert_key key_cmp ks k)
one_at_least [] k = omega arith
one_at_least (j ∷ ks) k = go (key_cmp k j)
  where
    go : (r : Ordering) → 1 ≤ length (match_ordering r (k ∷ j ∷ ks) (j ∷ ks) (j ∷ insert_key key_cmp ks k))
    go Less = omega arith
    go Equal = omega arith
    go Greater = omega arith

pub some_ordered : (k : CapKey) (ks : List CapKey) → 1 ≤ length (ordered (k ∷ ks))
some_ordered k ks = subst (λ js. 1 ≤ length js) (sym (ordered_cons k ks)) (one_at_least (ordered ks) k)

all_insert : (p : CapKey → Bool) (ks : List CapKey) (k : CapKey) → p k ≡ true → list_all p ks ≡ true → list_all p (insert_key key_cmp ks k) ≡ true
all_insert p [] k h a = ap (λ b. b && true) h
all_insert p (j ∷ ks) k h a = go (key_cmp k j) (all_insert p ks k h)
  where
    two : (a b : Bool) → (a && b) ≡ true → (a ≡ true) × (b ≡ true)
    two true b e = (refl, e)
    two false b e = absurd (cc)

    go : (r : Ordering) → (list_all p ks ≡ true → list_all p (insert_key key_cmp ks k) ≡ true)
        → list_all p (match_ordering r (k ∷ j ∷ ks) (j ∷ ks) (j ∷ insert_key key_cmp ks k)) ≡ true
    go Less more = ap (λ b. b && list_all p (j ∷ ks)) h ∙ a
    go Equal more = a
    go Greater more = let t = two (p j) (list_all p ks) a in ap (λ b. b && list_all p (insert_key key_cmp ks k)) t.0 ∙ more t.1

pub all_ordered : (p : CapKey → Bool) (ks : List CapKey) → list_all p ks ≡ true → list_all p (ordered ks) ≡ true
all_ordered p [] a = ap (list_all p) keys_none
all_ordered p (k ∷ ks) a =
    let t = two (p k) (list_all p ks) a in
    ap (list_all p) (ordered_cons k ks) ∙ all_insert p (ordered ks) k t.0 (all_ordered p ks t.1)
  where
    two : (a b : Bool) → (a && b) ≡ true → (a ≡ true) × (b ≡ true)
    two true b e = (refl, e)
    two false b e = absurd (cc)

any_tied : (k : CapKey) (ks : List CapKey) → list_any (same_key k) ks ≡ list_any (eq_by_cmp key_cmp k) ks
any_tied k [] = refl
any_tied k (j ∷ ks) = ap (λ b. b || list_any (same_key k) ks) (keys_tie k j) ∙ ap (λ b. eq_by_cmp key_cmp k j || b) (any_tied k ks)

some_found : (k : CapKey) (ks : List CapKey) → is_some (fin.find key_cmp k (map entry ks)) ≡ list_any (eq_by_cmp key_cmp k) ks
some_found k [] = refl
some_found k (j ∷ ks) = elim (eq_by_cmp key_cmp k j)
    as (λ b. is_some (cond b (Some true) (fin.find key_cmp k (map entry ks))) ≡ (b || list_any (eq_by_cmp key_cmp k) ks)) [
      | true ↦ refl
      | false ↦ some_found k ks
    ]

any_ordered : (k : CapKey) (ks : List CapKey) → list_any (same_key k) (ordered ks) ≡ list_any (same_key k) ks
any_ordered k ks =
    any_tied k (ordered ks) ∙ sym (fin.contains_key-keys (set_of ks) k) ∙ ap is_some (fin.get-from_entries key_total (map entry ks) k) ∙ some_found k ks
    ∙ sym (any_tied k ks)

same_ordered : (ks : List CapKey) (o : Option CapKey) → has_same (ordered ks) o ≡ has_same ks o
same_ordered ks None = has_same_none (ordered ks) ∙ sym (has_same_none ks)
same_ordered ks (Some k) = any_ordered k ks

-- a set has the keys of the capabilities that made it
has_ordered : (ks : List CapKey) (o : Option CapKey) → has_key (ordered ks) o ≡ has_key ks o
has_ordered ks o = ap₂ (λ a b. a || b) (same_ordered ks o) (same_ordered ks (option_and_then wider_key o))

pub have_ordered : (ks : List CapKey) (cs : List Capability) → have_keys (ordered ks) cs ≡ have_keys ks cs
have_ordered ks [] = refl
have_ordered ks (c ∷ cs) = ap (λ b. b && have_keys (ordered ks) cs) (has_ordered ks (key_of c)) ∙ ap (λ b. has_key ks (key_of c) && b) (have_ordered ks cs)

pub has_none : (ks : List CapKey) → false ≡ has_key ks None
has_none ks = sym (ap₂ (λ a b. a || b) (has_same_none ks) (has_same_none ks))

pub has_some : (ks : List CapKey) (k : CapKey) → list_any (is_at (key_cmp k)) ks ≡ has_same ks (Some k)
has_some ks k = sym (any_tied k ks)

pub has_no_wider : (ks : List CapKey) → false ≡ has_same ks None
has_no_wider ks = sym (has_same_none ks)

-- if a key is one of these keys, they have it
pub has_one : (ks : List CapKey) (k : CapKey) → has_same ks (Some k) ≡ true → has_key ks (Some k) ≡ true
has_one ks k e = ap (λ b. b || has_same ks (wider_key k)) e

pub ordered_more : (ks : List CapKey) (i : ℕ) (d : CapKey) → i < length ks
    → ordered (take (i + 1) ks) ≡ insert_key key_cmp (ordered (take i ks)) (get_or ks i d)
ordered_more ks i d h = ap ordered (take_more ks i d h) ∙ ordered_push (take i ks) (get_or ks i d)
