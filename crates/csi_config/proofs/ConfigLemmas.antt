-- Facts of a configuration without faults.
use Rattle.std.proofs.Common.{◌≡◌, ◌∙◌, ◌⊎◌, inl, inr, ap, sym, subst, cond, arith, refl, ℕ, suc, ◌==◌, ◌+◌, ◌≤◌, ◌<◌, List, [], ◌∷◌, length, take, sum_by, Bool, true, false, ◌&&◌, ◌||◌, not, nat_lt, nat_le, position, Option, Some, None, option_map}
use Rattle.std.specs.List.{list_any, enumerate_from, position_from}
use Rattle.std.specs.Option.{option_or}
use Rattle.std.proofs.lemmas.Bool.{leb-true}
use Rattle.std.proofs.lemmas.Bool.Decides.{leb_tells}
use Rattle.std.proofs.lemmas.Iterator.Adapters.{position_from-zero}
use Rattle.std.proofs.lemmas.List.Sums.{sum_by-cons}
use lib.Pointwise.{bytes_decides}
use Rattle.csi_types.specs.Maps.{same_text}
use Rattle.csi_types.specs.Names.{is_empty}
use Rattle.csi_types.specs.Topology.{some_two}
use Rattle.csi_config.specs.Faults.{fault_if, is_label, all_bytes, breaks_pool, breaks_node, place_broken}
use Rattle.csi_config.specs.Values.{Has}
use Rattle.csi_config.specs.declared.fault.NodeRule.{NodeRule}
use Rattle.csi_config.specs.declared.fault.PoolRule.{PoolRule}
use Rattle.csi_config.specs.declared.nodes.Node.{Node}
use Rattle.csi_config.specs.declared.plugin.TheConstants.{MAX_NAME_BYTES}
use Rattle.csi_config.specs.declared.pools.Pool.{Pool}

pub first_off : (a b : Bool) → (a || b) ≡ false → a ≡ false
first_off true b h = absurd (cc)
first_off false b h = refl

pub second_off : (a b : Bool) → (a || b) ≡ false → b ≡ false
second_off true b h = absurd (cc)
second_off false b h = h

pub first_on : (a b : Bool) → (a && b) ≡ true → a ≡ true
first_on true b h = refl
first_on false b h = absurd (cc)

pub second_on : (a b : Bool) → (a && b) ≡ true → b ≡ true
second_on true b h = h
second_on false b h = absurd (cc)

pub not_off : (a : Bool) → not a ≡ false → a ≡ true
not_off true h = refl
not_off false h = absurd (cc)

pub first_none : {A : Type 0} (a b : Option A) → option_or a b ≡ None → a ≡ None
first_none (Some x) b h = absurd (cc)
first_none None b h = refl

pub rest_none : {A : Type 0} (a b : Option A) → option_or a b ≡ None → b ≡ None
rest_none (Some x) b h = absurd (cc)
rest_none None b h = h

pub if_none : {A : Type 0} (b : Bool) (x : A) → fault_if b x ≡ None → b ≡ false
if_none true x h = absurd (cc)
if_none false x h = refl

pub map_none : {A B : Type 0} (f : A → B) (a : Option A) → option_map f a ≡ None → a ≡ None
map_none f (Some x) h = absurd (cc)
map_none f None h = refl

placed : {A : Type 0} (test : A → Bool) (i : ℕ) (xs : List A) → position_from test i xs ≡ None → list_any test xs ≡ false
placed test i [] h = refl
placed {A} test i (x ∷ xs) h = go (placed test (i + 1) xs) (test x) h
  where
    go : (position_from test (i + 1) xs ≡ None → list_any test xs ≡ false) → (b : Bool) → cond b (Some i) (position_from test (i + 1) xs) ≡ None → (b || list_any test xs) ≡ false
    go next true h = absurd (cc)
    go next false h = next h

-- if no position is found, no item passes
pub nowhere : {A : Type 0} (test : A → Bool) (xs : List A) → position test xs ≡ None → list_any test xs ≡ false
nowhere test xs h = placed test 0 xs (sym (position_from-zero test xs) ∙ h)

pub any_off : {A : Type 0} (p : A → Bool) (xs : List A) (x : A) → list_any p xs ≡ false → Has xs x → p x ≡ false
any_off p [] x e h = absurd h
any_off p (y ∷ ys) x e h = elim h as (λ _. p x ≡ false) [ inl s ↦ subst (λ z. p z ≡ false) s (first_off _ _ e) | inr r ↦ any_off p ys x (second_off (p y) _ e) r ]

-- a test that does not look at the number fails at each element
pub unnumbered : {A : Type 0} (p : A → Bool) (n : ℕ) (xs : List A) → list_any (λ e. p e.1) (enumerate_from n xs) ≡ false → list_any p xs ≡ false
unnumbered p n [] e = refl
unnumbered {A} p n (x ∷ xs) e = go (unnumbered p (n + 1) xs) (p x) e
  where
    go : (list_any (λ e. p e.1) (enumerate_from (n + 1) xs) ≡ false → list_any p xs ≡ false) → (b : Bool) → (b || list_any (λ e. p e.1) (enumerate_from (n + 1) xs)) ≡ false → (b || list_any p xs) ≡ false
    go next true h = absurd (cc)
    go next false h = next h

-- two items of a list in which no two items meet a test: they are the same item, or do not meet the test
pub apart : {A : Type 0} (test : A → A → Bool) (xs : List A) (x y : A) → some_two test xs ≡ false → Has xs x → Has xs y → (x ≡ y) ⊎ ((test x y ≡ false) ⊎ (test y x ≡ false))
apart test [] x y e h k = absurd h
apart test (z ∷ zs) x y e h k =
    let here = first_off (list_any (test z) zs) (some_two test zs) e in
    let rest = second_off (list_any (test z) zs) (some_two test zs) e in
    elim h as (λ _. (x ≡ y) ⊎ ((test x y ≡ false) ⊎ (test y x ≡ false))) [
      | inl s ↦ elim k as (λ _. (x ≡ y) ⊎ ((test x y ≡ false) ⊎ (test y x ≡ false))) [
        | inl t ↦ inl (sym s ∙ t)
        | inr l ↦ inr (inl (subst (λ w. test w y ≡ false) s (any_off (test z) zs y here l)))
      ]
      | inr r ↦ elim k as (λ _. (x ≡ y) ⊎ ((test x y ≡ false) ⊎ (test y x ≡ false))) [
        | inl t ↦ inr (inr (subst (λ w. test w x ≡ false) t (any_off (test z) zs x here r)))
        | inr l ↦ apart test zs x y rest r l
      ]
    ]

same_on : (a b : List ℕ) → a ≡ b → same_text a b ≡ true
same_on a b e = (bytes_decides a b).1 e

-- `csi_types::laws::pairs`
abbrev pub Pairs : Type 0 → Type 0
Pairs A = (test : A → A → Bool) (xs : List A) → list_any (λ p. list_any (λ x. test x p.1) (take p.0 xs)) (enumerate_from 0 xs) ≡ some_two test xs

-- no two items of a list share a name if no item has the name of an earlier item
named_apart : {A : Type 0} → Pairs A → (name : A → List ℕ) (xs : List A) → list_any (λ e. list_any (λ x. same_text (name x) (name e.1)) (take e.0 xs)) (enumerate_from 0 xs) ≡ false → (x y : A) → Has xs x → Has xs y → name x ≡ name y → x ≡ y
named_apart pairs name xs off x y h k e =
    let two : some_two (λ x y. same_text (name x) (name y)) xs ≡ false = sym (pairs (λ x y. same_text (name x) (name y)) xs) ∙ off in
    elim (apart (λ x y. same_text (name x) (name y)) xs x y two h k) as (λ _. x ≡ y) [
      | inl s ↦ s
      | inr r ↦ elim r as (λ _. x ≡ y) [ inl a ↦ let s = same_on (name x) (name y) e in absurd (cc (a, s)) | inr b ↦ let s = same_on (name y) (name x) (sym e) in absurd (cc (b, s)) ]
    ]

pub pools_apart : Pairs Pool → (pools : List Pool) → place_broken breaks_pool PoolRule.NameTwice pools ≡ None → (p q : Pool) → Has pools p → Has pools q → p.name ≡ q.name → p ≡ q
pools_apart pairs pools off = named_apart pairs (λ (p : Pool). p.name) pools (nowhere (λ e. breaks_pool PoolRule.NameTwice (take e.0 pools) e.1) (enumerate_from 0 pools) off)

pub nodes_apart : Pairs Node → (nodes : List Node) → place_broken breaks_node NodeRule.IdTwice nodes ≡ None → (m n : Node) → Has nodes m → Has nodes n → m.id ≡ n.id → m ≡ n
nodes_apart pairs nodes off = named_apart pairs (λ (n : Node). n.id) nodes (nowhere (λ e. breaks_node NodeRule.IdTwice (take e.0 nodes) e.1) (enumerate_from 0 nodes) off)

-- if no position is found for a test, no item passes it
pub each_passes : {A : Type 0} (p : A → Bool) (xs : List A) → position (λ e. p e.1) (enumerate_from 0 xs) ≡ None → (x : A) → Has xs x → p x ≡ false
each_passes p xs off x h = any_off p xs x (unnumbered p 0 xs (nowhere (λ e. p e.1) (enumerate_from 0 xs) off)) h

pub up_to : (a b : ℕ) → nat_lt a b ≡ false → b ≤ a
up_to a b e = elim (leb_tells (suc a) b) as (λ _. b ≤ a) [ inl x ↦ absurd (cc (e, x.0)) | inr x ↦ omega (arith, x.1) ]

pub in_sum : (ps : List Pool) (p : Pool) → Has ps p → p.bytes ≤ all_bytes ps
in_sum [] p h = absurd h
in_sum (q ∷ ps) p h = elim h as (λ _. p.bytes ≤ sum_by (λ p. p.bytes) (q ∷ ps)) [
  | inl e ↦ let b = ap (λ (p : Pool). p.bytes) e in omega (arith, sum_by-cons (λ (p : Pool). p.bytes) q ps, b)
  | inr r ↦ let b = in_sum ps p r in omega (arith, sum_by-cons (λ (p : Pool). p.bytes) q ps, b)
]

pub above_zero : (n : ℕ) → (n == 0) ≡ false → 0 < n
above_zero n h = grind (arith, h)

pub above_none : {A : Type 0} (xs : List A) → is_empty xs ≡ false → 0 < length xs
above_none xs h = above_zero (length xs) h

pub label_given : (test : ℕ → Bool) (name : List ℕ) → is_label test name ≡ true → 0 < length name
label_given test name h = leb-true _ _ (first_on _ _ (first_on (nat_lt 0 (length name) && nat_le (length name) MAX_NAME_BYTES) _ h))

pub label_short : (test : ℕ → Bool) (name : List ℕ) → is_label test name ≡ true → length name ≤ MAX_NAME_BYTES
label_short test name h = leb-true _ _ (second_on (nat_lt 0 (length name)) _ (first_on (nat_lt 0 (length name) && nat_le (length name) MAX_NAME_BYTES) _ h))
