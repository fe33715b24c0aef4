-- A pool that serves a term of a request serves a requisite term.
use Rattle.std.proofs.Common.{◌≡◌, ◌∙◌, ◌⊎◌, inl, inr, ap, sym, arith, refl, List, [], ◌∷◌, ◌++◌, length, Bool, true, false, not, ◌&&◌, ◌||◌, ◌==◌, Option, Some, None, eqb-true}
use Rattle.std.specs.List.{list_any}
use Rattle.std.specs.Option.{option_to_list}
use Rattle.std.proofs.lemmas.Bool.{or_parts}
use Rattle.csi_config.specs.Values.{Has}
use Rattle.csi_types.specs.Checks.{prefers_another, terms as all_terms}
use Rattle.csi_types.specs.Maps.{TextMap}
use Rattle.csi_types.specs.Names.{is_empty}
use Rattle.csi_types.specs.Topology.{has_alike_keys, is_within, same_topology}
use Rattle.csi_types.specs.declared.topology.Requirement.{Requirement}
use Rattle.csi_rules.specs.Topology.{serves, or_empty, terms, is_reachable}
use Rattle.csi_machine.proofs.CreateLemmas.{has_append}

-- Lists and tests

pub or_later : (a b : Bool) → b ≡ true → (a || b) ≡ true
or_later true b h = refl
or_later false b h = h

none_passes : {A : Type 0} (p : A → Bool) (xs : List A) (x : A) → list_any p xs ≡ false → Has xs x → p x ≡ false
none_passes p [] x none h = absurd h
none_passes p (y ∷ ys) x none h =
    let two = or_parts (p y) (list_any p ys) none in
    elim h as (λ _. p x ≡ false) [ inl e ↦ ap p (sym e) ∙ two.0 | inr r ↦ none_passes p ys x two.1 r ]

pub one_passes : {A : Type 0} (p : A → Bool) (xs : List A) (x : A) → Has xs x → p x ≡ true → list_any p xs ≡ true
one_passes p [] x h t = absurd h
one_passes p (y ∷ ys) x h t = elim h as (λ _. (p y || list_any p ys) ≡ true) [
  | inl e ↦ ap (λ b. b || list_any p ys) (ap p e ∙ t)
  | inr r ↦ or_later (p y) _ (one_passes p ys x r t)
]

who_passes : {A : Type 0} (p : A → Bool) (xs : List A) → list_any p xs ≡ true → (x : A) × Has xs x × (p x ≡ true)
who_passes p [] h = absurd (cc)
who_passes p (y ∷ ys) h = go (who_passes p ys) (p y) refl h
  where
    go : (list_any p ys ≡ true → (x : _) × Has ys x × (p x ≡ true)) → (b : Bool) → p y ≡ b → (b || list_any p ys) ≡ true → (x : _) × ((y ≡ x) ⊎ Has ys x) × (p x ≡ true)
    go next true t h = (y, inl refl, t)
    go next false t h = let more = next h in (more.0, inr more.1, more.2)

no_not : (b : Bool) → not b ≡ false → b ≡ true
no_not true h = refl
no_not false h = absurd (cc)

-- Topologies

-- equal topologies are served by the same pools
abbrev pub AreServedAlike : Type 0
AreServedAlike = (segments t q : TextMap) → has_alike_keys t ≡ false → has_alike_keys q ≡ false → same_topology t q ≡ true → serves segments t ≡ serves segments q

pub served_alike : ((m n o : TextMap) → has_alike_keys m ≡ false → has_alike_keys n ≡ false → same_topology m n ≡ true → is_within o m ≡ is_within o n)
    → ((m n o : TextMap) → has_alike_keys m ≡ false → has_alike_keys n ≡ false → same_topology m n ≡ true → is_within m o ≡ is_within n o) → AreServedAlike
served_alike inner outer segments t q a b same = ap (λ b. b || is_within t segments) (inner t q segments a b same) ∙ ap (λ b. is_within segments q || b) (outer t q segments a b same)

not_none : (q : TextMap) (qs : List TextMap) → is_empty (q ∷ qs) ≡ false
not_none q qs = go (length (q ∷ qs) == 0) refl
  where
    go : (b : Bool) → (length (q ∷ qs) == 0) ≡ b → b ≡ false
    go false e = refl
    go true e = let none : length (q ∷ qs) ≡ 0 = eqb-true _ _ e in absurd (omega (arith, none))

-- requisite topologies, and preferred ones
reached : AreServedAlike → (segments t : TextMap) (qs ps : List TextMap) → list_any has_alike_keys (qs ++ ps) ≡ false → (not (is_empty qs) && list_any (λ p. not (list_any (same_topology p) qs)) ps) ≡ false
    → Has (ps ++ or_empty qs) t → serves segments t ≡ true → ((length qs == 0) || list_any (serves segments) qs) ≡ true
reached alike segments t [] ps differ prefers h s = refl
reached alike segments t (q ∷ qs) ps differ prefers h s = or_later (length (q ∷ qs) == 0) _ (elim (has_append ps (q ∷ qs) t h) as (λ _. list_any (serves segments) (q ∷ qs) ≡ true) [
  | inl p ↦ preferred p
  | inr r ↦ one_passes (serves segments) (q ∷ qs) t r s
])
  where
    has_first : (xs ys : List TextMap) (x : TextMap) → Has xs x → Has (xs ++ ys) x
    has_first [] ys x h = absurd h
    has_first (y ∷ xs) ys x h = elim h as (λ _. (y ≡ x) ⊎ Has (xs ++ ys) x) [ inl e ↦ inl e | inr r ↦ inr (has_first xs ys x r) ]

    has_second : (xs ys : List TextMap) (x : TextMap) → Has ys x → Has (xs ++ ys) x
    has_second [] ys x h = h
    has_second (y ∷ xs) ys x h = inr (has_second xs ys x h)

    preferred : Has ps t → list_any (serves segments) (q ∷ qs) ≡ true
    preferred p =
        let none : list_any (λ p. not (list_any (same_topology p) (q ∷ qs))) ps ≡ false = ap (λ b. not b && list_any (λ p. not (list_any (same_topology p) (q ∷ qs))) ps) (sym (not_none q qs)) ∙ prefers in
        let is : list_any (same_topology t) (q ∷ qs) ≡ true = no_not _ (none_passes (λ p. not (list_any (same_topology p) (q ∷ qs))) ps t none p) in
        let x = who_passes (same_topology t) (q ∷ qs) is in
        one_passes (serves segments) (q ∷ qs) x.0 x.1
        (sym (alike segments t x.0 (none_passes has_alike_keys ((q ∷ qs) ++ ps) t differ (has_second (q ∷ qs) ps t p)) (none_passes has_alike_keys ((q ∷ qs) ++ ps) x.0 differ (has_first (q ∷ qs) ps x.0 x.1)) x.2) ∙ s)

pub reachable : AreServedAlike → (segments t : TextMap) (o : Option Requirement) → list_any has_alike_keys (all_terms o) ≡ false → list_any prefers_another (option_to_list o) ≡ false → Has (terms o) t → serves segments t ≡ true
    → is_reachable segments o ≡ true
reachable alike segments t None differ prefers h s = refl
reachable alike segments t (Some r) differ prefers h s = reached alike segments t r.requisite r.preferred differ (or_parts _ false prefers).0 h s
