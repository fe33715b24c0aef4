-- A volume is compatible with the request that made it.
use Rattle.std.proofs.Common.{◌≡◌, ◌∙◌, ◌⊎◌, inl, inr, ap, subst, cond, arith, refl, ℕ, ◌+◌, ◌-◌, ◌≤◌, ◌==◌, min, nat_lt, nat_le, List, [], ◌∷◌, map, find, Bool, true, false, not, ◌&&◌, ◌||◌, Option, Some, None}
use Rattle.std.specs.List.{list_any, filter_map, cons_option}
use Rattle.std.specs.Option.{option_to_list}
use Rattle.std.specs.Ordering.{is_eq}
use Rattle.std.proofs.lemmas.Bool.{and_from, or_parts, le-leb, ltb-false}
use Rattle.std.proofs.lemmas.Cmp.{tied_itself}
use Rattle.std.proofs.lemmas.Nat.{div-add-mod'}
use Rattle.csi_types.specs.Checks.{checked, is_supported, prefers_another, terms as all_terms}
use Rattle.csi_types.specs.Maps.{TextMap, same_map_equiv}
use Rattle.csi_types.specs.Overlays.{has_each}
use Rattle.csi_types.specs.Topology.{has_alike_keys}
use Rattle.csi_types.specs.declared.capability.Capability.{Capability}
use Rattle.csi_types.specs.declared.capacity.CapacityRange.{CapacityRange}
use Rattle.csi_types.specs.declared.requests.CreateVolume.{CreateVolume}
use Rattle.csi_types.specs.declared.requests.Request.TheVariants as request
use Rattle.csi_config.specs.Values.{Has}
use Rattle.csi_config.specs.declared.config.Config.{Config}
use Rattle.csi_config.specs.declared.pools.Pool.{Pool}
use Rattle.csi_config.specs.declared.sizes.Sizes.{Sizes}
use Rattle.csi_config.specs.declared.sizes.TheConstants.{GRANULE_BYTES}
use Rattle.csi_keeper.specs.Capability.{key_of, keys_of, same_key, has_key, have_keys}
use Rattle.csi_keeper.specs.Order.{key_total, keys_tie}
use Rattle.csi_keeper.specs.State.{State}
use Rattle.csi_keeper.specs.declared.capability.CapKey.{CapKey}
use Rattle.csi_keeper.specs.declared.change.Change.{Change}
use Rattle.csi_keeper.specs.facts.Finite.{none_some, same_some}
use Rattle.csi_rules.specs.Choice.{Room, rooms, fits, pairs, choice}
use Rattle.csi_rules.specs.Size.{size, within, requested_bytes, whole, rounded_up, rounded_down, has_size}
use Rattle.csi_rules.specs.Topology.{serves, terms}
use Rattle.csi_machine.specs.calls.Create.{made, is_compatible}
use Rattle.csi_rules.specs.facts.Capability.{has_one, have_ordered}
use Rattle.csi_machine.proofs.CheckedLemmas.{passed, not_off, key_by}
use Rattle.csi_machine.proofs.CreateLemmas.{both_true, found, has_append, has_map, map_some, IsMade}
use Rattle.csi_machine.proofs.ReachLemmas.{AreServedAlike, or_later, reachable}

-- Its size

rounded_above : (n : ℕ) → n ≤ rounded_up n
rounded_above n = let parts = div-add-mod' (n + (GRANULE_BYTES - 1)) GRANULE_BYTES in omega (arith, parts)

asked_above : (z : Sizes) (required limit : ℕ) → required ≤ requested_bytes z required limit
asked_above z required limit = go (nat_lt 0 required) refl
  where
    go : (b : Bool) → nat_lt 0 required ≡ b → required ≤ cond b (rounded_up required) (cond (nat_lt 0 limit) (min z.default_bytes (rounded_down limit)) z.default_bytes)
    go true e = rounded_above required
    go false e = let none = ltb-false 0 required e in omega (arith, none)

within_limit : (z : Sizes) (required limit n b : ℕ) → within z required limit n ≡ Some b → (n ≡ b) × (((limit == 0) || nat_le n limit) ≡ true)
within_limit z required limit n b e = go (nat_lt 0 n) ((limit == 0) || nat_le n limit) refl (nat_le n z.greatest_bytes) (nat_le required z.greatest_bytes) e
  where
    go : (p q : Bool) → ((limit == 0) || nat_le n limit) ≡ q → (f g : Bool) → cond (((p && q) && f) && g) (Some n) None ≡ Some b → (n ≡ b) × (((limit == 0) || nat_le n limit) ≡ true)
    go false q t f g h = absurd (none_some b h)
    go true false t f g h = absurd (none_some b h)
    go true true t false g h = absurd (none_some b h)
    go true true t true false h = absurd (none_some b h)
    go true true t true true h = (same_some n b h, t)

sized : (z : Sizes) (o : Option CapacityRange) (b : ℕ) → size z o ≡ Some b → has_size b o ≡ true
sized z None b e = refl
sized z (Some r) b e =
    let is = within_limit z (whole r.required) (whole r.limit) (requested_bytes z (whole r.required) (whole r.limit)) b e in
    let least = asked_above z (whole r.required) (whole r.limit) in
    and_from _ _ (le-leb (whole r.required) b (subst (λ (n : ℕ). whole r.required ≤ n) is.0 least))
    (subst (λ (n : ℕ). ((whole r.limit == 0) || nat_le n (whole r.limit)) ≡ true) is.0 is.1)

-- Its capabilities

pub key_itself : (k : CapKey) → same_key k k ≡ true
key_itself k = keys_tie k k ∙ ap is_eq (tied_itself key_total k)

have_each : (ks : List CapKey) (cs : List Capability) → list_any (λ c. not (is_supported c)) cs ≡ false
    → ((k : CapKey) → list_any (same_key k) (filter_map key_of cs) ≡ true → list_any (same_key k) ks ≡ true) → have_keys ks cs ≡ true
have_each ks [] off more = refl
have_each ks (c ∷ cs) off more =
    let two = or_parts (not (is_supported c)) (list_any (λ c. not (is_supported c)) cs) off in
    let one = key_by c.access c.mode (not_off (is_supported c) two.0) in
    let all : (k : CapKey) → list_any (same_key k) (one.0 ∷ filter_map key_of cs) ≡ true → list_any (same_key k) ks ≡ true =
    λ k h. more k (ap (λ (o : Option CapKey). list_any (same_key k) (cons_option o (filter_map key_of cs))) one.1 ∙ h) in
    let first : list_any (same_key one.0) ks ≡ true = all one.0 (ap (λ b. b || list_any (same_key one.0) (filter_map key_of cs)) (key_itself one.0)) in
    and_from _ _ (ap (has_key ks) one.1 ∙ has_one ks one.0 first) (have_each ks cs two.1 (λ k h. all k (or_later (same_key k one.0) _ h)))

has_keys : (cs : List Capability) → list_any (λ c. not (is_supported c)) cs ≡ false → have_keys (keys_of cs) cs ≡ true
has_keys cs off = have_ordered (filter_map key_of cs) cs ∙ have_each (filter_map key_of cs) cs off (λ k h. h)

-- Its pool

term_of_pair : (ts : List TextMap) (rs : List Room) (x : TextMap × Room) → Has (pairs ts rs) x → Has ts x.0
term_of_pair [] rs x h = absurd h
term_of_pair (t ∷ ts) rs x h = elim (has_append (map (λ r. (t, r)) rs) (pairs ts rs) x h) as (λ _. (t ≡ x.0) ⊎ Has ts x.0) [
  | inl a ↦ let one = has_map (λ r. (t, r)) rs x a in inl (ap (λ (p : TextMap × Room). p.0) one.2)
  | inr b ↦ inr (term_of_pair ts rs x b)
]

-- a pool that was chosen serves one of the terms
serves_one : (rs : List Room) (ts : List TextMap) (n : ℕ) (p : Pool) → choice rs ts n ≡ Some p → (t : TextMap) × Has ts t × (serves p.segments t ≡ true)
serves_one rs ts n p e =
    let one = map_some (λ (x : TextMap × Room). x.1.0) (find (fits n) (pairs ts rs)) p e in
    let is = found (fits n) (pairs ts rs) one.0 one.1 in
    (one.0.0, term_of_pair ts rs one.0 is.1, subst (λ (q : Pool). serves q.segments one.0.0 ≡ true) one.2 (both_true _ _ is.0).0)

-- All of it

pub compatible : AreServedAlike → ((m : TextMap) → has_each m m ≡ true) → (config : Config) (s : State) (r : CreateVolume) (c : Change) (m : IsMade config s r c) → checked (request.Create r) ≡ None → is_compatible m.pool.segments (made r s.next m.bytes m.pool) r ≡ true
compatible alike own config s r c m pass =
    let off = passed (request.Create r) pass in
    let supported : list_any (λ c. not (is_supported c)) r.capabilities ≡ false = off.1.1.1.1.1.1.0 in
    let differ : list_any has_alike_keys (all_terms r.topology) ≡ false = off.1.1.1.1.1.1.1.1.1.1.1.0 in
    let prefers : list_any prefers_another (option_to_list r.topology) ≡ false = off.1.1.1.1.1.1.1.1.1.1.1.1.0 in
    let one = serves_one (rooms config s) (terms r.topology) m.bytes m.pool m.chosen in
    and_from _ _
    (and_from _ _
    (and_from _ _ (and_from _ _ (reachable alike m.pool.segments one.0 r.topology differ prefers one.1 one.2) (sized config.sizes r.range m.bytes m.sized)) (has_keys r.capabilities supported))
    (same_map_equiv.refl r.parameters))
    (own r.mutable)
