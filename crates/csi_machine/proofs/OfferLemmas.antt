-- A volume of the maximum that GetCapacity reports can be created.
use Rattle.std.proofs.Common.{◌≡◌, ◌≢◌, ◌∙◌, inl, inr, ap, sym, subst, cond, arith, refl, ℕ, ◌+◌, ◌-◌, ◌*◌, ◌/◌, ◌%◌, ◌==◌, ◌<◌, ◌≤◌, ◌^◌, max, min, nat_lt, nat_le, List, [], ◌∷◌, length, map, find, fold, sum, sum_by, Bool, true, false, ◌&&◌, ◌||◌, Option, Some, None, option_map, eqb-true}
use Rattle.std.specs.FinMap as fin
use Rattle.std.specs.Cmp.{nat_cmp_total}
use Rattle.std.specs.Cmp.Lexicographic.{slice_cmp}
use Rattle.std.specs.List.{list_all, list_any, AllByRecursion}
use Rattle.std.specs.Ordering.{nat_cmp}
use Rattle.std.proofs.lemmas.Bool.{and_parts, and_from, le-leb}
use Rattle.std.proofs.lemmas.Bool.Decides.{leb_tells}
use Rattle.std.proofs.lemmas.Nat.{div-mul-add, div-add-mod'}
use Rattle.csi_types.specs.Checks.{is_supported}
use Rattle.csi_types.specs.Maps.{TextMap, same_text}
use Rattle.csi_types.specs.Topology.{is_within, alike}
use Rattle.csi_types.specs.declared.limits.TheConstants.{MAX_NUMBER, MAX_SEGMENTS, MAX_VOLUMES}
use Rattle.csi_types.specs.declared.reason.Reason.TheVariants.{TooManyVolumes, NumbersUsedUp, ReplyTooLarge}
use Rattle.csi_types.specs.declared.requests.CreateVolume.{CreateVolume}
use Rattle.csi_types.specs.declared.requests.GetCapacity.{GetCapacity}
use Rattle.csi_types.specs.declared.requests.Request.TheVariants.{Create}
use Rattle.csi_types.specs.declared.responses.Response.TheVariants as response
use Rattle.csi_codec.specs.Methods.{response_bytes}
use Rattle.csi_config.specs.Faults.{is_pool_name, is_whole}
use Rattle.csi_config.specs.Values.{Has}
use Rattle.csi_config.specs.declared.config.Config.{Config}
use Rattle.csi_config.specs.declared.pools.Pool.{Pool}
use Rattle.csi_config.specs.declared.sizes.Sizes.{Sizes}
use Rattle.csi_config.specs.declared.sizes.TheConstants.{GRANULE_BYTES}
use Rattle.csi_keeper.specs.declared.volume.Volume.{Volume}
use Rattle.csi_rules.specs.Choice.{Room, rooms, free, choice, count}
use Rattle.csi_machine.specs.Configured.{IsConfigured}
use Rattle.csi_keeper.specs.Invariant.{IsInvariant}
use Rattle.csi_machine.specs.Offer.{term_of, exactly, AsksFor, IsNew}
use Rattle.csi_rules.specs.Info.{info_at}
use Rattle.csi_machine.specs.Plan.{after, refuse}
use Rattle.csi_machine.specs.declared.plan.Plan.{Plan}
use Rattle.csi_machine.specs.Verdicts.{Report, Says, Denies, reported_of}
use Rattle.envelope.specs.declared.limits.TheConstants.{MAX_BODY_BYTES}
use Rattle.csi_rules.specs.Size.{size, within, requested_bytes, rounded_up, rounded_down}
use Rattle.csi_keeper.specs.State.{State, changed, used, sizes}
use Rattle.csi_keeper.specs.declared.change.Change.TheVariants.{AddVolume}
use Rattle.csi_keeper.specs.Texts.{Text}
use Rattle.csi_rules.specs.Topology.{serves, terms}
use Rattle.csi_machine.specs.calls.Capacity.{capacity, served, is_served, greatest, greatest_size, report_capacity}
use Rattle.csi_machine.specs.Step.{moved, step}
use Rattle.csi_machine.specs.calls.Create.{create, create_named, made, place, place_in}
use Rattle.csi_machine.proofs.FitLemmas.{made_fits}
use Rattle.csi_rules.specs.facts.Choice.{or_else, choice_one, choice_cons}
use Rattle.csi_machine.proofs.CreateLemmas.{chosen, has_map}
use Rattle.csi_keeper.specs.facts.Finite.{all_entries, none_listed}
use Rattle.csi_keeper.specs.facts.Sums.{in_order, total_cons}

-- The free bytes are a multiple of 1 MiB.

abbrev IsTimes : ℕ → Type 0
IsTimes n = (k : ℕ) × (n ≡ k * GRANULE_BYTES)

times_of : (n : ℕ) → is_whole n ≡ true → IsTimes n
times_of n e =
    let none : n % GRANULE_BYTES ≡ 0 = eqb-true _ _ (and_parts (nat_lt 0 n) (n % GRANULE_BYTES == 0) e).1 in
    let parts = div-add-mod' n GRANULE_BYTES in
    (n / GRANULE_BYTES, omega (arith, none, parts))

times_sum : (es : List (ℕ × Volume)) (pool : Text) → AllByRecursion (λ e. is_whole e.1.bytes ≡ true) es → IsTimes (sum (in_order es pool))
times_sum [] pool a = (0, omega arith)
times_sum (e ∷ es) pool a = go (times_of e.1.bytes a.0) (times_sum es pool a.1) (total_cons e es pool)
  where
    go : IsTimes e.1.bytes → IsTimes (sum (in_order es pool)) → sum (in_order (e ∷ es) pool) ≡ cond (same_text e.1.pool pool) e.1.bytes 0 + sum (in_order es pool) → IsTimes (sum (in_order (e ∷ es) pool))
    go (j, one) (k, more) t = elim (same_text e.1.pool pool) as (λ b. sum (in_order (e ∷ es) pool) ≡ cond b e.1.bytes 0 + sum (in_order es pool) → IsTimes (sum (in_order (e ∷ es) pool))) [
      | true ↦ λ h. (j + k, omega (arith, h, one, more))
      | false ↦ λ h. (k, omega (arith, h, more))
    ] t

times_max : (a b : ℕ) → IsTimes a → IsTimes b → IsTimes (max a b)
times_max a b (j, d) (k, e) = elim (leb_tells a b) as (λ _. IsTimes (max a b)) [ inl x ↦ (k, omega (arith, x.1, e)) | inr x ↦ (j, omega (arith, x.1, d)) ]

times_min : (a b : ℕ) → IsTimes a → IsTimes b → IsTimes (min a b)
times_min a b (j, d) (k, e) = elim (leb_tells a b) as (λ _. IsTimes (min a b)) [ inl x ↦ (j, omega (arith, x.1, d)) | inr x ↦ (k, omega (arith, x.1, e)) ]

times_free : (config : Config) (s : State) → IsConfigured config → IsInvariant config s → (p : Pool) → Has config.pools p → IsTimes (free (p, used s p.name))
times_free config s good inv p h =
    let all : AllByRecursion (λ e. is_whole e.1.bytes ≡ true) (fin.entries s.volumes) = all_entries nat_cmp_total fin.nat_cmp-IsAntisymmetric (λ n (v : Volume). is_whole v.bytes ≡ true) s.volumes (λ n v e. (inv.volumes n v e).bytes) in
    go (times_of p.bytes (good.wholes p h)) (times_sum (fin.entries s.volumes) p.name all) (good.small p h) (inv.rooms p h)
  where
    go : IsTimes p.bytes → IsTimes (sum (sizes s p.name)) → p.bytes ≤ 2 ^ 62 → sum (sizes s p.name) ≤ p.bytes → IsTimes (free (p, used s p.name))
    go (j, d) (k, e) most fits = (j - k, omega (arith, d, e, most, fits))

all_rooms : (s : State) (ps : List Pool) → ((p : Pool) → Has ps p → IsTimes (free (p, used s p.name))) → AllByRecursion (λ r. IsTimes (free r)) (map (λ p. (p, used s p.name)) ps)
all_rooms s [] h = tt
all_rooms s (p ∷ ps) h = (h p (inl refl), all_rooms s ps (λ q k. h q (inr k)))

times_most : (rs : List Room) (t : Option TextMap) (a : ℕ) → IsTimes a → AllByRecursion (λ r. IsTimes (free r)) rs → IsTimes (fold max a (map free (served rs t)))
times_most [] t a i all = i
times_most (r ∷ rs) t a i all = elim (is_served t r) as (λ b. IsTimes (fold max a (map free (cond b (r ∷ served rs t) (served rs t))))) [
  | true ↦ times_most rs t (max a (free r)) (times_max a (free r) i all.0) all.1
  | false ↦ times_most rs t a i all.1
]

-- So the size that is asked for is the size of the volume.

rounded : (n : ℕ) → IsTimes n → rounded_up n ≡ n
rounded n (k, e) =
    let less : GRANULE_BYTES - 1 < GRANULE_BYTES = omega arith in
    ap (λ m. (m + (GRANULE_BYTES - 1)) / GRANULE_BYTES * GRANULE_BYTES) e ∙ ap (λ m. m * GRANULE_BYTES) (div-mul-add k GRANULE_BYTES (GRANULE_BYTES - 1) less) ∙ sym e

size_exact : (z : Sizes) (n : ℕ) → 0 < n → IsTimes n → n ≤ z.greatest_bytes → size z (Some (exactly n)) ≡ Some n
size_exact z n h i most =
    let some : nat_lt 0 n ≡ true = le-leb 1 n h in
    let limit : ((n == 0) || nat_le n n) ≡ true = elim (n == 0) as (λ b. (b || nat_le n n) ≡ true) [ true ↦ refl | false ↦ le-leb n n (omega arith) ] in
    let great : nat_le n z.greatest_bytes ≡ true = le-leb n z.greatest_bytes most in
    let is : requested_bytes z n n ≡ n = ap (λ b. cond b (rounded_up n) (cond b (min z.default_bytes (rounded_down n)) z.default_bytes)) some ∙ rounded n i in
    subst (λ (m : ℕ). within z n n m ≡ Some n) (sym is) (ap (λ b. cond b (Some n) None) (and_from _ _ (and_from _ _ (and_from _ _ some limit) great) great))

-- And there is a pool for it.

no_entries : fin.entries (fin.empty {X = List ℕ} {R = slice_cmp nat_cmp}) ≡ []
no_entries = none_listed (slice_cmp nat_cmp)

-- each pool serves the empty term
serves_empty : (segments : TextMap) → serves segments fin.empty ≡ true
serves_empty segments =
    let inside : is_within fin.empty segments ≡ true = ap (λ (es : List (List ℕ × List ℕ)). list_all (λ e. list_any (λ f. alike e.0 f.0 && same_text e.1 f.1) (fin.entries segments)) es) no_entries in
    elim (is_within segments fin.empty) as (λ b. (b || is_within fin.empty segments) ≡ true) [ true ↦ refl | false ↦ inside ]

served_all : (rs : List Room) → served rs None ≡ served rs (Some fin.empty)
served_all [] = refl
served_all (r ∷ rs) = ap (λ xs. r ∷ xs) (served_all rs) ∙ sym (ap (λ b. cond b (r ∷ served rs (Some fin.empty)) (served rs (Some fin.empty))) (serves_empty r.0.segments))

served_as : (rs : List Room) (t : Option TextMap) → served rs t ≡ served rs (Some (term_of t))
served_as rs None = served_all rs
served_as rs (Some t) = refl

-- if no room serves the term and has n bytes free, the greatest number of free bytes is less than n
small : (rs : List Room) (t : TextMap) (n a : ℕ) → a < n → find (λ r. serves r.0.segments t && nat_le n (free r)) rs ≡ None → fold max a (map free (served rs (Some t))) < n
small [] t n a h none = h
small (r ∷ rs) t n a h none = go (λ b l f. small rs t n b l f) (serves r.0.segments t) (nat_le n (free r)) refl none
  where
    go : ((b : ℕ) → b < n → find (λ r. serves r.0.segments t && nat_le n (free r)) rs ≡ None → fold max b (map free (served rs (Some t))) < n)
        → (p q : Bool) → nat_le n (free r) ≡ q → cond (p && q) (Some r) (find (λ r. serves r.0.segments t && nat_le n (free r)) rs) ≡ None
        → fold max a (map free (cond p (r ∷ served rs (Some t)) (served rs (Some t)))) < n
    go more true true e f = absurd (cc)
    go more true false e f =
        let less : free r < n = elim (leb_tells n (free r)) as (λ _. free r < n) [ inl x ↦ absurd (cc (e, x.0)) | inr x ↦ x.1 ] in
        more (max a (free r)) (omega arith) f
    go more false q e f = more a h f

has_place : (rs : List Room) (t : TextMap) (n : ℕ) → 0 < n → n ≤ greatest (map free (served rs (Some t))) → choice rs (t ∷ []) n ≢ None
has_place rs t n h le none =
    let gone : find (λ r. serves r.0.segments t && nat_le n (free r)) rs ≡ None = no_map (find (λ r. serves r.0.segments t && nat_le n (free r)) rs) (sym (choice_one rs t n) ∙ none) in
    absurd (omega (arith, small rs t n 0 h gone, le))
  where
    no_map : (o : Option Room) → option_map (λ r. r.0) o ≡ None → o ≡ None
    no_map None e = refl
    no_map (Some r) e = absurd (cc)

-- no pool is chosen for a term in a list if no pool is chosen for any term of the list
none_of : (rs : List Room) (ts : List TextMap) (t : TextMap) (n : ℕ) → Has ts t → choice rs ts n ≡ None → choice rs (t ∷ []) n ≡ None
none_of rs [] t n h e = absurd h
none_of rs (u ∷ ts) t n h e = go (none_of rs ts t n) (choice rs (u ∷ []) n) refl (sym (choice_cons rs u ts n) ∙ e)
  where
    go : (Has ts t → choice rs ts n ≡ None → choice rs (t ∷ []) n ≡ None) → (o : Option Pool) → choice rs (u ∷ []) n ≡ o → or_else o (choice rs ts n) ≡ None → choice rs (t ∷ []) n ≡ None
    go more None f k = elim h as (λ _. choice rs (t ∷ []) n ≡ None) [ inl is ↦ subst (λ (v : TextMap). choice rs (v ∷ []) n ≡ None) is f | inr r ↦ more r k ]
    go more (Some p) f k = absurd (cc)

under : (a b : ℕ) → b < a → nat_le a b ≡ false
under a b h = elim (leb_tells a b) as (λ _. nat_le a b ≡ false) [ inl x ↦ absurd (omega (arith, h, x.1)) | inr x ↦ x.0 ]

-- the maximum that is reported
reported : (config : Config) (rs : List Room) (g : GetCapacity) (available n : ℕ) → (b : Bool)
    → cond b (report_capacity (sum_by free (served rs g.topology)) (greatest_size config (served rs g.topology))) (report_capacity 0 0) ≡ report_capacity available n → 0 < n
    → n ≡ greatest_size config (served rs g.topology)
reported config rs g available n true e h = sym (same (sum_by free (served rs g.topology)) (greatest_size config (served rs g.topology)) available n (ap (λ p. p.outcome) e))
  where
    same : (a b c d : ℕ) → (report_capacity a b).outcome ≡ (report_capacity c d).outcome → b ≡ d
    same a b c d e = cc
reported config rs g available n false e h = absurd (none available n (ap (λ p. p.outcome) e) h)
  where
    none : (c d : ℕ) → (report_capacity 0 0).outcome ≡ (report_capacity c d).outcome → 0 < d → ⊥
    none c d e h = let z : ◌≡◌ {A = ℕ} 0 d = cc in omega (arith, z, h)

-- a maximum that GetCapacity reports is a multiple of 1 MiB, within the greatest size, and no more than the
-- free bytes where the topology is served
reported_fits : (config : Config) → IsConfigured config → (s : State) (g : GetCapacity) (available n : ℕ) → IsInvariant config s → capacity config s g ≡ report_capacity available n → 0 < n
    → IsTimes n × (n ≤ config.sizes.greatest_bytes) × (n ≤ greatest (map free (served (rooms config s) (Some (term_of g.topology)))))
reported_fits config good s g available n inv e h =
    let rs = rooms config s in
    let is : n ≡ greatest_size config (served rs g.topology) = reported config rs g available n (list_all is_supported g.capabilities) e h in
    let same = ap (λ (xs : List Room). greatest (map free xs)) (served_as rs g.topology) in (
      subst IsTimes (sym is) (times_min config.sizes.greatest_bytes (greatest (map free (served rs g.topology))) (times_of _ good.greatest) (times_most rs g.topology 0 (0, omega arith) (all_rooms s config.pools (times_free config s good inv)))),
      omega (arith, is),
      omega (arith, is, same),
    )

-- the choice is a pool of the configuration
of_config : (config : Config) (s : State) (ts : List TextMap) (n : ℕ) (p : Pool) → choice (rooms config s) ts n ≡ Some p → Has config.pools p
of_config config s ts n p f =
    let one = chosen (rooms config s) ts n p f in
    let from = has_map (λ p. (p, used s p.name)) config.pools one.0 one.1 in
    let same : from.0 ≡ p = ap (λ (x : Room). x.0) from.2 ∙ one.2 in
    subst (Has config.pools) same from.1

-- a pool is chosen for the maximum that GetCapacity reports, under the topology that it was asked for
pub offers : (config : Config) → IsConfigured config → (s : State) (g : GetCapacity) (available n : ℕ) → IsInvariant config s → capacity config s g ≡ report_capacity available n → 0 < n
    → (pool : Pool) × Has config.pools pool × (choice (rooms config s) (term_of g.topology ∷ []) n ≡ Some pool)
offers config good s g available n inv e h = go (choice (rooms config s) (term_of g.topology ∷ []) n) refl
  where
    go : (o : Option Pool) → choice (rooms config s) (term_of g.topology ∷ []) n ≡ o → (pool : Pool) × Has config.pools pool × (choice (rooms config s) (term_of g.topology ∷ []) n ≡ Some pool)
    go None f = absurd (has_place (rooms config s) (term_of g.topology) n h (reported_fits config good s g available n inv e h).2 f)
    go (Some p) f = (p, of_config config s (term_of g.topology ∷ []) n p f, f)

-- a volume of the maximum that GetCapacity reports is made, if the topology is one of its terms
pub offered : (config : Config) → IsConfigured config → (s : State) (g : GetCapacity) (available n : ℕ) (r : CreateVolume) → IsInvariant config s
    → capacity config s g ≡ report_capacity available n → 0 < n → AsksFor config r g.topology n → IsNew config s r.name
    → (pool : Pool) × Has config.pools pool × (create config s r ≡ place_in r s.next n (Some pool))
offered config good s g available n r inv e h asks new =
    let fit = reported_fits config good s g available n inv e h in
    go fit.2 asks.sized (choice (rooms config s) (terms r.topology) n) refl
  where
    go : n ≤ greatest (map free (served (rooms config s) (Some (term_of g.topology)))) → size config.sizes r.range ≡ Some n → (o : Option Pool) → choice (rooms config s) (terms r.topology) n ≡ o
        → (pool : Pool) × Has config.pools pool × (create config s r ≡ place_in r s.next n (Some pool))
    go fits sized None f = absurd (has_place (rooms config s) (term_of g.topology) n h fits (none_of (rooms config s) (terms r.topology) (term_of g.topology) n asks.term f))
    go fits sized (Some p) f = (
      p,
      of_config config s (terms r.topology) n p f,
      ap (create_named config s r) new.unnamed
          ∙ ap (place (rooms config s) s.next r) sized
          ∙ ap (λ b. cond b (refuse TooManyVolumes) (cond (nat_le MAX_NUMBER s.next) (refuse NumbersUsedUp) (place_in r s.next n (choice (rooms config s) (terms r.topology) n)))) (under MAX_VOLUMES (count (rooms config s)) new.few)
          ∙ ap (λ b. cond b (refuse NumbersUsedUp) (place_in r s.next n (choice (rooms config s) (terms r.topology) n))) (under MAX_NUMBER s.next new.numbered)
          ∙ ap (place_in r s.next n) f,
    )

-- a range with the size as both of its bounds asks for the size
pub asked_exactly : (config : Config) → IsConfigured config → (s : State) (g : GetCapacity) (available n : ℕ) → IsInvariant config s → capacity config s g ≡ report_capacity available n → 0 < n → size config.sizes (Some (exactly n)) ≡ Some n
asked_exactly config good s g available n inv e h = let fit = reported_fits config good s g available n inv e h in size_exact config.sizes n h fit.0 fit.1

abbrev reported_after : State → State → Report → Report × State
reported_after s t w = (w, moved s t w)

-- the step of a create whose plan makes a volume, and whose body fits into a reply
stepped : (config : Config) (s : State) (r : CreateVolume) (n : ℕ) (pool : Pool) → create config s r ≡ place_in r s.next n (Some pool) → length (response_bytes (response.Create (Some (info_at pool.segments (made r s.next n pool))))) ≤ MAX_BODY_BYTES
    → step config s (Create r) ≡ (Says (response_bytes (response.Create (Some (info_at pool.segments (made r s.next n pool))))), changed s (AddVolume (made r s.next n pool)))
stepped config s r n pool is fits =
    let v = made r s.next n pool in
    let body = response_bytes (response.Create (Some (info_at pool.segments v))) in
    let held : nat_le (length body) MAX_BODY_BYTES ≡ true = le-leb (length body) MAX_BODY_BYTES fits in
    ap (λ (p : Plan). reported_after s (after s p.change) (reported_of p.outcome)) is
    ∙ ap (λ b. reported_after s (changed s (AddVolume v)) (cond b (Says body) (Denies ReplyTooLarge))) held

-- the create of a volume that GetCapacity offers is answered
pub answered : (config : Config) → IsConfigured config → ((p : Pool) → Has config.pools p → is_pool_name p.name ≡ true) → ((p : Pool) → Has config.pools p → fin.len p.segments ≤ MAX_SEGMENTS)
    → (s : State) (g : GetCapacity) (available n : ℕ) (r : CreateVolume) → IsInvariant config s → capacity config s g ≡ report_capacity available n → 0 < n → AsksFor config r g.topology n → IsNew config s r.name
    → (pool : Pool) × Has config.pools pool × (step config s (Create r) ≡ (Says (response_bytes (response.Create (Some (info_at pool.segments (made r s.next n pool))))), changed s (AddVolume (made r s.next n pool))))
answered config good names few s g available n r inv e h asks new =
    let it = offered config good s g available n r inv e h asks new in
    (it.0, it.1, stepped config s r n it.0 it.2 (made_fits config names few it.0 it.1 (made r s.next n it.0) refl new.numbered))
