-- A new volume is reported in a reply: its entry is far shorter than the longest body.
use Rattle.std.proofs.Common.{◌≡◌, ◌∙◌, ap, sym, subst, cond, arith, refl, ℕ, zero, suc, ◌+◌, ◌*◌, ◌/◌, ◌%◌, ◌==◌, ◌<◌, ◌≤◌, ◌^◌, nat_lt, nat_le, List, [], ◌∷◌, ◌++◌, length, map, take, codes, Bool, true, false, ◌&&◌, ◌||◌, Option, Some, None, option_map, inl, inr}
use Rattle.std.specs.Cmp.Lexicographic.{slice_cmp}
use Rattle.std.specs.FinMap as fin
use Rattle.std.specs.Fmt.{decimal}
use Rattle.std.specs.Int.{cast_unsigned, w64}
use Rattle.std.specs.List.{AllByRecursion, enumerate_from, list_all, list_any, position_from}
use Rattle.std.specs.Option.{option_or}
use Rattle.std.specs.Ordering.{nat_cmp}
use Rattle.std.proofs.lemmas.Bool.{and_parts, leb-true}
use Rattle.std.proofs.lemmas.Bool.Decides.{leb_tells}
use Rattle.std.proofs.lemmas.Cmp.{nat_list_cmp_total}
use Rattle.std.proofs.lemmas.Fmt.{length-decimal-le}
use Rattle.std.proofs.lemmas.Grind.{flat_map-append}
use Rattle.std.proofs.lemmas.Iterator.Adapters.{position_from-zero}
use Rattle.std.proofs.lemmas.List.{length-append}
use Rattle.pbwire.specs.Wire.{WireField, Number, Payload, kind_of}
use Rattle.pbwire.specs.Writing.{minimal, spelling, spellings, varint}
use Rattle.pbmessage.specs.Canon.{bytes_of, canon_map_entry, payload_fields, present, present_number, row_fields, spelled}
use Rattle.csi_types.specs.Maps.{TextMap}
use Rattle.csi_types.specs.Names.{longer_than}
use Rattle.csi_types.specs.declared.limits.TheConstants.{MAX_SEGMENTS, MAX_TEXT_BYTES}
use Rattle.csi_types.specs.declared.responses.Response.TheVariants as response
use Rattle.csi_codec.specs.Methods.{response_bytes}
use Rattle.csi_codec.specs.messages.Topology.{canon_map}
use Rattle.csi_codec.specs.messages.Volume.{canon_volume}
use Rattle.csi_config.specs.Faults.{breaks_pool, is_pool_byte, is_pool_name, place_broken, plugin_fault, pool_bytes_fault, pool_fault, pool_names_fault, segments_fault, sizes_fault}
use Rattle.csi_config.specs.Values.{Has}
use Rattle.csi_config.specs.declared.config.Config.{Config}
use Rattle.csi_config.specs.declared.fault.PoolRule.TheVariants.{KeyEmpty, KeyTooLong, Segments, ValueTooLong}
use Rattle.csi_config.specs.declared.plugin.TheConstants.{MAX_NAME_BYTES}
use Rattle.csi_config.specs.declared.pools.Pool.{Pool}
use Rattle.csi_keeper.specs.declared.volume.Volume.{Volume}
use Rattle.csi_keeper.specs.facts.Finite.{none_listed}
use Rattle.csi_rules.specs.Ids.{id}
use Rattle.csi_rules.specs.Info.{info_at, topology_of}
use Rattle.envelope.specs.declared.limits.TheConstants.{MAX_BODY_BYTES}

-- ---- the greatest length of an encoding

minimal_most : (k n : ℕ) → length (minimal k n) ≤ k + 1
unfolding minimal
minimal_most zero n = omega arith
minimal_most (suc k) n = elim (nat_lt n 128) as (λ b. length (cond b (n ∷ []) ((n % 128 + 128) ∷ minimal k (n / 128))) ≤ suc k + 1) [ true ↦ omega arith | false ↦ let more = minimal_most k (n / 128) in omega (arith, more) ]

payload_most : (k : ℕ) (p : List ℕ) → length (spelling (record { number = k; part = Payload p })) ≤ 20 + length p
payload_most k p =
    let tag = k * 8 + kind_of (Payload p) in
    let all = length-append (varint tag) (varint (length p) ++ p) in
    let rest = length-append (varint (length p)) p in
    let a = minimal_most 9 tag in
    let b = minimal_most 9 (length p) in
    omega (arith, all, rest, a, b)

number_most : (k n : ℕ) → length (spelling (record { number = k; part = Number n })) ≤ 20
number_most k n =
    let tag = k * 8 + kind_of (Number n) in
    let all = length-append (varint tag) (varint n) in
    let a = minimal_most 9 tag in
    let b = minimal_most 9 n in
    omega (arith, all, a, b)

-- one more field
more_spelled : (e : WireField) (es : List WireField) → length (spellings (e ∷ es)) ≡ length (spelling e) + length (spellings es)
more_spelled e es = length-append (spelling e) (spellings es)

joined : (xs ys : List WireField) → length (spellings (xs ++ ys)) ≡ length (spellings xs) + length (spellings ys)
joined xs ys = ap length (flat_map-append spelling xs ys) ∙ length-append (spellings xs) (spellings ys)

-- a payload alone, and a number that may be left out
alone : (k : ℕ) (p : List ℕ) → length (spellings (payload_fields k (p ∷ []))) ≤ 20 + length p
alone k p = let all = more_spelled (record { number = k; part = Payload p }) [] in let one = payload_most k p in omega (arith, all, one)

text_most : (k : ℕ) (t : List ℕ) → length (spellings (payload_fields k (present t))) ≤ 20 + length t
text_most k [] = omega arith
text_most k (b ∷ bs) = alone k (b ∷ bs)

signed_most : (k n : ℕ) → length (spellings (map (λ x. record { number = k; part = Number x }) (present_number n))) ≤ 20
signed_most k n = elim (n == 0) as (λ b. length (spellings (map (λ x. record { number = k; part = Number x }) (cond b [] (n ∷ [])))) ≤ 20) [
  | true ↦ omega arith
  | false ↦ let all = more_spelled (record { number = k; part = Number n }) [] in let one = number_most k n in omega (arith, all, one)
]

-- ---- a map of short texts

abbrev AreShort : List (List ℕ × List ℕ) → Type 0
AreShort es = AllByRecursion (λ e. (length e.0 ≤ 128) × (length e.1 ≤ 128)) es

entry_most : (e : List ℕ × List ℕ) → length e.0 ≤ 128 → length e.1 ≤ 128 → length (bytes_of (canon_map_entry e)) ≤ 296
unfolding row_fields
entry_most e a b =
    let all = joined (payload_fields 1 (e.0 ∷ [])) (payload_fields 2 (e.1 ∷ [])) in
    let one = alone 1 e.0 in
    let two = alone 2 e.1 in
    omega (arith, all, one, two, a, b)

map_most : (k : ℕ) (es : List (List ℕ × List ℕ)) → AreShort es → length (spellings (payload_fields k (spelled canon_map_entry es))) ≤ length es * 316
map_most k [] short = omega arith
map_most k (e ∷ es) short =
    let all = more_spelled (record { number = k; part = Payload (bytes_of (canon_map_entry e)) }) (payload_fields k (spelled canon_map_entry es)) in
    let one = payload_most k (bytes_of (canon_map_entry e)) in
    let inside = entry_most e short.0.0 short.0.1 in
    let more = map_most k es short.1 in
    omega (arith, all, one, inside, more)

-- ---- a volume

-- the topology of at most eight short segments
topology_most : (segments : TextMap) → fin.len segments ≤ 8 → AreShort (fin.entries segments) → length (spellings (payload_fields 5 (spelled canon_map (topology_of segments)))) ≤ 2548
unfolding row_fields
topology_most segments few short = elim (fin.len segments == 0) as (λ b. length (spellings (payload_fields 5 (spelled canon_map (cond b [] (segments ∷ []))))) ≤ 2548) [
  | true ↦ omega arith
  | false ↦
      let one = alone 5 (bytes_of (canon_map segments)) in
      let inside = map_most 1 (fin.entries segments) short in
      let count = fin.len-entries segments in
      omega (arith, one, inside, count, few)
]

-- a context of one entry
abbrev context_of : List ℕ → List ℕ → TextMap
context_of k v = fin.insert fin.empty k v

context_listed : (k v : List ℕ) → fin.entries (context_of k v) ≡ (k, v) ∷ []
context_listed k v = fin.entries-insert nat_list_cmp_total fin.empty k v ∙ ap (fin.put (slice_cmp nat_cmp) k v) (none_listed (slice_cmp nat_cmp))

volume_most : (segments : TextMap) (v : Volume) → fin.len segments ≤ 8 → AreShort (fin.entries segments) → length v.pool ≤ 128 → length (id v.number) ≤ 24
    → length (bytes_of (canon_volume (info_at segments v))) ≤ 3000
unfolding row_fields
volume_most segments v few short pool number =
    let i = info_at segments v in
    let bytes = cast_unsigned w64 i.bytes in
    let size : List WireField = map (λ x. record { number = 1; part = Number x }) (present_number bytes) in
    let name = payload_fields 2 (present i.id) in
    let context = payload_fields 3 (spelled canon_map_entry (fin.entries i.context)) in
    let topology = payload_fields 5 (spelled canon_map i.topology) in
    let one = joined ((size ++ name) ++ context) topology in
    let two = joined (size ++ name) context in
    let three = joined size name in
    let a = signed_most 1 bytes in
    let b = text_most 2 i.id in
    let c : length (spellings context) ≤ 316 = subst (λ es. length (spellings (payload_fields 3 (spelled canon_map_entry es))) ≤ 316) (sym (context_listed (codes "pool") v.pool)) (map_most 3 ((codes "pool", v.pool) ∷ []) ((omega arith, pool), tt)) in
    let d = topology_most segments few short in
    omega (arith, one, two, three, a, b, c, d, number)

id_most : (n : ℕ) → n < 2 ^ 62 → length (id n) ≤ 24
id_most n low = let all = length-append (codes "vol-") (decimal n) in let digits = length-decimal-le 20 n (omega arith) (omega (arith, low)) (omega (arith, low)) in omega (arith, all, digits)

-- the reply has a body that is reported
created_fits : (segments : TextMap) (v : Volume) → fin.len segments ≤ 8 → AreShort (fin.entries segments) → length v.pool ≤ 128 → v.number < 2 ^ 62 → length (response_bytes (response.Create (Some (info_at segments v)))) ≤ MAX_BODY_BYTES
unfolding response_bytes row_fields
created_fits segments v few short pool number =
    let one = alone 1 (bytes_of (canon_volume (info_at segments v))) in
    let inside = volume_most segments v few short pool (id_most v.number number) in
    omega (arith, one, inside)

-- ---- the texts of a pool

first_none : {A : Type 0} (a b : Option A) → option_or a b ≡ None → a ≡ None
first_none (Some x) b h = absurd (cc)
first_none None b h = refl

rest_none : {A : Type 0} (a b : Option A) → option_or a b ≡ None → b ≡ None
rest_none (Some x) b h = absurd (cc)
rest_none None b h = h

map_none : {A B : Type 0} (f : A → B) (a : Option A) → option_map f a ≡ None → a ≡ None
map_none f (Some x) h = absurd (cc)
map_none f None h = refl

first_off : (a b : Bool) → (a || b) ≡ false → a ≡ false
first_off true b h = absurd (cc)
first_off false b h = refl

second_off : (a b : Bool) → (a || b) ≡ false → b ≡ false
second_off true b h = absurd (cc)
second_off false b h = h

-- if no position is found for a test, no pool passes it
nowhere : (test : Pool → Bool) (n : ℕ) (ps : List Pool) → position_from (λ e. test e.1) n (enumerate_from n ps) ≡ None → (p : Pool) → Has ps p → test p ≡ false
nowhere test n [] off p h = absurd h
nowhere test n (q ∷ ps) off p h = go (λ rest off. nowhere test (n + 1) ps off p rest) (test q) refl off
  where
    go : (Has ps p → position_from (λ e. test e.1) (n + 1) (enumerate_from (n + 1) ps) ≡ None → test p ≡ false) → (b : Bool) → test q ≡ b → cond b (Some n) (position_from (λ e. test e.1) (n + 1) (enumerate_from (n + 1) ps)) ≡ None → test p ≡ false
    go more true is off = absurd (cc)
    go more false is off = elim h as (λ _. test p ≡ false) [ inl same ↦ subst (λ (x : Pool). test x ≡ false) same is | inr rest ↦ more rest off ]

-- two rules for the texts of segments
module _ (config : Config) where
  of_segments : segments_fault config.pools ≡ None
  of_segments =
      let from_sizes = rest_none (plugin_fault config.plugin) _ config.faultless in
      let from_names = rest_none (sizes_fault config.sizes) _ from_sizes in
      let from_bytes = rest_none (pool_names_fault config.pools) _ from_names in
      let from_segments = rest_none (pool_bytes_fault config.pools) _ from_bytes in
      first_none (segments_fault config.pools) _ from_segments

  from_keys : (pool_fault KeyTooLong config.pools ≡ None) × (pool_fault ValueTooLong config.pools ≡ None)
  unfolding segments_fault
  from_keys =
      let from_empty = rest_none (pool_fault Segments config.pools) _ of_segments in
      let from_long = rest_none (pool_fault KeyEmpty config.pools) _ from_empty in
      (first_none (pool_fault KeyTooLong config.pools) _ from_long, first_none (pool_fault ValueTooLong config.pools) _ (rest_none (pool_fault KeyTooLong config.pools) _ from_long))

  keys_short : (p : Pool) → Has config.pools p → list_any (λ e. longer_than MAX_TEXT_BYTES e.0) (fin.entries p.segments) ≡ false
  keys_short p h = nowhere (λ p. list_any (λ e. longer_than MAX_TEXT_BYTES e.0) (fin.entries p.segments)) 0 config.pools (sym (position_from-zero (λ (e : ℕ × Pool). breaks_pool KeyTooLong (take e.0 config.pools) e.1) (enumerate_from 0 config.pools)) ∙ map_none _ (place_broken breaks_pool KeyTooLong config.pools) from_keys.0) p h

  values_short : (p : Pool) → Has config.pools p → list_any (λ e. longer_than MAX_TEXT_BYTES e.1) (fin.entries p.segments) ≡ false
  values_short p h = nowhere (λ p. list_any (λ e. longer_than MAX_TEXT_BYTES e.1) (fin.entries p.segments)) 0 config.pools (sym (position_from-zero (λ (e : ℕ × Pool). breaks_pool ValueTooLong (take e.0 config.pools) e.1) (enumerate_from 0 config.pools)) ∙ map_none _ (place_broken breaks_pool ValueTooLong config.pools) from_keys.1) p h

not_longer : (t : List ℕ) → longer_than 128 t ≡ false → length t ≤ 128
not_longer t e = elim (leb_tells 129 (length t)) as (λ _. length t ≤ 128) [ inl x ↦ absurd (cc (e, x.0)) | inr x ↦ omega (arith, x.1) ]

all_short : (es : List (List ℕ × List ℕ)) → list_any (λ e. longer_than 128 e.0) es ≡ false → list_any (λ e. longer_than 128 e.1) es ≡ false → AreShort es
all_short [] a b = tt
all_short (e ∷ es) a b = ((not_longer e.0 (first_off _ _ a), not_longer e.1 (first_off _ _ b)), all_short es (second_off (longer_than 128 e.0) _ a) (second_off (longer_than 128 e.1) _ b))

name_short : (name : List ℕ) → is_pool_name name ≡ true → length name ≤ 128
name_short name e =
    let outer = and_parts (nat_lt 0 (length name) && nat_le (length name) MAX_NAME_BYTES) (list_all is_pool_byte name) e in
    let inner = and_parts (nat_lt 0 (length name)) (nat_le (length name) MAX_NAME_BYTES) outer.0 in
    let most : length name ≤ MAX_NAME_BYTES = leb-true (length name) MAX_NAME_BYTES inner.1 in
    omega (arith, most)

-- the entry of a volume in a pool of the configuration fits into a reply
pub made_fits : (config : Config) → ((p : Pool) → Has config.pools p → is_pool_name p.name ≡ true) → ((p : Pool) → Has config.pools p → fin.len p.segments ≤ MAX_SEGMENTS)
    → (p : Pool) → Has config.pools p → (v : Volume) → v.pool ≡ p.name → v.number < 2 ^ 62 → length (response_bytes (response.Create (Some (info_at p.segments v)))) ≤ MAX_BODY_BYTES
made_fits config names few p h v is number =
    created_fits p.segments v (few p h) (all_short (fin.entries p.segments) (keys_short config p h) (values_short config p h)) (subst (λ (t : List ℕ). length t ≤ 128) (sym is) (name_short p.name (names p h))) number
