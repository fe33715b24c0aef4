-- The faults of a configuration, as a table: each line is a definition. The answer is the first line with a
-- fault; in a line, the first rule that is broken; for a rule, the first pool or node in order.
use Rattle.std.specs.Prelude.{ℕ, ◌-◌, ◌%◌, ◌==◌, Bool, false, ◌&&◌, ◌||◌, cond, not, nat_lt, nat_le, List, [], ◌∷◌, length, map, take, get_or, sum_by}
use Rattle.std.specs.Prelude.{position, Option, Some, None}
use Rattle.std.specs.Char.{is_ascii_alphanumeric}
use Rattle.std.specs.FinMap.{entries, len}
use Rattle.std.specs.List.{list_any, list_all, enumerate_from}
use Rattle.std.specs.Option.{option_map, option_or}
use Rattle.csi_types.specs.Maps.{same_text}
use Rattle.csi_types.specs.Names.{is_empty, longer_than}
use Rattle.csi_types.specs.Topology.{has_alike_keys}
use Rattle.csi_types.specs.declared.limits.TheConstants.{MAX_TEXT_BYTES, MAX_NODE_ID_BYTES, MAX_POOLS, MAX_SEGMENTS, MAX_NODES, MAX_POOL_BYTES, MAX_VOLUMES}
use Rattle.csi_config.specs.declared.fault.ConfigFault.{ConfigFault}
use Rattle.csi_config.specs.declared.fault.ConfigFault.TheVariants as Fault
use Rattle.csi_config.specs.declared.fault.NodeRule.{NodeRule}
use Rattle.csi_config.specs.declared.fault.NodeRule.TheVariants.{Id, IdTwice, Volumes}
use Rattle.csi_config.specs.declared.fault.PoolRule.{PoolRule}
use Rattle.csi_config.specs.declared.fault.PoolRule.TheVariants.{Name, NameTwice, Bytes, Segments, KeyEmpty, KeyTooLong, ValueTooLong, KeysAlike}
use Rattle.csi_config.specs.declared.fault.SizeRule.{SizeRule}
use Rattle.csi_config.specs.declared.fault.SizeRule.TheVariants as Size
use Rattle.csi_config.specs.declared.nodes.Node.{Node}
use Rattle.csi_config.specs.declared.plugin.Plugin.{Plugin}
use Rattle.csi_config.specs.declared.plugin.TheConstants.{MAX_NAME_BYTES}
use Rattle.csi_config.specs.declared.pools.Pool.{Pool}
use Rattle.csi_config.specs.declared.sizes.Sizes.{Sizes}
use Rattle.csi_config.specs.declared.sizes.TheConstants.{GRANULE_BYTES}

-- the first answer in a list
abbrev pub first_of : {A : Type 0} → List (Option A) → Option A
first_of [] = None
first_of (a ∷ rest) = option_or a (first_of rest)

-- the fault, if the test is true
abbrev pub fault_if : {A : Type 0} → Bool → A → Option A
fault_if test fault = cond test (Some fault) None

-- 1 to 63 bytes, and each byte passes the test
abbrev pub is_label : (ℕ → Bool) → List ℕ → Bool
is_label test text = nat_lt 0 (length text) && nat_le (length text) MAX_NAME_BYTES && list_all test text

-- letters, digits, `-` and `.`
unfoldable pub is_plugin_byte : ℕ → Bool
is_plugin_byte c = is_ascii_alphanumeric c || c == 45 || c == 46

-- 1 to 63 such bytes, and the first and the last are a letter or a digit
abbrev pub is_plugin_name : List ℕ → Bool
is_plugin_name name = is_label is_plugin_byte name && is_ascii_alphanumeric (get_or name 0 0) && is_ascii_alphanumeric (get_or name (length name - 1) 0)

-- letters, digits, `-`, `_` and `.`
unfoldable pub is_pool_byte : ℕ → Bool
is_pool_byte c = is_ascii_alphanumeric c || c == 45 || c == 95 || c == 46

abbrev pub is_pool_name : List ℕ → Bool
is_pool_name name = is_label is_pool_byte name

-- a positive multiple of 1 MiB
abbrev pub is_whole : ℕ → Bool
is_whole n = nat_lt 0 n && (n % GRANULE_BYTES == 0)

-- a byte below 0x20, or 0x7F
unfoldable pub is_bad_byte : ℕ → Bool
is_bad_byte c = nat_lt c 32 || c == 127

abbrev pub is_bad_id : List ℕ → Bool
is_bad_id id = is_empty id || longer_than MAX_NODE_ID_BYTES id || list_any is_bad_byte id

-- the sum of the bytes of all pools
abbrev pub all_bytes : List Pool → ℕ
all_bytes pools = sum_by (λ p. p.bytes) pools

-- the position of the first item that breaks a rule; the rule looks at the item and at the items before it
abbrev pub place_broken : {T R : Type 0} → (R → List T → T → Bool) → R → List T → Option ℕ
place_broken breaks rule items = position (λ e. breaks rule (take e.0 items) e.1) (enumerate_from 0 items)

-- the fault of the first item that breaks a rule, with the item's name
abbrev pub first_broken : {T R : Type 0} → (R → List T → T → Bool) → (T → List ℕ) → (List ℕ → R → ConfigFault) → R → List T → Option ConfigFault
first_broken breaks name fault rule items = option_map (λ place. fault (get_or (map name items) place []) rule) (place_broken breaks rule items)

-- a segment, a key with its value, breaks a rule
abbrev pub breaks_segment : PoolRule → List ℕ × List ℕ → Bool
breaks_segment KeyEmpty e = is_empty e.0
breaks_segment KeyTooLong e = longer_than MAX_TEXT_BYTES e.0
breaks_segment ValueTooLong e = longer_than MAX_TEXT_BYTES e.1
breaks_segment rule e = false

-- a pool breaks a rule; `earlier` are the pools before it
abbrev pub breaks_pool : PoolRule → List Pool → Pool → Bool
breaks_pool Name earlier p = not (is_pool_name p.name)
breaks_pool NameTwice earlier p = list_any (λ q. same_text q.name p.name) earlier
breaks_pool Bytes earlier p = not (is_whole p.bytes)
breaks_pool Segments earlier p = nat_lt MAX_SEGMENTS (len p.segments)
breaks_pool KeyEmpty earlier p = list_any (λ e. is_empty e.0) (entries p.segments)
breaks_pool KeyTooLong earlier p = list_any (λ e. longer_than MAX_TEXT_BYTES e.0) (entries p.segments)
breaks_pool ValueTooLong earlier p = list_any (λ e. longer_than MAX_TEXT_BYTES e.1) (entries p.segments)
breaks_pool KeysAlike earlier p = has_alike_keys p.segments

abbrev pub name_of : Pool → List ℕ
name_of pool = pool.name

-- the first pool that breaks a rule
abbrev pub pool_fault : PoolRule → List Pool → Option ConfigFault
pool_fault rule pools = first_broken breaks_pool name_of Fault.Pool rule pools

-- a node breaks a rule; `earlier` are the nodes before it
abbrev pub breaks_node : NodeRule → List Node → Node → Bool
breaks_node Id earlier n = is_bad_id n.id
breaks_node IdTwice earlier n = list_any (λ m. same_text m.id n.id) earlier
breaks_node Volumes earlier n = n.max_volumes == 0 || nat_lt MAX_VOLUMES n.max_volumes

abbrev pub id_of : Node → List ℕ
id_of node = node.id

-- the first node that breaks a rule
abbrev pub node_fault : NodeRule → List Node → Option ConfigFault
node_fault rule nodes = first_broken breaks_node id_of Fault.Node rule nodes

unfoldable pub plugin_fault : Plugin → Option ConfigFault
plugin_fault plugin = first_of (
    fault_if (not (is_plugin_name plugin.name)) (Fault.PluginName plugin.name)
    ∷ fault_if (is_empty plugin.version || longer_than MAX_TEXT_BYTES plugin.version) Fault.PluginVersion
    ∷ [])

-- the first rule that the sizes break
abbrev pub broken_sizes : Sizes → Option SizeRule
broken_sizes sizes = first_of (
    fault_if (not (is_whole sizes.default_bytes)) Size.Default
    ∷ fault_if (not (is_whole sizes.greatest_bytes)) Size.Greatest
    ∷ fault_if (nat_lt sizes.greatest_bytes sizes.default_bytes) Size.Order
    ∷ fault_if (nat_lt MAX_POOL_BYTES sizes.greatest_bytes) Size.Limit
    ∷ [])

unfoldable pub sizes_fault : Sizes → Option ConfigFault
sizes_fault sizes = option_map Fault.Sizes (broken_sizes sizes)

unfoldable pub pool_names_fault : List Pool → Option ConfigFault
pool_names_fault pools = first_of (
    fault_if (is_empty pools) Fault.NoPool
    ∷ fault_if (nat_lt MAX_POOLS (length pools)) Fault.TooManyPools
    ∷ pool_fault Name pools
    ∷ pool_fault NameTwice pools
    ∷ [])

unfoldable pub pool_bytes_fault : List Pool → Option ConfigFault
pool_bytes_fault pools = first_of (
    pool_fault Bytes pools
    ∷ fault_if (nat_lt MAX_POOL_BYTES (all_bytes pools)) Fault.AllBytes
    ∷ [])

unfoldable pub segments_fault : List Pool → Option ConfigFault
segments_fault pools = first_of (
    pool_fault Segments pools
    ∷ pool_fault KeyEmpty pools
    ∷ pool_fault KeyTooLong pools
    ∷ pool_fault ValueTooLong pools
    ∷ pool_fault KeysAlike pools
    ∷ [])

unfoldable pub node_ids_fault : List Node → Option ConfigFault
node_ids_fault nodes = first_of (
    fault_if (nat_lt MAX_NODES (length nodes)) Fault.TooManyNodes
    ∷ node_fault Id nodes
    ∷ node_fault IdTwice nodes
    ∷ [])

unfoldable pub node_volumes_fault : List Node → Option ConfigFault
node_volumes_fault nodes = node_fault Volumes nodes

-- the fault of a configuration of these parts, if it has one
abbrev pub fault_of : Plugin → Sizes → List Pool → List Node → Option ConfigFault
fault_of plugin sizes pools nodes = first_of (
    plugin_fault plugin
    ∷ sizes_fault sizes
    ∷ pool_names_fault pools
    ∷ pool_bytes_fault pools
    ∷ segments_fault pools
    ∷ node_ids_fault nodes
    ∷ node_volumes_fault nodes
    ∷ [])
