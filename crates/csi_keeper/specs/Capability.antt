-- Capability keys: the uses of a volume (CSI specification, 'CreateVolume', the message VolumeCapability).
use Rattle.std.specs.Prelude.{ℕ, ℤ, pos, negsuc, ◌==◌, ◌&&◌, ◌||◌, Bool, true, false, List, [], Option, None, Some, map, if◌then◌else◌}
use Rattle.std.specs.declared.cmp.Ordering.{Ordering}
use Rattle.std.specs.declared.cmp.Ordering.TheVariants.{Less, Equal, Greater}
use Rattle.std.specs.FinMap.{from_entries, keys}
use Rattle.std.specs.List.{list_any, list_all, filter_map}
use Rattle.std.specs.List.Sorted.{IsStrictlySortedBy}
use Rattle.std.specs.Option.{option_and_then, option_map}
use Rattle.std.specs.Ordering.{nat_cmp, ordering_then}
use Rattle.csi_types.specs.Checks.{is_known_mode, is_supported}
use Rattle.csi_types.specs.Maps.{same_text}
use Rattle.csi_types.specs.declared.capability.Access.{Access}
use Rattle.csi_types.specs.declared.capability.Access.TheVariants as access
use Rattle.csi_types.specs.declared.capability.Capability.{Capability}
use Rattle.csi_keeper.specs.Texts.{text_cmp}
use Rattle.csi_keeper.specs.declared.capability.CapKey.{CapKey}
use Rattle.csi_keeper.specs.declared.capability.Kind.{Kind}
use Rattle.csi_keeper.specs.declared.capability.Kind.TheVariants.{Block, Mount}

-- Order

-- block before mount, and mounts by the type of their file system
abbrev pub kind_cmp : Kind → Kind → Ordering
kind_cmp Block Block = Equal
kind_cmp Block (Mount t) = Less
kind_cmp (Mount t) Block = Greater
kind_cmp (Mount t) (Mount u) = text_cmp t u

-- the order of keys: by kind, and then by mode
abbrev pub key_cmp : CapKey → CapKey → Ordering
key_cmp a b = ordering_then (kind_cmp a.kind b.kind) (nat_cmp a.mode b.mode)

-- the keys are in strictly rising order, so no key occurs twice
abbrev pub AreOrdered : List CapKey → Type 0
AreOrdered keys = IsStrictlySortedBy key_cmp keys

-- Keys of capabilities

-- a known access mode, as a number
abbrev pub mode_of : Option ℤ → Option ℕ
mode_of None = None
mode_of (Some (negsuc n)) = None
mode_of (Some (pos n)) = if is_known_mode (Some (pos n)) then Some n else None

abbrev pub key_with : Access → Option ℕ → Option CapKey
key_with a None = None
key_with access.Missing (Some mode) = None
key_with access.Block (Some mode) = Some (record { kind = Block; mode = mode })
key_with (access.Mount m) (Some mode) = Some (record { kind = Mount m.fs_type; mode = mode })

-- the key of a capability: block, or mount with the type of its file system, and the mode
abbrev pub key_of : Capability → Option CapKey
key_of c = key_with c.access (mode_of c.mode)

abbrev pub access_of : Kind → Access
access_of Block = access.Block
access_of (Mount t) = access.Mount (record { fs_type = t; flags = []; group = [] })

-- the capability of a key, without mount flags and mount group
abbrev pub capability_of : CapKey → Capability
capability_of k = record { access = access_of k.kind; mode = Some (pos k.mode) }

-- a volume can be made for the capability of this key
abbrev pub is_supported_key : CapKey → Bool
is_supported_key k = is_supported (capability_of k)

-- Sets of keys

abbrev pub same_kind : Kind → Kind → Bool
same_kind Block Block = true
same_kind Block (Mount t) = false
same_kind (Mount t) Block = false
same_kind (Mount t) (Mount u) = same_text t u

abbrev pub same_key : CapKey → CapKey → Bool
same_key a b = same_kind a.kind b.kind && (a.mode == b.mode)

-- SINGLE_NODE_WRITER 1 is wider than SINGLE_NODE_SINGLE_WRITER 6 and SINGLE_NODE_MULTI_WRITER 7, into which
-- it was split
abbrev pub wider_mode : ℕ → Option ℕ
wider_mode mode = if mode == 6 || mode == 7 then Some 1 else None

-- the kind with the wider mode
abbrev pub wider_key : CapKey → Option CapKey
wider_key k = option_map (λ mode. record { kind = k.kind; mode = mode }) (wider_mode k.mode)

abbrev pub is_key : Option CapKey → CapKey → Bool
is_key None k = false
is_key (Some j) k = same_key j k

-- the key is one of these keys
abbrev pub has_same : List CapKey → Option CapKey → Bool
has_same keys key = list_any (is_key key) keys

-- the key or its wider key is one of these keys
abbrev pub has_key : List CapKey → Option CapKey → Bool
has_key keys key = has_same keys key || has_same keys (option_and_then wider_key key)

-- the keys have the key of each capability
abbrev pub have_keys : List CapKey → List Capability → Bool
have_keys keys capabilities = list_all (λ c. has_key keys (key_of c)) capabilities

-- the keys in order, without doubles
abbrev pub ordered : List CapKey → List CapKey
ordered ks = keys (from_entries {R = key_cmp} (map (λ k. (k, true)) ks))

-- the keys of capabilities, in order and without doubles
abbrev pub keys_of : List Capability → List CapKey
keys_of capabilities = ordered (filter_map key_of capabilities)
