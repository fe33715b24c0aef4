-- The checks of a request's arguments: what each call requires of its fields (CSI specification, the section
-- of each call, and 'Size Limits'). The answer is the first line of the table that is true.
use Rattle.std.specs.Prelude.{ℕ, ℤ, pos, negsuc, ◌+◌, ◌==◌, Bool, true, false, not, ◌||◌, ◌&&◌, nat_lt, nat_le, List, [], ◌∷◌, ◌++◌, length, sum_by}
use Rattle.std.specs.Prelude.{Option, None, Some, option_to_list}
use Rattle.std.specs.FinMap.{entries, len}
use Rattle.std.specs.List.{list_any}
use Rattle.csi_types.specs.declared.capability.Access.{Access}
use Rattle.csi_types.specs.declared.capability.Access.TheVariants as access
use Rattle.csi_types.specs.declared.capability.Capability.{Capability}
use Rattle.csi_types.specs.declared.capability.Mount.{Mount}
use Rattle.csi_types.specs.declared.capacity.CapacityRange.{CapacityRange}
use Rattle.csi_types.specs.declared.limits.TheConstants.{MAX_ACCESS_MODE, MAX_TEXT_BYTES, MAX_NODE_ID_BYTES, MAX_MOUNT_FLAGS_BYTES, MAX_MAP_BYTES}
use Rattle.csi_types.specs.declared.reason.Reason.{Reason}
use Rattle.csi_types.specs.declared.reason.Reason.TheVariants.{NameMissing, NameTooLong, NameBanned, CapabilityMissing, AccessTypeMissing}
use Rattle.csi_types.specs.declared.reason.Reason.TheVariants.{AccessModeUnknown, CapabilityNotSupported, CapacityNegative, MapTooLarge, TextTooLong}
use Rattle.csi_types.specs.declared.reason.Reason.TheVariants.{SourceNotSupported, TopologyKeysAlike, PreferredNotRequisite, VolumeIdMissing}
use Rattle.csi_types.specs.declared.reason.Reason.TheVariants.{NodeIdMissing, MaxEntriesNegative, MutableMissing}
use Rattle.csi_types.specs.declared.requests.Request.{Request}
use Rattle.csi_types.specs.declared.requests.Request.TheVariants.{PluginInfo, PluginCapabilities, Probe, ControllerCapabilities, Create, Delete}
use Rattle.csi_types.specs.declared.requests.Request.TheVariants.{Publish, Unpublish, Validate, List as Listing, Capacity, Modify}
use Rattle.csi_types.specs.declared.topology.Requirement.{Requirement}
use Rattle.csi_types.specs.Lines.{first_line}
use Rattle.csi_types.specs.Maps.{TextMap}
use Rattle.csi_types.specs.Names.{is_empty, longer_than, holds_banned}
use Rattle.csi_types.specs.Topology.{has_alike_keys, same_topology}

-- Capabilities

-- a mode is given, and is one of SINGLE_NODE_WRITER 1, SINGLE_NODE_READER_ONLY 2, MULTI_NODE_READER_ONLY 3,
-- MULTI_NODE_SINGLE_WRITER 4, MULTI_NODE_MULTI_WRITER 5, SINGLE_NODE_SINGLE_WRITER 6,
-- SINGLE_NODE_MULTI_WRITER 7
abbrev pub is_known_mode : Option ℤ → Bool
is_known_mode None = false
is_known_mode (Some (pos mode)) = nat_lt 0 mode && nat_le mode MAX_ACCESS_MODE
is_known_mode (Some (negsuc n)) = false

-- a node may write while others have the volume: MULTI_NODE_SINGLE_WRITER 4, MULTI_NODE_MULTI_WRITER 5
abbrev pub is_multi_node_writer : Option ℤ → Bool
is_multi_node_writer None = false
is_multi_node_writer (Some (pos mode)) = mode == 4 || mode == 5
is_multi_node_writer (Some (negsuc n)) = false

-- true if the access is supported: block with each known mode, mount with each mode that lets no node write
-- while others have the volume
abbrev pub is_supported_access : Access → Option ℤ → Bool
is_supported_access access.Missing mode = false
is_supported_access access.Block mode = is_known_mode mode
is_supported_access (access.Mount m) mode = is_known_mode mode && not (is_multi_node_writer mode)

abbrev pub is_supported : Capability → Bool
is_supported c = is_supported_access c.access c.mode

abbrev pub is_missing : Access → Bool
is_missing access.Missing = true
is_missing access.Block = false
is_missing (access.Mount m) = false

-- Sizes

abbrev pub is_negative : ℤ → Bool
is_negative (pos n) = false
is_negative (negsuc n) = true

abbrev pub is_negative_range : CapacityRange → Bool
is_negative_range range = is_negative range.required || is_negative range.limit

-- the number of bytes of all keys and values
abbrev pub map_bytes : TextMap → ℕ
map_bytes m = sum_by (λ e. length e.0 + length e.1) (entries m)

-- the number of bytes of all flags of a mount
abbrev pub flags_bytes : Mount → ℕ
flags_bytes m = sum_by length m.flags

-- a mount whose file system, group or flags are above their limit
abbrev pub is_long_access : Access → Bool
is_long_access access.Missing = false
is_long_access access.Block = false
is_long_access (access.Mount m) =
    longer_than MAX_TEXT_BYTES m.fs_type || longer_than MAX_TEXT_BYTES m.group || nat_lt MAX_MOUNT_FLAGS_BYTES (flags_bytes m)

-- Topologies

-- all topologies of a requirement
abbrev pub terms : Option Requirement → List TextMap
terms None = []
terms (Some r) = r.requisite ++ r.preferred

-- there is a requisite topology, and some preferred topology is not among them
abbrev pub prefers_another : Requirement → Bool
prefers_another r = not (is_empty r.requisite) && list_any (λ p. not (list_any (same_topology p) r.requisite)) r.preferred

-- The parts of a request that the lines of the table look at.

pub record Parts : Type 0 where
  pub names : List (List ℕ)
  -- the list of capabilities of a call that must give at least one
  pub required_capabilities : List (List Capability)
  pub capabilities : List Capability
  -- the capabilities of a volume that is to be made
  pub created_capabilities : List Capability
  pub ranges : List CapacityRange
  pub requirements : List Requirement
  pub topologies : List TextMap
  -- all maps: parameters, mutable parameters, secrets, contexts and topologies
  pub maps : List TextMap
  -- the mutable parameters of a call that must give some
  pub required_maps : List TextMap
  pub volume_ids : List (List ℕ)
  pub node_ids : List (List ℕ)
  -- the node id of a call that must give one
  pub required_node_ids : List (List ℕ)
  pub tokens : List (List ℕ)
  pub most_entries : List ℤ
  pub has_source : Bool

abbrev pub no_parts : Parts
no_parts = record {
  names = [];
  required_capabilities = [];
  capabilities = [];
  created_capabilities = [];
  ranges = [];
  requirements = [];
  topologies = [];
  maps = [];
  required_maps = [];
  volume_ids = [];
  node_ids = [];
  required_node_ids = [];
  tokens = [];
  most_entries = [];
  has_source = false;
}

abbrev pub parts : Request → Parts
parts PluginInfo = no_parts
parts PluginCapabilities = no_parts
parts Probe = no_parts
parts ControllerCapabilities = no_parts
parts (Create r) = record no_parts {
  names = r.name ∷ [];
  required_capabilities = r.capabilities ∷ [];
  capabilities = r.capabilities;
  created_capabilities = r.capabilities;
  ranges = option_to_list r.range;
  requirements = option_to_list r.topology;
  topologies = terms r.topology;
  maps = r.parameters ∷ r.secrets ∷ r.mutable ∷ terms r.topology;
  has_source = r.source;
}
parts (Delete r) = record no_parts { volume_ids = r.volume_id ∷ []; maps = r.secrets ∷ [] }
parts (Publish r) = record no_parts {
  required_capabilities = option_to_list r.capability ∷ [];
  capabilities = option_to_list r.capability;
  maps = r.secrets ∷ r.context ∷ [];
  volume_ids = r.volume_id ∷ [];
  node_ids = r.node_id ∷ [];
  required_node_ids = r.node_id ∷ [];
}
parts (Unpublish r) = record no_parts {
  maps = r.secrets ∷ [];
  volume_ids = r.volume_id ∷ [];
  node_ids = r.node_id ∷ [];
}
parts (Validate r) = record no_parts {
  required_capabilities = r.capabilities ∷ [];
  capabilities = r.capabilities;
  maps = r.context ∷ r.parameters ∷ r.secrets ∷ [];
  volume_ids = r.volume_id ∷ [];
}
parts (Listing r) = record no_parts { tokens = r.token ∷ []; most_entries = r.max_entries ∷ [] }
parts (Capacity r) = record no_parts {
  capabilities = r.capabilities;
  topologies = option_to_list r.topology;
  maps = r.parameters ∷ option_to_list r.topology;
}
parts (Modify r) = record no_parts {
  maps = r.secrets ∷ r.mutable ∷ [];
  required_maps = r.mutable ∷ [];
  volume_ids = r.volume_id ∷ [];
}

-- The table: the first line that is true is answered.

abbrev pub lines : List (Reason × (Parts → Bool))
lines =
    (NameMissing, λ p. list_any is_empty p.names)
    ∷ (NameTooLong, λ p. list_any (longer_than MAX_TEXT_BYTES) p.names)
    ∷ (NameBanned, λ p. list_any holds_banned p.names)
    ∷ (CapabilityMissing, λ p. list_any is_empty p.required_capabilities)
    ∷ (AccessTypeMissing, λ p. list_any (λ c. is_missing c.access) p.capabilities)
    ∷ (AccessModeUnknown, λ p. list_any (λ c. not (is_known_mode c.mode)) p.capabilities)
    ∷ (CapabilityNotSupported, λ p. list_any (λ c. not (is_supported c)) p.created_capabilities)
    ∷ (CapacityNegative, λ p. list_any is_negative_range p.ranges)
    ∷ (MapTooLarge, λ p. list_any (λ m. nat_lt MAX_MAP_BYTES (map_bytes m)) p.maps)
    ∷ (
      TextTooLong,
      λ p.
          list_any (longer_than MAX_TEXT_BYTES) (p.volume_ids ++ p.tokens)
          || list_any (longer_than MAX_NODE_ID_BYTES) p.node_ids
          || list_any (λ c. is_long_access c.access) p.capabilities,
    )
    ∷ (SourceNotSupported, λ p. p.has_source)
    ∷ (TopologyKeysAlike, λ p. list_any has_alike_keys p.topologies)
    ∷ (PreferredNotRequisite, λ p. list_any prefers_another p.requirements)
    ∷ (VolumeIdMissing, λ p. list_any is_empty p.volume_ids)
    ∷ (NodeIdMissing, λ p. list_any is_empty p.required_node_ids)
    ∷ (MaxEntriesNegative, λ p. list_any is_negative p.most_entries)
    ∷ (MutableMissing, λ p. list_any (λ m. len m == 0) p.required_maps)
    ∷ []

-- the reason why a request is refused, if it is refused
unfoldable pub checked : Request → Option Reason
checked request = first_line lines (parts request)
