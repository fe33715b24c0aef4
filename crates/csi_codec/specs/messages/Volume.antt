-- `Volume`, and the messages about volumes in responses (CSI specification, csi.proto): what the fields mean,
-- which field numbers have texts and embedded messages, and how a value is written.
use Rattle.std.specs.Prelude.{ℕ, List, [], ◌∷◌}
use Rattle.csi_types.specs.declared.volume.VolumeInfo.{VolumeInfo}
use Rattle.csi_types.specs.declared.volume.Entry.{Entry}
use Rattle.csi_types.specs.declared.volume.Confirmed.{Confirmed}
use Rattle.csi_types.specs.Maps.{TextMap}
use Rattle.pbmessage.specs.Views.{Views, text, i64, inner, messages, text_map, value_of}
use Rattle.pbmessage.specs.Schema.{Schema, AnyPayload, TextAt, MessageAt, map_entry_schema}
use Rattle.pbmessage.specs.Canon.{Rows, Start, ◌▸◌, bytes_of, text_row, texts_row, signed_row, option_row, messages_row, map_row, FitsText, FitsTexts}
use Rattle.pbmessage.specs.Canon.{FitsI64, FitsOption, FitsMap}
use Rattle.csi_codec.specs.messages.Capability.{capability_in, capability_schema, canon_capability, FitsCapabilities}
use Rattle.csi_codec.specs.messages.Topology.{map_in, map_schema, canon_map, FitsTerms}

-- ---- Volume { capacity_bytes 1, volume_id 2, volume_context 3, accessible_topology 5 }

abbrev pub volume_in : Views → VolumeInfo
volume_in v = record {
  bytes = i64 (v.numbers 1);
  id = text (v.payloads 2);
  context = text_map (v.payloads 3);
  topology = messages (value_of map_in) (v.payloads 5);
}

abbrev pub volume_schema : Schema
volume_schema = TextAt 2 (MessageAt 3 map_entry_schema (MessageAt 5 map_schema AnyPayload))

abbrev pub canon_volume : VolumeInfo → Rows
canon_volume v = Start ▸ signed_row 1 v.bytes ▸ text_row 2 v.id ▸ map_row 3 v.context ▸ messages_row canon_map 5 v.topology

abbrev pub FitsVolume : VolumeInfo → Type 0
FitsVolume v = FitsI64 v.bytes × FitsText v.id × FitsMap v.context × FitsTerms v.topology

-- the fields of a volume that come from its pool
abbrev pub placement_bytes : TextMap → List TextMap → List ℕ
placement_bytes context topology = bytes_of (Start ▸ map_row 3 context ▸ messages_row canon_map 5 topology)

-- the status (field 2 of an entry) of a volume that is published nowhere
abbrev pub no_nodes : List ℕ
no_nodes = 18 ∷ 0 ∷ []

-- ---- ListVolumesResponse.VolumeStatus { published_node_ids 1 }

abbrev pub nodes_in : Views → List (List ℕ)
nodes_in v = v.payloads 1

abbrev pub nodes_schema : Schema
nodes_schema = TextAt 1 AnyPayload

abbrev pub canon_nodes : List (List ℕ) → Rows
canon_nodes ts = Start ▸ texts_row 1 ts

-- ---- ListVolumesResponse.Entry { volume 1, status 2 }

abbrev pub entry_in : Views → Entry
entry_in v = record { volume = inner (value_of volume_in) (v.payloads 1); nodes = inner (value_of nodes_in) (v.payloads 2) }

abbrev pub entry_schema : Schema
entry_schema = MessageAt 1 volume_schema (MessageAt 2 nodes_schema AnyPayload)

abbrev pub canon_entry : Entry → Rows
canon_entry e = Start ▸ option_row canon_volume 1 e.volume ▸ option_row canon_nodes 2 e.nodes

abbrev pub FitsEntry : Entry → Type 0
FitsEntry e = FitsOption FitsVolume canon_volume e.volume × FitsOption FitsTexts canon_nodes e.nodes

-- ---- ValidateVolumeCapabilitiesResponse.Confirmed { volume_context 1, volume_capabilities 2, parameters 3 }

abbrev pub confirmed_in : Views → Confirmed
confirmed_in v = record {
  context = text_map (v.payloads 1);
  capabilities = messages (value_of capability_in) (v.payloads 2);
  parameters = text_map (v.payloads 3);
}

abbrev pub confirmed_schema : Schema
confirmed_schema = MessageAt 1 map_entry_schema (MessageAt 2 capability_schema (MessageAt 3 map_entry_schema AnyPayload))

abbrev pub canon_confirmed : Confirmed → Rows
canon_confirmed c = Start ▸ map_row 1 c.context ▸ messages_row canon_capability 2 c.capabilities ▸ map_row 3 c.parameters

abbrev pub FitsConfirmed : Confirmed → Type 0
FitsConfirmed c = FitsMap c.context × FitsCapabilities c.capabilities × FitsMap c.parameters
