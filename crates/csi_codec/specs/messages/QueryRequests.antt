-- `ValidateVolumeCapabilitiesRequest`, `ListVolumesRequest` and `GetCapacityRequest` (CSI specification,
-- csi.proto): what the fields mean, which field numbers have texts and embedded messages, and how a value is
-- written.
use Rattle.pbmessage.specs.Views.{Views, text, i32, inner, messages, text_map, value_of}
use Rattle.pbmessage.specs.Schema.{Schema, AnyPayload, TextAt, MessageAt, map_entry_schema}
use Rattle.pbmessage.specs.Canon.{Rows, Start, ◌▸◌, text_row, signed_row, option_row, messages_row, map_row, FitsText, FitsI32, FitsOption, FitsMap}
use Rattle.csi_types.specs.declared.requests.Validate.{Validate}
use Rattle.csi_types.specs.declared.requests.ListVolumes.{ListVolumes}
use Rattle.csi_types.specs.declared.requests.GetCapacity.{GetCapacity}
use Rattle.csi_codec.specs.messages.Capability.{capability_in, capability_schema, canon_capability, FitsCapabilities}
use Rattle.csi_codec.specs.messages.Topology.{map_in, map_schema, canon_map}

-- ---- ValidateVolumeCapabilitiesRequest { volume_id 1, volume_context 2, volume_capabilities 3, parameters
-- 4, secrets 5 }

abbrev pub validate_in : Views → Validate
validate_in v = record {
  volume_id = text (v.payloads 1);
  context = text_map (v.payloads 2);
  capabilities = messages (value_of capability_in) (v.payloads 3);
  parameters = text_map (v.payloads 4);
  secrets = text_map (v.payloads 5);
}

abbrev pub validate_schema : Schema
validate_schema = TextAt 1 (MessageAt 2 map_entry_schema
    (MessageAt 3 capability_schema (MessageAt 4 map_entry_schema (MessageAt 5 map_entry_schema AnyPayload))))

abbrev pub canon_validate : Validate → Rows
canon_validate v = Start ▸ text_row 1 v.volume_id ▸ map_row 2 v.context ▸ messages_row canon_capability 3 v.capabilities ▸ map_row 4 v.parameters ▸
    map_row 5 v.secrets

abbrev pub FitsValidate : Validate → Type 0
FitsValidate v = FitsText v.volume_id × FitsMap v.context × FitsCapabilities v.capabilities × FitsMap v.parameters × FitsMap v.secrets

-- ---- ListVolumesRequest { max_entries 1, starting_token 2 }

abbrev pub list_in : Views → ListVolumes
list_in v = record { max_entries = i32 (v.numbers 1); token = text (v.payloads 2) }

abbrev pub list_schema : Schema
list_schema = TextAt 2 AnyPayload

abbrev pub canon_list : ListVolumes → Rows
canon_list v = Start ▸ signed_row 1 v.max_entries ▸ text_row 2 v.token

abbrev pub FitsList : ListVolumes → Type 0
FitsList v = FitsI32 v.max_entries × FitsText v.token

-- ---- GetCapacityRequest { volume_capabilities 1, parameters 2, accessible_topology 3 }

abbrev pub capacity_in : Views → GetCapacity
capacity_in v = record {
  capabilities = messages (value_of capability_in) (v.payloads 1);
  parameters = text_map (v.payloads 2);
  topology = inner (value_of map_in) (v.payloads 3);
}

abbrev pub capacity_schema : Schema
capacity_schema = MessageAt 1 capability_schema (MessageAt 2 map_entry_schema (MessageAt 3 map_schema AnyPayload))

abbrev pub canon_capacity : GetCapacity → Rows
canon_capacity v = Start ▸ messages_row canon_capability 1 v.capabilities ▸ map_row 2 v.parameters ▸ option_row canon_map 3 v.topology

abbrev pub FitsCapacity : GetCapacity → Type 0
FitsCapacity v = FitsCapabilities v.capabilities × FitsMap v.parameters × FitsOption FitsMap canon_map v.topology
