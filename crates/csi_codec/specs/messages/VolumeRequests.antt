-- `CreateVolumeRequest`, `DeleteVolumeRequest` and `ControllerModifyVolumeRequest` (CSI specification,
-- csi.proto): what the fields mean, which field numbers have texts and embedded messages, and how a value is
-- written.
use Rattle.pbmessage.specs.Views.{Views, text, inner, messages, text_map, value_of, is_present}
use Rattle.pbmessage.specs.Schema.{Schema, AnyPayload, TextAt, MessageAt, map_entry_schema}
use Rattle.pbmessage.specs.Canon.{Rows, Start, ◌▸◌, text_row, option_row, messages_row, map_row, FitsText, FitsOption, FitsMap, presence_row}
use Rattle.csi_types.specs.declared.requests.CreateVolume.{CreateVolume}
use Rattle.csi_types.specs.declared.requests.DeleteVolume.{DeleteVolume}
use Rattle.csi_types.specs.declared.requests.Modify.{Modify}
use Rattle.csi_codec.specs.messages.Capacity.{range_in, canon_range, FitsRange}
use Rattle.csi_codec.specs.messages.Capability.{capability_in, capability_schema, canon_capability, FitsCapabilities}
use Rattle.csi_codec.specs.messages.Topology.{requirement_in, requirement_schema, canon_requirement, FitsRequirement}

-- ---- CreateVolumeRequest { name 1, capacity_range 2, volume_capabilities 3, parameters 4, secrets 5,
-- volume_content_source 6, accessibility_requirements 7, mutable_parameters 8 }

abbrev pub create_in : Views → CreateVolume
create_in v = record {
  name = text (v.payloads 1);
  range = inner (value_of range_in) (v.payloads 2);
  capabilities = messages (value_of capability_in) (v.payloads 3);
  parameters = text_map (v.payloads 4);
  secrets = text_map (v.payloads 5);
  source = is_present (v.payloads 6);
  topology = inner (value_of requirement_in) (v.payloads 7);
  mutable = text_map (v.payloads 8);
}

abbrev pub create_schema : Schema
create_schema = TextAt 1 (MessageAt 2 AnyPayload
    (MessageAt 3 capability_schema (MessageAt 4 map_entry_schema
    (MessageAt 5 map_entry_schema (MessageAt 6 AnyPayload (MessageAt 7 requirement_schema (MessageAt 8 map_entry_schema AnyPayload)))))))

abbrev pub canon_create : CreateVolume → Rows
canon_create v = Start ▸ text_row 1 v.name ▸ option_row canon_range 2 v.range ▸ messages_row canon_capability 3 v.capabilities ▸ map_row 4
    v.parameters ▸ map_row 5 v.secrets ▸ presence_row 6 v.source ▸ option_row canon_requirement 7 v.topology ▸ map_row 8 v.mutable

abbrev pub FitsCreate : CreateVolume → Type 0
FitsCreate v = FitsText v.name × FitsOption FitsRange canon_range v.range × FitsCapabilities v.capabilities × FitsMap v.parameters × FitsMap v.secrets
    × FitsOption FitsRequirement canon_requirement v.topology × FitsMap v.mutable

-- ---- DeleteVolumeRequest { volume_id 1, secrets 2 }

abbrev pub delete_in : Views → DeleteVolume
delete_in v = record { volume_id = text (v.payloads 1); secrets = text_map (v.payloads 2) }

abbrev pub delete_schema : Schema
delete_schema = TextAt 1 (MessageAt 2 map_entry_schema AnyPayload)

abbrev pub canon_delete : DeleteVolume → Rows
canon_delete v = Start ▸ text_row 1 v.volume_id ▸ map_row 2 v.secrets

abbrev pub FitsDelete : DeleteVolume → Type 0
FitsDelete v = FitsText v.volume_id × FitsMap v.secrets

-- ---- ControllerModifyVolumeRequest { volume_id 1, secrets 2, mutable_parameters 3 }

abbrev pub modify_in : Views → Modify
modify_in v = record { volume_id = text (v.payloads 1); secrets = text_map (v.payloads 2); mutable = text_map (v.payloads 3) }

abbrev pub modify_schema : Schema
modify_schema = TextAt 1 (MessageAt 2 map_entry_schema (MessageAt 3 map_entry_schema AnyPayload))

abbrev pub canon_modify : Modify → Rows
canon_modify v = Start ▸ text_row 1 v.volume_id ▸ map_row 2 v.secrets ▸ map_row 3 v.mutable

abbrev pub FitsModify : Modify → Type 0
FitsModify v = FitsText v.volume_id × FitsMap v.secrets × FitsMap v.mutable
