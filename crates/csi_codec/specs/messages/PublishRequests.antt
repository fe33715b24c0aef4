-- `ControllerPublishVolumeRequest` and `ControllerUnpublishVolumeRequest` (CSI specification, csi.proto):
-- what the fields mean, which field numbers have texts and embedded messages, and how a value is written.
use Rattle.pbmessage.specs.Views.{Views, text, flag, inner, text_map, value_of}
use Rattle.pbmessage.specs.Schema.{Schema, AnyPayload, TextAt, MessageAt, map_entry_schema}
use Rattle.pbmessage.specs.Canon.{Rows, Start, ◌▸◌, text_row, flag_row, option_row, map_row, FitsText, FitsOption, FitsMap}
use Rattle.csi_types.specs.declared.requests.Publish.{Publish}
use Rattle.csi_types.specs.declared.requests.Unpublish.{Unpublish}
use Rattle.csi_codec.specs.messages.Capability.{capability_in, capability_schema, canon_capability, FitsCapability}

-- ---- ControllerPublishVolumeRequest { volume_id 1, node_id 2, volume_capability 3, readonly 4, secrets 5,
-- volume_context 6 }

abbrev pub publish_in : Views → Publish
publish_in v = record {
  volume_id = text (v.payloads 1);
  node_id = text (v.payloads 2);
  capability = inner (value_of capability_in) (v.payloads 3);
  readonly = flag (v.numbers 4);
  secrets = text_map (v.payloads 5);
  context = text_map (v.payloads 6);
}

abbrev pub publish_schema : Schema
publish_schema = TextAt 1 (TextAt 2 (MessageAt 3 capability_schema (MessageAt 5 map_entry_schema (MessageAt 6 map_entry_schema AnyPayload))))

abbrev pub canon_publish : Publish → Rows
canon_publish v = Start ▸ text_row 1 v.volume_id ▸ text_row 2 v.node_id ▸ option_row canon_capability 3 v.capability ▸ flag_row 4 v.readonly ▸ map_row
    5 v.secrets ▸ map_row 6 v.context

abbrev pub FitsPublish : Publish → Type 0
FitsPublish v = FitsText v.volume_id × FitsText v.node_id × FitsOption FitsCapability canon_capability v.capability × FitsMap v.secrets × FitsMap v.context

-- ---- ControllerUnpublishVolumeRequest { volume_id 1, node_id 2, secrets 3 }

abbrev pub unpublish_in : Views → Unpublish
unpublish_in v = record { volume_id = text (v.payloads 1); node_id = text (v.payloads 2); secrets = text_map (v.payloads 3) }

abbrev pub unpublish_schema : Schema
unpublish_schema = TextAt 1 (TextAt 2 (MessageAt 3 map_entry_schema AnyPayload))

abbrev pub canon_unpublish : Unpublish → Rows
canon_unpublish v = Start ▸ text_row 1 v.volume_id ▸ text_row 2 v.node_id ▸ map_row 3 v.secrets

abbrev pub FitsUnpublish : Unpublish → Type 0
FitsUnpublish v = FitsText v.volume_id × FitsText v.node_id × FitsMap v.secrets
