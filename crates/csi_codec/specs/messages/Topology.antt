-- `Topology` and `TopologyRequirement` (CSI specification, csi.proto): what the fields mean, which field
-- numbers have texts and embedded messages, and how a value is written.
use Rattle.std.specs.Prelude.{List}
use Rattle.csi_types.specs.declared.topology.Requirement.{Requirement}
use Rattle.csi_types.specs.Maps.{TextMap}
use Rattle.pbmessage.specs.Views.{Views, messages, text_map, value_of}
use Rattle.pbmessage.specs.Schema.{Schema, AnyPayload, MessageAt, map_entry_schema}
use Rattle.pbmessage.specs.Canon.{Rows, Start, ◌▸◌, messages_row, map_row, FitsMessages, FitsMap}

-- ---- Topology { segments 1 }, and of the same form ControllerPublishVolumeResponse { publish_context 1 }

abbrev pub map_in : Views → TextMap
map_in v = text_map (v.payloads 1)

abbrev pub map_schema : Schema
map_schema = MessageAt 1 map_entry_schema AnyPayload

abbrev pub canon_map : TextMap → Rows
canon_map m = Start ▸ map_row 1 m

abbrev pub FitsTerms : List TextMap → Type 0
FitsTerms ts = FitsMessages FitsMap canon_map ts

-- ---- TopologyRequirement { requisite 1, preferred 2 }

abbrev pub requirement_in : Views → Requirement
requirement_in v = record { requisite = messages (value_of map_in) (v.payloads 1); preferred = messages (value_of map_in) (v.payloads 2) }

abbrev pub requirement_schema : Schema
requirement_schema = MessageAt 1 map_schema (MessageAt 2 map_schema AnyPayload)

abbrev pub canon_requirement : Requirement → Rows
canon_requirement r = Start ▸ messages_row canon_map 1 r.requisite ▸ messages_row canon_map 2 r.preferred

abbrev pub FitsRequirement : Requirement → Type 0
FitsRequirement r = FitsTerms r.requisite × FitsTerms r.preferred
