-- Messages of one field or of none (CSI specification, csi.proto): what the fields mean, which field numbers
-- have texts and embedded messages, and how a value is written.
use Rattle.std.specs.Prelude.{ℤ, Bool, List, Option}
use Rattle.csi_codec.specs.declared.messages.values.NoFields.{NoFields}
use Rattle.pbmessage.specs.Views.{Views, i64, i32, flag, inner, messages, value_of}
use Rattle.pbmessage.specs.Schema.{Schema, AnyPayload, MessageAt}
use Rattle.pbmessage.specs.Canon.{Rows, Start, ◌▸◌, signed_row, flag_row, option_row, messages_row, FitsI32, FitsOption, FitsMessages}

-- ---- messages without known fields

abbrev pub nothing_in : Views → NoFields
nothing_in v = record {}

-- ---- messages of one number: google.protobuf.BoolValue and Int64Value { value 1 }, AccessMode { mode 1 },
-- PluginCapability.Service and ControllerServiceCapability.RPC { type 1 }

abbrev pub bool_value_in : Views → Bool
bool_value_in v = flag (v.numbers 1)

abbrev pub canon_bool_value : Bool → Rows
canon_bool_value b = Start ▸ flag_row 1 b

abbrev pub FitsBoolValue : Bool → Type 0
FitsBoolValue b = Unit {0}

abbrev pub int64_value_in : Views → ℤ
int64_value_in v = i64 (v.numbers 1)

abbrev pub enum_value_in : Views → ℤ
enum_value_in v = i32 (v.numbers 1)

abbrev pub canon_number : ℤ → Rows
canon_number z = Start ▸ signed_row 1 z

-- ---- messages of one embedded message, number 1: ProbeResponse { ready }, CreateVolumeResponse { volume },
-- PluginCapability { service }, ControllerServiceCapability { rpc }

abbrev pub only_in : {V : Type 0} → (Views → V) → Views → Option V
only_in of v = inner (value_of of) (v.payloads 1)

abbrev pub only_schema : Schema → Schema
only_schema schema = MessageAt 1 schema AnyPayload

abbrev pub canon_only : {V : Type 0} → (V → Rows) → Option V → Rows
canon_only canon o = Start ▸ option_row canon 1 o

-- ---- lists of capabilities: GetPluginCapabilitiesResponse and ControllerGetCapabilitiesResponse {
-- capabilities 1 }

abbrev pub types_in : Views → List (Option ℤ)
types_in v = messages (value_of (only_in enum_value_in)) (v.payloads 1)

abbrev pub types_schema : Schema
types_schema = MessageAt 1 (only_schema AnyPayload) AnyPayload

abbrev pub canon_types : List (Option ℤ) → Rows
canon_types os = Start ▸ messages_row (canon_only canon_number) 1 os

abbrev pub FitsType : Option ℤ → Type 0
FitsType o = FitsOption FitsI32 canon_number o

abbrev pub FitsTypes : List (Option ℤ) → Type 0
FitsTypes os = FitsMessages FitsType (canon_only canon_number) os
