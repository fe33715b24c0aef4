-- Responses of several fields (CSI specification, csi.proto): what the fields mean, which field numbers have
-- texts and embedded messages, and how a value is written.
use Rattle.pbmessage.specs.Views.{Views, text, i64, inner, messages, value_of}
use Rattle.pbmessage.specs.Schema.{Schema, AnyPayload, TextAt, MessageAt}
use Rattle.pbmessage.specs.Canon.{Rows, Start, ◌▸◌, text_row, signed_row, option_row, messages_row, FitsText, FitsI64, FitsOption, FitsMessages}
use Rattle.csi_codec.specs.declared.messages.responses.PluginInfo.{PluginInfo}
use Rattle.csi_codec.specs.declared.messages.responses.Validation.{Validation}
use Rattle.csi_codec.specs.declared.messages.responses.Listing.{Listing}
use Rattle.csi_codec.specs.declared.messages.responses.FreeCapacity.{FreeCapacity}
use Rattle.csi_codec.specs.messages.Single.{int64_value_in, canon_number}
use Rattle.csi_codec.specs.messages.Volume.{entry_in, entry_schema, canon_entry, FitsEntry, confirmed_in, confirmed_schema, canon_confirmed, FitsConfirmed}

-- ---- GetPluginInfoResponse { name 1, vendor_version 2 }

abbrev pub info_in : Views → PluginInfo
info_in v = record { name = text (v.payloads 1); version = text (v.payloads 2) }

abbrev pub info_schema : Schema
info_schema = TextAt 1 (TextAt 2 AnyPayload)

abbrev pub canon_info : PluginInfo → Rows
canon_info r = Start ▸ text_row 1 r.name ▸ text_row 2 r.version

abbrev pub FitsInfo : PluginInfo → Type 0
FitsInfo r = FitsText r.name × FitsText r.version

-- ---- ValidateVolumeCapabilitiesResponse { confirmed 1, message 2 }

abbrev pub validation_in : Views → Validation
validation_in v = record { confirmed = inner (value_of confirmed_in) (v.payloads 1); message = text (v.payloads 2) }

abbrev pub validation_schema : Schema
validation_schema = MessageAt 1 confirmed_schema (TextAt 2 AnyPayload)

abbrev pub canon_validation : Validation → Rows
canon_validation r = Start ▸ option_row canon_confirmed 1 r.confirmed ▸ text_row 2 r.message

abbrev pub FitsValidation : Validation → Type 0
FitsValidation r = FitsOption FitsConfirmed canon_confirmed r.confirmed × FitsText r.message

-- ---- ListVolumesResponse { entries 1, next_token 2 }

abbrev pub listing_in : Views → Listing
listing_in v = record { entries = messages (value_of entry_in) (v.payloads 1); token = text (v.payloads 2) }

abbrev pub listing_schema : Schema
listing_schema = MessageAt 1 entry_schema (TextAt 2 AnyPayload)

abbrev pub canon_listing : Listing → Rows
canon_listing r = Start ▸ messages_row canon_entry 1 r.entries ▸ text_row 2 r.token

abbrev pub FitsListing : Listing → Type 0
FitsListing r = FitsMessages FitsEntry canon_entry r.entries × FitsText r.token

-- ---- GetCapacityResponse { available_capacity 1, maximum_volume_size 2 }

abbrev pub free_in : Views → FreeCapacity
free_in v = record { available = i64 (v.numbers 1); maximum = inner (value_of int64_value_in) (v.payloads 2) }

abbrev pub free_schema : Schema
free_schema = MessageAt 2 AnyPayload AnyPayload

abbrev pub canon_free : FreeCapacity → Rows
canon_free r = Start ▸ signed_row 1 r.available ▸ option_row canon_number 2 r.maximum

abbrev pub FitsFree : FreeCapacity → Type 0
FitsFree r = FitsI64 r.available × FitsOption FitsI64 canon_number r.maximum
