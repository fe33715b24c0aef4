-- `VolumeCapability` and its `MountVolume` (CSI specification, csi.proto): what the fields mean, which field
-- numbers have texts and embedded messages, and how a value is written.
use Rattle.std.specs.Prelude.{ℕ, Bool, List, [], ◌∷◌, Option, Some, None, ◌==◌, ◌||◌, if◌then◌else◌}
use Rattle.csi_types.specs.declared.capability.Mount.{Mount}
use Rattle.csi_types.specs.declared.capability.Access.{Access}
use Rattle.csi_types.specs.declared.capability.Access.TheVariants as variants
use Rattle.csi_types.specs.declared.capability.Capability.{Capability}
use Rattle.pbmessage.specs.Views.{Payloads, Views, text, joined, inner, one_of, value_of}
use Rattle.pbmessage.specs.Schema.{Schema, AnyPayload, TextAt, MessageAt}
use Rattle.pbmessage.specs.Canon.{Rows, Start, ◌▸◌, Strings, bytes_of, text_row, texts_row, option_row, FitsText, FitsTexts, FitsI32, FitsInner}
use Rattle.pbmessage.specs.Canon.{FitsOption, FitsMessages}
use Rattle.csi_codec.specs.messages.Single.{enum_value_in, canon_number}

-- ---- VolumeCapability.MountVolume { fs_type 1, mount_flags 2, volume_mount_group 3 }

abbrev pub mount_in : Views → Mount
mount_in v = record { fs_type = text (v.payloads 1); flags = v.payloads 2; group = text (v.payloads 3) }

abbrev pub mount_schema : Schema
mount_schema = TextAt 1 (TextAt 2 (TextAt 3 AnyPayload))

abbrev pub canon_mount : Mount → Rows
canon_mount m = Start ▸ text_row 1 m.fs_type ▸ texts_row 2 m.flags ▸ text_row 3 m.group

abbrev pub FitsMount : Mount → Type 0
FitsMount m = FitsText m.fs_type × FitsTexts m.flags × FitsText m.group

-- ---- VolumeCapability { oneof access_type { block 1, mount 2 }, access_mode 3 }

-- the field numbers of the oneof
abbrev pub is_access : ℕ → Bool
is_access n = n == 1 || n == 2

-- the access, from the last member of the oneof and its payloads: 1 is block, and 2 is mount
abbrev pub access : Option (ℕ × Payloads) → Access
access None = variants.Missing
access (Some run) = if run.0 == 1 then variants.Block else if run.0 == 2 then variants.Mount (value_of mount_in (joined run.1)) else variants.Missing

abbrev pub capability_in : Views → Capability
capability_in v = record { access = access (one_of (v.members is_access)); mode = inner (value_of enum_value_in) (v.payloads 3) }

abbrev pub capability_schema : Schema
capability_schema = MessageAt 1 AnyPayload (MessageAt 2 mount_schema (MessageAt 3 AnyPayload AnyPayload))

abbrev pub canon_access : Access → Rows
canon_access variants.Missing = Start
canon_access variants.Block = Start ▸ Strings 1 ([] ∷ [])
canon_access (variants.Mount m) = Start ▸ Strings 2 (bytes_of (canon_mount m) ∷ [])

abbrev pub canon_capability : Capability → Rows
canon_capability c = canon_access c.access ▸ option_row canon_number 3 c.mode

abbrev pub FitsAccess : Access → Type 0
FitsAccess variants.Missing = Unit {0}
FitsAccess variants.Block = Unit {0}
FitsAccess (variants.Mount m) = FitsInner FitsMount canon_mount m

abbrev pub FitsCapability : Capability → Type 0
FitsCapability c = FitsAccess c.access × FitsOption FitsI32 canon_number c.mode

abbrev pub FitsCapabilities : List Capability → Type 0
FitsCapabilities cs = FitsMessages FitsCapability canon_capability cs
