-- The answer to each refusal: a status code and a text.
use Rattle.std.specs.Prelude.{ℕ, List, codes}
use Rattle.csi_types.specs.declared.code.Code.{Code}
use Rattle.csi_types.specs.declared.code.Code.TheVariants as code
use Rattle.csi_types.specs.declared.reason.Reason.{Reason}
use Rattle.csi_types.specs.declared.reason.Reason.TheVariants.{NameMissing, NameTooLong, NameBanned, CapabilityMissing, AccessTypeMissing}
use Rattle.csi_types.specs.declared.reason.Reason.TheVariants.{AccessModeUnknown, CapabilityNotSupported, CapacityNegative, MapTooLarge, TextTooLong}
use Rattle.csi_types.specs.declared.reason.Reason.TheVariants.{SourceNotSupported, TopologyKeysAlike, PreferredNotRequisite, VolumeIdMissing}
use Rattle.csi_types.specs.declared.reason.Reason.TheVariants.{NodeIdMissing, MaxEntriesNegative, MutableMissing, UnknownMethod, VolumeNotFound}
use Rattle.csi_types.specs.declared.reason.Reason.TheVariants.{NodeNotFound, VolumeNotCompatible, NoRoom, TooManyVolumes, NumbersUsedUp, OutOfRange}
use Rattle.csi_types.specs.declared.reason.Reason.TheVariants.{VolumeInUse, PublishedElsewhere, PublishedOtherwise, NodeFull, CapabilityNotOfVolume}
use Rattle.csi_types.specs.declared.reason.Reason.TheVariants.{BadToken, MutableTooLarge, ReplyTooLarge, OutOfMemory, StoreRefused, StoreDown}

-- the code and the text of each refusal
abbrev pub answer_of : Reason → Code × List ℕ
answer_of NameMissing = (code.InvalidArgument, codes "name is missing")
answer_of NameTooLong = (code.InvalidArgument, codes "name is longer than 128 bytes")
answer_of NameBanned = (code.InvalidArgument, codes "name holds a banned character")
answer_of CapabilityMissing = (code.InvalidArgument, codes "volume capability is missing")
answer_of AccessTypeMissing = (code.InvalidArgument, codes "access type is missing")
answer_of AccessModeUnknown = (code.InvalidArgument, codes "access mode is missing or unknown")
answer_of CapabilityNotSupported = (code.InvalidArgument, codes "volume capability is not supported")
answer_of CapacityNegative = (code.InvalidArgument, codes "capacity is negative")
answer_of MapTooLarge = (code.InvalidArgument, codes "map is larger than 4096 bytes")
answer_of TextTooLong = (code.InvalidArgument, codes "text is too long")
answer_of SourceNotSupported = (code.InvalidArgument, codes "content source is not supported")
answer_of TopologyKeysAlike = (code.InvalidArgument, codes "topology keys are alike")
answer_of PreferredNotRequisite = (code.InvalidArgument, codes "preferred topology is not requisite")
answer_of VolumeIdMissing = (code.InvalidArgument, codes "volume id is missing")
answer_of NodeIdMissing = (code.InvalidArgument, codes "node id is missing")
answer_of MaxEntriesNegative = (code.InvalidArgument, codes "max_entries is negative")
answer_of MutableMissing = (code.InvalidArgument, codes "mutable parameters are missing")
answer_of UnknownMethod = (code.Unimplemented, codes "unknown method")
answer_of VolumeNotFound = (code.NotFound, codes "volume not found")
answer_of NodeNotFound = (code.NotFound, codes "node not found")
answer_of VolumeNotCompatible = (code.AlreadyExists, codes "volume exists and is not compatible")
answer_of NoRoom = (code.ResourceExhausted, codes "no room in the topology")
answer_of TooManyVolumes = (code.ResourceExhausted, codes "too many volumes")
answer_of NumbersUsedUp = (code.ResourceExhausted, codes "volume numbers are used up")
answer_of OutOfRange = (code.OutOfRange, codes "capacity is out of range")
answer_of VolumeInUse = (code.FailedPrecondition, codes "volume is in use")
answer_of PublishedElsewhere = (code.FailedPrecondition, codes "volume is published elsewhere")
answer_of PublishedOtherwise = (code.AlreadyExists, codes "volume is published otherwise")
answer_of NodeFull = (code.ResourceExhausted, codes "node is full")
answer_of CapabilityNotOfVolume = (code.InvalidArgument, codes "volume does not have this capability")
answer_of BadToken = (code.Aborted, codes "bad starting token")
answer_of MutableTooLarge = (code.InvalidArgument, codes "mutable parameters are too large")
answer_of ReplyTooLarge = (code.ResourceExhausted, codes "reply too large")
answer_of OutOfMemory = (code.Internal, codes "out of memory")
answer_of StoreRefused = (code.Internal, codes "store refused")
answer_of StoreDown = (code.Internal, codes "store is down")

abbrev pub code_of : Reason → Code
code_of reason = (answer_of reason).0

abbrev pub text_of : Reason → List ℕ
text_of reason = (answer_of reason).1
