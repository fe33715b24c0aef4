-- Each reason is the text of a reply with a code other than success.
use Rattle.std.proofs.Common.{◌≡◌, ◌≢◌, ◌≤◌, Bool, true, All, length, refl, ap, arith}
use Rattle.std.specs.Prelude.{nat_le, ◌&&◌}
use Rattle.std.specs.List.{list_all}
use Rattle.std.proofs.lemmas.Bool.{leb-true}
use Rattle.csi_types.specs.declared.code.Code.{Code}
use Rattle.csi_types.specs.declared.code.Code.TheVariants as code
use Rattle.csi_types.specs.declared.reason.Reason.{Reason}
use Rattle.csi_types.specs.declared.reason.Reason.TheVariants as reason
use Rattle.csi_types.specs.Codes.{number_of}
use Rattle.csi_types.specs.Reasons.{code_of, text_of}
use Rattle.envelope.specs.Envelope.{IsTextByte}
use Rattle.csi_server.proofs.Printable.{is_printable, all_printable, both}

abbrev is_reported : Reason → Bool
is_reported r = nat_le (length (text_of r)) 140 && (list_all is_printable (text_of r) && nat_le 1 (number_of (code_of r)))

reported : (r : Reason) → is_reported r ≡ true
reported reason.NameMissing = refl
reported reason.NameTooLong = refl
reported reason.NameBanned = refl
reported reason.CapabilityMissing = refl
reported reason.AccessTypeMissing = refl
reported reason.AccessModeUnknown = refl
reported reason.CapabilityNotSupported = refl
reported reason.CapacityNegative = refl
reported reason.MapTooLarge = refl
reported reason.TextTooLong = refl
reported reason.SourceNotSupported = refl
reported reason.TopologyKeysAlike = refl
reported reason.PreferredNotRequisite = refl
reported reason.VolumeIdMissing = refl
reported reason.NodeIdMissing = refl
reported reason.MaxEntriesNegative = refl
reported reason.MutableMissing = refl
reported reason.UnknownMethod = refl
reported reason.VolumeNotFound = refl
reported reason.NodeNotFound = refl
reported reason.VolumeNotCompatible = refl
reported reason.NoRoom = refl
reported reason.TooManyVolumes = refl
reported reason.NumbersUsedUp = refl
reported reason.OutOfRange = refl
reported reason.VolumeInUse = refl
reported reason.PublishedElsewhere = refl
reported reason.PublishedOtherwise = refl
reported reason.NodeFull = refl
reported reason.CapabilityNotOfVolume = refl
reported reason.BadToken = refl
reported reason.MutableTooLarge = refl
reported reason.ReplyTooLarge = refl
reported reason.OutOfMemory = refl
reported reason.StoreRefused = refl
reported reason.StoreDown = refl

pub reason_short : (r : Reason) → length (text_of r) ≤ 140
reason_short r = leb-true (length (text_of r)) 140 (both (nat_le (length (text_of r)) 140) _ (reported r)).0

pub reason_printable : (r : Reason) → All IsTextByte (text_of r)
reason_printable r = all_printable (text_of r) (both (list_all is_printable (text_of r)) _ (both (nat_le (length (text_of r)) 140) _ (reported r)).1).0

numbered : (c : Code) → 1 ≤ number_of c → c ≢ code.Ok
numbered c some e = let none : number_of c ≡ 0 = ap number_of e in omega arith

pub reason_refuses : (r : Reason) → code_of r ≢ code.Ok
reason_refuses r = numbered (code_of r) (leb-true 1 (number_of (code_of r)) (both (list_all is_printable (text_of r)) _ (both (nat_le (length (text_of r)) 140) _ (reported r)).1).1)

-- no other code has the number of success
pub refusal_number : (c : Code) → c ≢ code.Ok → number_of c ≢ 0
refusal_number code.Ok some e = some refl
refusal_number code.InvalidArgument some e = omega arith
refusal_number code.NotFound some e = omega arith
refusal_number code.AlreadyExists some e = omega arith
refusal_number code.ResourceExhausted some e = omega arith
refusal_number code.FailedPrecondition some e = omega arith
refusal_number code.Aborted some e = omega arith
refusal_number code.OutOfRange some e = omega arith
refusal_number code.Unimplemented some e = omega arith
refusal_number code.Internal some e = omega arith
