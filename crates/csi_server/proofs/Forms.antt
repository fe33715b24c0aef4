-- The replies of a machine over requests are replies of the envelope.
use Rattle.std.proofs.Common.{◌≡◌, ◌≢◌, ℕ, ◌≤◌, ◌<◌, ◌^◌, List, ◌++◌, length, All, Option, Some, None, Bool, true, false, Result, Ok, Err, refl, subst, length-append, arith}
use Rattle.std.specs.Prelude.{codes, decimal, nat_le, if◌then◌else◌}
use Rattle.std.proofs.lemmas.Bool.{leb-true}
use Rattle.std.proofs.lemmas.List.Elements.{All-append, All-nil}
use Rattle.std.proofs.lemmas.Fmt.{length-decimal-le}
use Rattle.envelope.specs.declared.fault.FrameFault.{FrameFault}
use Rattle.envelope.specs.declared.fault.FrameWhy.{FrameWhy}
use Rattle.envelope.specs.declared.fault.FrameWhy.TheVariants.{BadPathLength, BadPath, BadFlag, TooLong, EndOfInput}
use Rattle.envelope.specs.Texts.{fault_words}
use Rattle.envelope.specs.Envelope.{CallBytes, is_status, IsReply, IsTextByte}
use Rattle.envelope.specs.declared.limits.TheConstants.{MAX_MESSAGE_BYTES, MAX_BODY_BYTES}
use Rattle.csi_types.specs.declared.responses.Response.{Response}
use Rattle.csi_types.specs.declared.method.Method.{Method}
use Rattle.csi_types.specs.declared.code.Code.{Code}
use Rattle.csi_types.specs.declared.code.Code.TheVariants as code
use Rattle.csi_types.specs.declared.reason.Reason.{Reason}
use Rattle.csi_types.specs.declared.reason.Reason.TheVariants as reason
use Rattle.csi_types.specs.declared.requests.Request.{Request}
use Rattle.csi_types.specs.Checks.{checked}
use Rattle.csi_types.specs.Codes.{number_of}
use Rattle.csi_types.specs.Reasons.{code_of, text_of}
use Rattle.csi_codec.specs.Methods.{IsNoRequest}
use Rattle.csi_codec.specs.Reading.{read_request, IsRead}
use Rattle.csi_machine.specs.Verdicts.{Report, Says, Denies, within, reported_of}
use Rattle.csi_server.specs.Machine.{refusal, refused}
use Rattle.csi_server.specs.Requests.{requests, malformed, reported, after_check, after_read, after_path}
use Rattle.csi_server.proofs.Printable.{all_printable}
use Rattle.csi_server.proofs.Reasons.{reason_printable, reason_short, reason_refuses, refusal_number}

-- a body that fits in a reply
abbrev pub IsShort : Report → Type 0
IsShort (Says body) = length body ≤ MAX_BODY_BYTES
IsShort (Denies r) = Unit {0}

short_within : (body : List ℕ) → IsShort (within body)
short_within body = by (nat_le (length body) MAX_BODY_BYTES) refl
  where
    by : (b : Bool) → nat_le (length body) MAX_BODY_BYTES ≡ b → IsShort (if b then Says body else Denies reason.ReplyTooLarge)
    by true e = leb-true (length body) MAX_BODY_BYTES e
    by false e = tt

pub short_reported : (o : Result Response Reason) → IsShort (reported_of o)
short_reported (Ok r) = short_within _
short_reported (Err r) = tt

formed_refusal : (code : ℕ) (text : List ℕ) → is_status code ≡ true → code ≢ 0 → length text ≤ 1024 → All IsTextByte text → IsReply (refusal code text)
formed_refusal code text is some short printable = record {
  status = is;
  text_short = short;
  text_bytes = printable;
  body_short = omega arith;
  ok = λ e. absurd (some e);
  refused = λ ne. refl;
}

-- the number of each code is a status of a reply
pub code_status : (c : Code) → is_status (number_of c) ≡ true
code_status code.Ok = refl
code_status code.InvalidArgument = refl
code_status code.NotFound = refl
code_status code.AlreadyExists = refl
code_status code.ResourceExhausted = refl
code_status code.FailedPrecondition = refl
code_status code.Aborted = refl
code_status code.OutOfRange = refl
code_status code.Unimplemented = refl
code_status code.Internal = refl

formed_refused : (r : Reason) → IsReply (refused r)
formed_refused r = let short = reason_short r in formed_refusal (number_of (code_of r)) (text_of r) (code_status (code_of r)) (refusal_number (code_of r) (reason_refuses r)) (omega (arith, short)) (reason_printable r)

pub formed_malformed : (at : ℕ) (text : List ℕ) → text ≡ codes "malformed message in the field at byte " ++ decimal at → length text ≤ 1024 → All IsTextByte text → IsReply (malformed at)
formed_malformed at text is short printable = subst (λ (t : List ℕ). IsReply (refusal 3 t)) is (formed_refusal 3 text refl (λ e. omega arith) short printable)

formed_reported : (v : Report) → IsShort v → IsReply (reported v)
formed_reported (Says body) short = record {
  status = refl;
  text_short = omega arith;
  text_bytes = All-nil IsTextByte;
  body_short = omega (arith, short);
  ok = λ e. refl;
  refused = λ ne. absurd (ne refl);
}
formed_reported (Denies r) short = formed_refused r

module _ {S : Type 0} (answer : S → Request → Report × S) (short : (s : S) (r : Request) → IsShort (answer s r).0) (numbers : (n : ℕ) → n < 2 ^ 64 → All IsTextByte (decimal n)) (reading : (m : Method) (bytes : List ℕ) → IsRead m bytes (read_request m bytes)) where
  formed_check : (s : S) (r : Request) (o : Option Reason) → IsReply (after_check answer s r o).0
  formed_check s r None = formed_reported (answer s r).0 (short s r)
  formed_check s r (Some why) = formed_refused why

  formed_read : (s : S) (m : Method) (message : List ℕ) → length message ≤ MAX_MESSAGE_BYTES → (x : Result Request ℕ) → IsRead m message x → IsReply (after_read answer s x).0
  unfolding IsNoRequest
  formed_read s m message few (Ok r) is = formed_check s r (checked r)
  formed_read s m message few (Err at) is =
      let small : at < 2 ^ 64 = omega (arith, is.0.within) in
      let words = codes "malformed message in the field at byte " in
      formed_malformed at (words ++ decimal at) refl
      (omega (arith, length-append words (decimal at), length-decimal-le 20 at (omega arith) (omega arith) small))
      (All-append IsTextByte words (decimal at) (all_printable words refl) (numbers at small))

  formed_path : (s : S) (o : Option Method) (message : List ℕ) → length message ≤ MAX_MESSAGE_BYTES → IsReply (after_path answer s o message).0
  formed_path s None message few = formed_refused reason.UnknownMethod
  formed_path s (Some m) message few = formed_read s m message few (read_request m message) (reading m message)

  -- each reply is a reply of the envelope's table
  pub formed_reply : (method : List ℕ → Option Method) (asks : Request → Bool) (s : S) (call : CallBytes) → length call.message ≤ MAX_MESSAGE_BYTES → IsReply ((requests method asks answer).respond s call).0
  formed_reply method asks s call few = formed_path s (method call.path) call.message few

-- ---- the reply that answers a malformed frame

fault_printable : (why : FrameWhy) → All IsTextByte (fault_words why)
fault_printable BadPathLength = all_printable (codes "bad path length at byte ") refl
fault_printable BadPath = all_printable (codes "bad path at byte ") refl
fault_printable BadFlag = all_printable (codes "bad flag at byte ") refl
fault_printable TooLong = all_printable (codes "message too long at byte ") refl
fault_printable EndOfInput = all_printable (codes "end of input at byte ") refl

fault_short : (why : FrameWhy) → length (fault_words why) ≤ 30
fault_short BadPathLength = omega arith
fault_short BadPath = omega arith
fault_short BadFlag = omega arith
fault_short TooLong = omega arith
fault_short EndOfInput = omega arith

pub formed_fault_frame : ((n : ℕ) → n < 2 ^ 64 → All IsTextByte (decimal n)) → (f : FrameFault) → f.at < 2 ^ 64 → IsReply (refusal (number_of code.InvalidArgument) (fault_words f.why ++ decimal f.at))
formed_fault_frame numbers f small =
    formed_refusal 3 (fault_words f.why ++ decimal f.at) refl (λ e. omega arith)
    (omega (arith, fault_short f.why, length-append (fault_words f.why) (decimal f.at), length-decimal-le 20 f.at (omega arith) (omega arith) small))
    (All-append IsTextByte (fault_words f.why) (decimal f.at) (fault_printable f.why) (numbers f.at small))
