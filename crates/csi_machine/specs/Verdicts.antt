-- The answer to a request in a reply: the body of its response, or the reason of a refusal.
use Rattle.std.specs.Prelude.{◌≡◌, ℕ, ◌≤◌, nat_le, List, ◌++◌, length, Result, Ok, Err, if◌then◌else◌}
use Rattle.csi_types.specs.declared.responses.Response.{Response}
use Rattle.csi_types.specs.declared.reason.Reason.{Reason}
use Rattle.csi_types.specs.declared.reason.Reason.TheVariants.{ReplyTooLarge}
use Rattle.csi_codec.specs.Methods.{response_bytes}
use Rattle.envelope.specs.declared.limits.TheConstants.{MAX_BODY_BYTES}
use Rattle.csi_machine.specs.declared.body.Verdict.{Verdict}
use Rattle.csi_machine.specs.declared.body.Verdict.TheVariants as verdict

-- a body that fits in a reply, or the reason of a refusal
pub data Report : Type 0 where
  Says : List ℕ → Report
  Denies : Reason → Report

-- a body that is too large for a reply is refused
abbrev pub within : List ℕ → Report
within body = if nat_le (length body) MAX_BODY_BYTES then Says body else Denies ReplyTooLarge

abbrev pub reported_of : Result Response Reason → Report
reported_of (Ok r) = within (response_bytes r)
reported_of (Err reason) = Denies reason

-- the verdict of an outcome whose body is written
abbrev pub verdict_of : Result Response Reason → Verdict
verdict_of (Ok r) = verdict.Done
verdict_of (Err reason) = verdict.Refused reason

-- a body is appended to the bytes of the vector, and any other result leaves the vector
abbrev pub Appended : {E : Type 0} → List ℕ → List ℕ → Result Verdict E → Type 0
Appended old new (Ok verdict.Done) = (body : List ℕ) × (new ≡ old ++ body) × (length body ≤ MAX_BODY_BYTES)
Appended old new (Ok (verdict.Refused reason)) = new ≡ old
Appended old new (Err e) = new ≡ old

-- the result is the report; a call that fails reports nothing
abbrev pub IsReported : {E : Type 0} → Report → List ℕ → List ℕ → Result Verdict E → Type 0
IsReported reported old new (Ok verdict.Done) = (body : List ℕ) × (reported ≡ Says body) × (new ≡ old ++ body)
IsReported reported old new (Ok (verdict.Refused reason)) = reported ≡ Denies reason
IsReported reported old new (Err e) = Unit {0}
