-- The reply that is made from an answer and its frame.
use Rattle.std.specs.Prelude.{ℕ, ◌+◌, ◌≤◌, List, [], ◌∷◌, drop, length, Result, Ok, Err}
use Rattle.csi_server.specs.declared.refused.Refusal.{Refusal}
use Rattle.csi_server.specs.declared.refused.Refusal.TheVariants.{For, Malformed}
use Rattle.envelope.specs.declared.limits.TheConstants.{REPLY_HEAD_BYTES, MAX_BODY_BYTES}
use Rattle.envelope.specs.Envelope.{ReplyBytes}
use Rattle.csi_server.specs.Machine.{refused}
use Rattle.csi_server.specs.Requests.{malformed}

-- the reply to a call with this refusal
abbrev pub refused_by : Refusal → ReplyBytes
refused_by (For reason) = refused reason
refused_by (Malformed at) = malformed at

-- the reply to a call; the body in the buffer is after the room for the head
abbrev pub reply_of : {U : Type 0} → Result U Refusal → List ℕ → ReplyBytes
reply_of (Ok done) buffer = record { status = 0; text = []; body = drop REPLY_HEAD_BYTES buffer }
reply_of (Err r) buffer = refused_by r

-- the buffer has the room for the head, and a body that fits in a reply
abbrev pub HasBody : List ℕ → Type 0
HasBody buffer = (REPLY_HEAD_BYTES ≤ length buffer) × (length buffer ≤ REPLY_HEAD_BYTES + MAX_BODY_BYTES)

-- if the call is not refused, the buffer has a body
abbrev pub HoldsBody : {U : Type 0} → Result U Refusal → List ℕ → Type 0
HoldsBody (Ok done) buffer = HasBody buffer
HoldsBody (Err r) buffer = Unit {0}

-- the room for the head, before the head is written
abbrev pub room : List ℕ
room = 0 ∷ 0 ∷ 0 ∷ 0 ∷ 0 ∷ 0 ∷ 0 ∷ 0 ∷ []
