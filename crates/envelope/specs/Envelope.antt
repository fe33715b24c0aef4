-- How a call and a reply are encoded as bytes: docs/PROTOCOL.md, "Envelope" (own).
use Rattle.std.specs.Prelude.{ℕ, ◌≡◌, ◌≢◌, ◌==◌, ◌≤◌, Bool, true, List, [], ◌∷◌, ◌++◌, length, All}
use Rattle.std.specs.Int.{w16, w32, to_be_bytes}
use Rattle.std.specs.List.{list_any}
use Rattle.envelope.specs.declared.call.Call.{Call}
use Rattle.envelope.specs.declared.reply.Reply.{Reply}
use Rattle.envelope.specs.declared.limits.TheConstants.{MAX_PATH_BYTES, MAX_MESSAGE_BYTES, MAX_TEXT_BYTES, MAX_BODY_BYTES}

-- the bytes of a call, wherever they are in memory
pub record CallBytes : Type 0 where
  pub path : List ℕ
  pub message : List ℕ

abbrev pub bytes_of : Call → CallBytes
bytes_of call = record { path = call.path.now; message = call.message.now }

abbrev pub IsPathByte : ℕ → Type 0
IsPathByte byte = (33 ≤ byte) × (byte ≤ 126)

-- the calls that have a request frame
pub record IsCall (call : CallBytes) : Type 0 where
  pub path_given : 1 ≤ length call.path
  pub path_short : length call.path ≤ MAX_PATH_BYTES
  pub path_bytes : All IsPathByte call.path
  pub message_short : length call.message ≤ MAX_MESSAGE_BYTES

-- path length, path, flag, message length, message
unfoldable pub frame : CallBytes → List ℕ
frame call = to_be_bytes w16 (length call.path) ++ (call.path ++ (0 ∷ (to_be_bytes w32 (length call.message) ++ call.message)))

-- the bytes of a reply, wherever they are in memory
pub record ReplyBytes : Type 0 where
  pub status : ℕ
  pub text : List ℕ
  pub body : List ℕ

abbrev pub reply_bytes_of : Reply → ReplyBytes
reply_bytes_of r = record { status = r.status; text = r.text.now; body = r.body.now }

abbrev pub IsTextByte : ℕ → Type 0
IsTextByte byte = (32 ≤ byte) × (byte ≤ 126)

-- the status codes of gRPC that a reply may have: OK, INVALID_ARGUMENT, NOT_FOUND, ALREADY_EXISTS,
-- RESOURCE_EXHAUSTED, FAILED_PRECONDITION, ABORTED, OUT_OF_RANGE, UNIMPLEMENTED, INTERNAL
abbrev pub statuses : List ℕ
statuses = 0 ∷ 3 ∷ 5 ∷ 6 ∷ 8 ∷ 9 ∷ 10 ∷ 11 ∷ 12 ∷ 13 ∷ []

abbrev pub is_status : ℕ → Bool
is_status n = list_any (λ status. n == status) statuses

-- the replies that have a reply frame: an OK has no text, and a refusal has no body
pub record IsReply (r : ReplyBytes) : Type 0 where
  pub status : is_status r.status ≡ true
  pub text_short : length r.text ≤ MAX_TEXT_BYTES
  pub text_bytes : All IsTextByte r.text
  pub body_short : length r.body ≤ MAX_BODY_BYTES
  pub ok : r.status ≡ 0 → r.text ≡ []
  pub refused : r.status ≢ 0 → r.body ≡ []

-- status, text length, text, flag, body length, body
unfoldable pub reply : ReplyBytes → List ℕ
reply r = r.status ∷ (to_be_bytes w16 (length r.text) ++ (r.text ++ (0 ∷ (to_be_bytes w32 (length r.body) ++ r.body))))
