-- How a frame of a call or of a reply is read: docs/PROTOCOL.md, "Envelope" and "Streams" (own). Both have a
-- text after its length, a flag, and a body after its length. The text of a call is its path, and the body is
-- its message. The text of a reply comes after the status.
use Rattle.std.specs.Prelude.{ℕ, zero, suc, false, ◌≡◌, ◌≢◌, ◌+◌, ◌*◌, ◌<◌, ◌≤◌, List, [], ◌++◌, length, slice_index, ◌⊎◌}
use Rattle.envelope.specs.declared.kind.FrameKind.{FrameKind}
use Rattle.envelope.specs.declared.kind.FrameKind.TheVariants.{Calls, Replies}
use Rattle.envelope.specs.declared.kind.Part.{Part}
use Rattle.envelope.specs.declared.kind.Part.TheVariants.{Status, TextLength, Text, Flag, BodyLength, Missing}
use Rattle.envelope.specs.declared.limits.TheConstants.{MAX_PATH_BYTES, MAX_MESSAGE_BYTES, MAX_TEXT_BYTES, MAX_BODY_BYTES}
use Rattle.envelope.specs.Envelope.{CallBytes, ReplyBytes, IsCall, IsReply, frame, reply, is_status}

-- the contents of a frame of each kind: a call or a reply
abbrev pub Item : FrameKind → Type 0
Item Calls = CallBytes
Item Replies = ReplyBytes

-- the call or the reply has a frame
abbrev pub IsItem : (kind : FrameKind) → Item kind → Type 0
IsItem Calls call = IsCall call
IsItem Replies r = IsReply r

abbrev pub spelling : (kind : FrameKind) → Item kind → List ℕ
spelling Calls call = frame call
spelling Replies r = reply r

-- ---- the limits of the table of each kind

-- how many bytes come before the length of the text
abbrev pub lead : FrameKind → ℕ
lead Calls = 0
lead Replies = 1

abbrev pub least_text : FrameKind → ℕ
least_text Calls = 1
least_text Replies = 0

-- the longest text, by the frame's first byte: an OK has no text
abbrev pub most_text : FrameKind → ℕ → ℕ
most_text Calls first = MAX_PATH_BYTES
most_text Replies zero = 0
most_text Replies (suc n) = MAX_TEXT_BYTES

-- the longest body, by the frame's first byte: a refusal has no body
abbrev pub most_body : FrameKind → ℕ → ℕ
most_body Calls first = MAX_MESSAGE_BYTES
most_body Replies zero = MAX_BODY_BYTES
most_body Replies (suc n) = 0

abbrev pub least_byte : FrameKind → ℕ
least_byte Calls = 33
least_byte Replies = 32

-- a byte that a text may have
abbrev pub IsGoodByte : FrameKind → ℕ → Type 0
IsGoodByte kind byte = (least_byte kind ≤ byte) × (byte ≤ 126)

-- ---- the values that the bytes give

-- the length that the two bytes before the text give
unfoldable pub text_length : FrameKind → List ℕ → ℕ
text_length kind bytes = 256 * slice_index bytes (lead kind) + slice_index bytes (lead kind + 1)

-- the length that the four bytes after the flag give
unfoldable pub body_length : FrameKind → List ℕ → ℕ
body_length kind bytes =
    let at = lead kind + 3 + text_length kind bytes in
    16777216 * slice_index bytes at + 65536 * slice_index bytes (at + 1) + 256 * slice_index bytes (at + 2) + slice_index bytes (at + 3)

-- the first byte should be a status, and is not
abbrev pub HasBadStatus : FrameKind → List ℕ → Type 0
HasBadStatus kind bytes = (0 < lead kind) × (0 < length bytes) × (is_status (slice_index bytes 0) ≡ false)

-- the parts that a frame of the kind has
abbrev pub HasPart : FrameKind → Part → Type 0
HasPart Calls Status = ⊥
HasPart kind part = Unit {0}

-- the byte at this place breaks the table of a frame, in this part of it
unfoldable pub Breaks : FrameKind → List ℕ → Part → ℕ → Type 0
Breaks kind bytes Status at = (at ≡ 0) × HasBadStatus kind bytes
Breaks kind bytes TextLength at = (at ≡ lead kind) × (lead kind + 2 ≤ length bytes)
    × ((text_length kind bytes < least_text kind) ⊎ (most_text kind (slice_index bytes 0) < text_length kind bytes))
Breaks kind bytes Text at = (lead kind + 2 ≤ at) × (at < lead kind + 2 + text_length kind bytes) × (at < length bytes)
    × ¬ IsGoodByte kind (slice_index bytes at)
Breaks kind bytes Flag at = (at ≡ lead kind + 2 + text_length kind bytes) × (at < length bytes) × (slice_index bytes at ≢ 0)
Breaks kind bytes BodyLength at = (at ≡ lead kind + 3 + text_length kind bytes) × (at + 4 ≤ length bytes)
    × (most_body kind (slice_index bytes 0) < body_length kind bytes)
Breaks kind bytes Missing at = ⊥

-- the rest of a stream breaks the table nowhere
unfoldable pub IsUnbroken : FrameKind → List ℕ → Type 0
IsUnbroken kind bytes = (part : Part) (at : ℕ) → ¬ Breaks kind bytes part at

-- the rest breaks the table first at this place
pub record BreaksFirst (kind : FrameKind) (bytes : List ℕ) (part : Part) (at : ℕ) : Type 0 where
  pub breaks : Breaks kind bytes part at
  pub least : (other : Part) (place : ℕ) → Breaks kind bytes other place → at ≤ place

-- a prefix of the rest is a frame
abbrev pub BeginsFrame : FrameKind → List ℕ → Type 0
BeginsFrame kind bytes = (item : Item kind) × (more : List ℕ) × IsItem kind item × (bytes ≡ spelling kind item ++ more)

-- the rest may yet become a frame
pub record IsUnfinished (kind : FrameKind) (bytes : List ℕ) : Type 0 where
  pub unbroken : IsUnbroken kind bytes
  pub frameless : ¬ BeginsFrame kind bytes

-- the rest is not empty, and may yet become a frame
abbrev pub IsOpen : FrameKind → List ℕ → Type 0
IsOpen kind bytes = (bytes ≢ []) × IsUnfinished kind bytes

-- The fault of the rest of a stream if the input ends with it: an open rest lacks the end of a frame.
abbrev pub FaultAt : FrameKind → List ℕ → Part → ℕ → Type 0
FaultAt kind rest Missing at = (at ≡ length rest) × IsOpen kind rest
FaultAt kind rest part at = BreaksFirst kind rest part at

-- the bytes are exactly one frame
abbrev pub IsFrame : FrameKind → List ℕ → Type 0
IsFrame kind bytes = (item : Item kind) × IsItem kind item × (bytes ≡ spelling kind item)
