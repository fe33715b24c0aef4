-- When a frame that breaks nothing has all of its bytes.
use Rattle.std.specs.Prelude.{◌≡◌, ◌<◌, ℕ, slice_index, drop, take, ◌+◌, ◌-◌, ◌≤◌, List, length}
use Rattle.envelope.specs.declared.kind.FrameKind.{FrameKind}
use Rattle.envelope.specs.declared.kind.FrameKind.TheVariants.{Calls, Replies}
use Rattle.envelope.specs.declared.limits.TheConstants.{MAX_HEAD_BYTES, MAX_FRAME_BYTES, MAX_REPLY_HEAD_BYTES, MAX_REPLY_BYTES}
use Rattle.envelope.specs.Grammar.{Item, IsItem, spelling, lead, text_length, body_length, IsGoodByte, IsUnbroken, BreaksFirst}
use Rattle.envelope.specs.declared.head.Flaw.{Flaw}
use Rattle.envelope.specs.declared.head.Head.{Head}
use Rattle.envelope.specs.declared.head.Look.{Look}
use Rattle.envelope.specs.declared.head.Look.TheVariants.{Short, Whole, Broken}

-- the most bytes of a frame before its body
abbrev pub most_head : FrameKind → ℕ
most_head Calls = MAX_HEAD_BYTES
most_head Replies = MAX_REPLY_HEAD_BYTES

-- the most bytes of a frame
abbrev pub most_frame : FrameKind → ℕ
most_frame Calls = MAX_FRAME_BYTES
most_frame Replies = MAX_REPLY_BYTES

-- the place and the length of the body, from the bytes before the body, which have all come
pub record IsHead (kind : FrameKind) (bytes : List ℕ) (h : Head) : Type 0 where
  pub there : lead kind + 7 + text_length kind bytes ≤ length bytes
  pub body_at : h.body_at ≡ lead kind + 7 + text_length kind bytes
  pub body_length : h.body_length ≡ body_length kind bytes
  pub at_small : h.body_at < 65544
  pub body_small : h.body_length < 4294967296

unfoldable pub IsWhole : FrameKind → List ℕ → Type 0
IsWhole kind bytes = (lead kind + 7 + text_length kind bytes ≤ length bytes) × (length bytes ≡ lead kind + 7 + text_length kind bytes + body_length kind bytes)

-- the contents of a frame with this status, this text and this body
abbrev pub item : (kind : FrameKind) → ℕ → List ℕ → List ℕ → Item kind
item Calls status text body = record { path = text; message = body }
item Replies status text body = record { status = status; text = text; body = body }

-- the bytes are the frame with these contents
abbrev pub Says : (kind : FrameKind) → List ℕ → Item kind → Type 0
Says kind bytes said = IsItem kind said × (bytes ≡ spelling kind said)

-- the contents of a whole frame
abbrev pub item_in : (kind : FrameKind) → List ℕ → Item kind
item_in kind bytes = item kind (slice_index bytes 0) (take (text_length kind bytes) (drop (lead kind + 2) bytes))
    (drop (lead kind + 7 + text_length kind bytes) bytes)

-- a frame's bytes have not all come
unfoldable pub IsShort : FrameKind → List ℕ → Type 0
IsShort kind bytes = lead kind + 7 + text_length kind bytes ≤ length bytes → lead kind + 7 + text_length kind bytes + body_length kind bytes ≤ length bytes → ⊥

-- a prefix of the bytes is a frame
pub record WholePrefix (kind : FrameKind) (bytes : List ℕ) (size : ℕ) : Type 0 where
  pub within : size ≤ length bytes
  pub unbroken : IsUnbroken kind (take size bytes)
  pub whole : IsWhole kind (take size bytes)

-- a prefix of the bytes breaks the table with its last byte
pub record BrokenPrefix (kind : FrameKind) (bytes : List ℕ) (f : Flaw) (size : ℕ) : Type 0 where
  pub some : 0 < size
  pub within : size ≤ length bytes
  pub before : IsUnbroken kind (take (size - 1) bytes)
  pub breaks : BreaksFirst kind (take size bytes) f.part f.at

-- the result of a look at the bytes is true of them
abbrev pub Looks : FrameKind → List ℕ → Look → Type 0
Looks kind bytes Short = IsUnbroken kind bytes × IsShort kind bytes
Looks kind bytes (Whole size) = WholePrefix kind bytes size
Looks kind bytes (Broken f size) = BrokenPrefix kind bytes f size

-- the bytes of the text from `from` to before `to` are good
abbrev pub AreGoodBytes : FrameKind → List ℕ → ℕ → ℕ → ℕ → Type 0
AreGoodBytes kind bytes from end to = (k : ℕ) → from ≤ k → lead kind + 2 ≤ k → k < end → k < to → IsGoodByte kind (slice_index bytes k)

pub record IsBadByte (kind : FrameKind) (bytes : List ℕ) (from end at : ℕ) : Type 0 where
  pub low : lead kind + 2 ≤ at
  pub inside : at < end
  pub there : at < length bytes
  pub bad : ¬ IsGoodByte kind (slice_index bytes at)
  pub earlier : AreGoodBytes kind bytes from end at
