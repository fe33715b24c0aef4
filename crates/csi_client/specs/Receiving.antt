-- The results of waiting for the reply to a call.
use Rattle.std.specs.Prelude.{ℕ, ◌≡◌, ◌⊎◌, ◌<◌, ◌≤◌, List, [], ◌++◌, length, Option, Some, None, Result, Ok, Err}
use Rattle.std.specs.Io.KnownBytes.{Consumes, IsAtEnd}
use Rattle.envelope.specs.declared.reply_fault.ReplyFault.{ReplyFault}
use Rattle.envelope.specs.declared.reply_fault.ReplyWhy.TheVariants.{EndOfInput}
use Rattle.envelope.specs.declared.limits.TheConstants.{MAX_REPLY_BYTES}
use Rattle.envelope.specs.Envelope.{ReplyBytes, IsReply, reply}
use Rattle.envelope.specs.ReplyStream.{FaultAt, IsUnfinished}
use Rattle.frames_core.specs.Framer.{ReplyFramerState, IsReplyFrame}
use Rattle.csi_client.specs.declared.receiving.Received.{Received}
use Rattle.csi_client.specs.declared.receiving.Received.TheVariants.{Reply, Nothing, Malformed, Failed, NoMemory}
use Rattle.csi_client.specs.declared.receiving.ReceivedReply.{ReceivedReply}
use Rattle.csi_client.specs.declared.receiving.TheConstants.{PIECE_BYTES}

abbrev pub reply_of : ReceivedReply → ReplyBytes
reply_of r = record { status = r.status; text = r.text.items; body = r.body.items }

-- the bytes have this fault; an early end is a fault only at the end of the input
abbrev pub HasFault : List ℕ → Type 0 → ReplyFault → Type 0
HasFault bytes AtEnd f = FaultAt bytes f.why f.at × (f.why ≡ EndOfInput → AtEnd)

-- The bytes begin with this reply, and fewer bytes than a piece follow it: no piece is read after the last
-- piece of the reply.
abbrev pub BeginsWith : List ℕ → ReplyBytes → Type 0
BeginsWith read r = (more : List ℕ) × IsReply r × (read ≡ reply r ++ more) × (length more < PIECE_BYTES)

-- No piece is read once the bytes are decided: without their last piece they are a prefix of a reply.
pub record IsPrompt (read : List ℕ) : Type 0 where
  pub before : List ℕ
  pub piece : List ℕ
  pub whole : read ≡ before ++ piece
  pub unfinished : IsUnfinished before
  pub one : length piece ≤ PIECE_BYTES

-- The bytes are a proper prefix of a reply. Each read gave at least one byte, so there were at most as many
-- reads as the longest reply has bytes.
abbrev pub FallsShort : List ℕ → Type 0
FallsShort read = IsUnfinished read × (length read < MAX_REPLY_BYTES)

-- The result, by the bytes that were read: they begin with the first reply, or with no reply.
abbrev pub Comes : List ℕ → Type 0 → Received → Type 0
Comes read AtEnd (Reply r) = BeginsWith read (reply_of r)
Comes read AtEnd Nothing = (read ≡ []) × AtEnd
Comes read AtEnd (Malformed f) = HasFault read AtEnd f × IsPrompt read
Comes read AtEnd Failed = FallsShort read
Comes read AtEnd NoMemory = (read ≡ []) ⊎ ((r : ReplyBytes) × BeginsWith read r)

-- The bytes read from the reader, and the result.
abbrev pub Receives : Option (List ℕ) → Option (List ℕ) → Received → Type 0
Receives unread left received = (read : List ℕ) × Consumes unread left read × Comes read (IsAtEnd left) received

-- All bytes that were read are held, and may yet become a reply.
pub record IsGathering (read : List ℕ) (s : ReplyFramerState) : Type 0 where
  pub past : s.past ≡ 0
  pub held : s.held ≡ read
  pub unknown : s.fault ≡ None
  pub short : FallsShort read

-- A framer that has taken all that it needs from the input: a reply, or the bytes up to a fault.
pub record Gathered (read : List ℕ) (AtEnd : Type 0) (s : ReplyFramerState) : Type 0 where
  pub rest : List ℕ
  pub whole : read ≡ s.held ++ rest
  -- the last piece has some bytes that the framer needs
  pub few : length rest < PIECE_BYTES
  pub prompt : IsPrompt read
  pub faulty : (f : ReplyFault) → s.fault ≡ Some f → HasFault read AtEnd f
  -- if there is no reply and no fault, no byte came
  pub nothing : s.fault ≡ None → ¬ IsReplyFrame s.held → (read ≡ []) × AtEnd

abbrev pub Gathers : {X E : Type 0} → Option (List ℕ) → Option (List ℕ) → ReplyFramerState → Result X E → Type 0
Gathers unread left s (Ok x) = (read : List ℕ) × Consumes unread left read × Gathered read (IsAtEnd left) s
Gathers unread left s (Err e) = (read : List ℕ) × Consumes unread left read × FallsShort read
