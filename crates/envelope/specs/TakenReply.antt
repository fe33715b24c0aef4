-- The first frame of the rest of a stream of replies.
use Rattle.std.specs.Prelude.{◌≡◌, ◌≤◌, List, [], length, take, ℕ}
use Rattle.envelope.specs.declared.kind.FrameKind.TheVariants.{Replies}
use Rattle.envelope.specs.declared.taken_reply.TakenReply.{TakenReply}
use Rattle.envelope.specs.declared.taken_reply.TakenReply.TheVariants.{Nothing, Frame, Fault}
use Rattle.envelope.specs.Envelope.{ReplyBytes, IsReply, reply_bytes_of, reply}
use Rattle.envelope.specs.Grammar.{FaultAt}
use Rattle.envelope.specs.Replies.{reply_part_of}

-- the result is exactly this reply
abbrev pub IsTakenReply : ReplyBytes → TakenReply → Type 0
IsTakenReply r Nothing = ⊥
IsTakenReply r (Frame q size) = (reply_bytes_of q ≡ r) × (size ≡ length (reply r))
IsTakenReply r (Fault f) = ⊥

abbrev pub TakesFirstReply : List ℕ → TakenReply → Type 0
TakesFirstReply bytes Nothing = bytes ≡ []
TakesFirstReply bytes (Frame r size) = IsReply (reply_bytes_of r) × (size ≤ length bytes) × (take size bytes ≡ reply (reply_bytes_of r))
TakesFirstReply bytes (Fault f) = FaultAt Replies bytes (reply_part_of f.why) f.at
