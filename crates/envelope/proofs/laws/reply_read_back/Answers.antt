use Rattle.std.proofs.Common.{ℕ, List, ◌++◌}
use Rattle.envelope.specs.declared.taken_reply.TakenReply.{TakenReply}
use Rattle.envelope.specs.declared.taken_reply.TakenReply.TheVariants.{Nothing, Frame, Fault}
use Rattle.envelope.specs.declared.kind.FrameKind.TheVariants.{Replies}
use Rattle.envelope.specs.Envelope.{ReplyBytes, IsReply, reply_bytes_of, reply}
use Rattle.envelope.specs.Replies.{reply_part_of}
use Rattle.envelope.specs.TakenReply.{TakesFirstReply, IsTakenReply}
use Rattle.envelope.proofs.Cancelling.{taken_whole, begins_itself, nil_no_frame}
use Rattle.envelope.specs.facts.Frames.{fault_no_frame}
use Rattle.envelope.proofs.laws.reply_read_back.Goals as goal

read_back : (said : ReplyBytes) (more : List ℕ) (t : TakenReply) → IsReply said → TakesFirstReply (reply said ++ more) t → IsTakenReply said t
read_back said more Nothing good h = nil_no_frame Replies (reply said ++ more) h (begins_itself Replies said more good)
read_back said more (Frame c size) good h = taken_whole Replies said (reply_bytes_of c) more size good h.0 h.1 h.2
read_back said more (Fault f) good h = fault_no_frame Replies (reply said ++ more) (reply_part_of f.why) f.at h (begins_itself Replies said more good)

pub returns : goal.returns
returns c said more t good h = read_back said more t good h
