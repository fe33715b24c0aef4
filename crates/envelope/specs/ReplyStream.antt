-- How a stream of replies is read, reply by reply: docs/PROTOCOL.md, "Streams" (own).
use Rattle.std.specs.Prelude.{ℕ, List}
use Rattle.envelope.specs.declared.kind.FrameKind.TheVariants.{Replies}
use Rattle.envelope.specs.declared.reply_fault.ReplyWhy.{ReplyWhy}
use Rattle.envelope.specs.Grammar as grammar
use Rattle.envelope.specs.Replies.{reply_part_of}

-- the rest of a stream breaks the table of a reply nowhere
abbrev pub IsUnbroken : List ℕ → Type 0
IsUnbroken bytes = grammar.IsUnbroken Replies bytes

-- the rest breaks the table first at this place, for this reason
abbrev pub BreaksFirst : List ℕ → ReplyWhy → ℕ → Type 0
BreaksFirst bytes why at = grammar.BreaksFirst Replies bytes (reply_part_of why) at

-- a prefix of the rest is the frame of a reply
abbrev pub BeginsReply : List ℕ → Type 0
BeginsReply bytes = grammar.BeginsFrame Replies bytes

-- the rest may yet become the frame of a reply
abbrev pub IsUnfinished : List ℕ → Type 0
IsUnfinished bytes = grammar.IsUnfinished Replies bytes

-- the rest is not empty, and may yet become the frame of a reply
abbrev pub IsOpen : List ℕ → Type 0
IsOpen bytes = grammar.IsOpen Replies bytes

-- the fault of the rest if the input ends with it
abbrev pub FaultAt : List ℕ → ReplyWhy → ℕ → Type 0
FaultAt rest why at = grammar.FaultAt Replies rest (reply_part_of why) at
