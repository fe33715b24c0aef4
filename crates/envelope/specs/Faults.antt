-- The part of a frame that a fault names, its place, and the fault of an input that ends inside a frame.
use Rattle.std.specs.Prelude.{ℕ}
use Rattle.envelope.specs.declared.fault.FrameFault.{FrameFault}
use Rattle.envelope.specs.declared.fault.FrameWhy.TheVariants.{EndOfInput as CallMissing}
use Rattle.envelope.specs.declared.reply_fault.ReplyFault.{ReplyFault}
use Rattle.envelope.specs.declared.reply_fault.ReplyWhy.TheVariants.{EndOfInput as ReplyMissing}
use Rattle.envelope.specs.declared.kind.Part.{Part}
use Rattle.envelope.specs.Stream.{part_of}
use Rattle.envelope.specs.Replies.{reply_part_of}

-- ---- faults of calls

abbrev pub part : FrameFault → Part
part f = part_of f.why

abbrev pub place : FrameFault → ℕ
place f = f.at

-- the fault of an input that ends at this place, inside a frame
abbrev pub call_cut_at : ℕ → FrameFault
call_cut_at at = record { why = CallMissing; at = at }

-- ---- faults of replies

abbrev pub reply_part : ReplyFault → Part
reply_part f = reply_part_of f.why

abbrev pub reply_place : ReplyFault → ℕ
reply_place f = f.at

abbrev pub reply_cut_at : ℕ → ReplyFault
reply_cut_at at = record { why = ReplyMissing; at = at }
