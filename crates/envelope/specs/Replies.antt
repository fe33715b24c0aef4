-- The reasons why bytes are no reply, by the part of a frame that is wrong: docs/PROTOCOL.md, "Streams"
-- (own).
use Rattle.envelope.specs.declared.reply_fault.ReplyWhy.{ReplyWhy}
use Rattle.envelope.specs.declared.reply_fault.ReplyWhy.TheVariants.{BadStatus, BadTextLength, BadText, BadFlag, BadBodyLength, EndOfInput}
use Rattle.envelope.specs.declared.kind.Part.{Part}
use Rattle.envelope.specs.declared.kind.Part.TheVariants.{Status, TextLength, Text, Flag, BodyLength, Missing}

abbrev pub reply_part_of : ReplyWhy → Part
reply_part_of BadStatus = Status
reply_part_of BadTextLength = TextLength
reply_part_of BadText = Text
reply_part_of BadFlag = Flag
reply_part_of BadBodyLength = BodyLength
reply_part_of EndOfInput = Missing
