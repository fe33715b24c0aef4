-- The words of a fault, by its reason.
use Rattle.std.specs.Prelude.{ℕ, List, codes}
use Rattle.envelope.specs.declared.fault.FrameWhy.{FrameWhy}
use Rattle.envelope.specs.declared.fault.FrameWhy.TheVariants as call
use Rattle.envelope.specs.declared.reply_fault.ReplyWhy.{ReplyWhy}
use Rattle.envelope.specs.declared.reply_fault.ReplyWhy.TheVariants.{BadStatus, BadTextLength, BadText, BadFlag, BadBodyLength, EndOfInput}

abbrev pub fault_words : FrameWhy → List ℕ
fault_words call.BadPathLength = codes "bad path length at byte "
fault_words call.BadPath = codes "bad path at byte "
fault_words call.BadFlag = codes "bad flag at byte "
fault_words call.TooLong = codes "message too long at byte "
fault_words call.EndOfInput = codes "end of input at byte "

abbrev pub reply_fault_words : ReplyWhy → List ℕ
reply_fault_words BadStatus = codes "bad status at byte "
reply_fault_words BadTextLength = codes "bad text length at byte "
reply_fault_words BadText = codes "bad text at byte "
reply_fault_words BadFlag = codes "bad flag at byte "
reply_fault_words BadBodyLength = codes "bad body length at byte "
reply_fault_words EndOfInput = codes "end of input at byte "
