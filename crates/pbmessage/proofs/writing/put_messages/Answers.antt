use Rattle.pbmessage.specs.facts.Writing.{keeps_on}
use Rattle.pbmessage.proofs.writing.put_messages.Goals as goal

pub returns-in_err-put_message-clause-kept : goal.returns-in_err-put_message-clause-kept
returns-in_err-put_message-clause-kept g c = keeps_on _ _ _ c.put_message.ensures.kept c.loop-message.invariant.kept
