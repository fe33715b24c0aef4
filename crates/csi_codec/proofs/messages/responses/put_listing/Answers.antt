use Rattle.pbmessage.specs.facts.Writing.{keeps_on, wrote_next}
use Rattle.csi_codec.proofs.messages.responses.put_listing.Goals as goal

pub returns-in_err-put_text-clause-kept : goal.returns-in_err-put_text-clause-kept
returns-in_err-put_text-clause-kept c = keeps_on _ _ _ c.put_text.ensures.kept c.put_messages.ensures.kept

pub returns-clause-ok : goal.returns-clause-ok
returns-clause-ok c = wrote_next _ _ _ _ _ c.in_ok-put_messages.ensures.ok c.in_ok-put_text.ensures.ok

pub returns-clause-kept : goal.returns-clause-kept
returns-clause-kept c = keeps_on _ _ _ c.put_text.ensures.kept c.put_messages.ensures.kept
