use Rattle.pbmessage.specs.facts.Writing.{keeps_on, wrote_next}
use Rattle.csi_codec.proofs.messages.volumes.MountWrittenCsi.write.Goals as goal

pub returns-in_err-put_texts-clause-kept : goal.returns-in_err-put_texts-clause-kept
returns-in_err-put_texts-clause-kept c = keeps_on _ _ _ c.put_texts.ensures.kept c.put_text.ensures.kept

pub returns-in_err-put_text-2-clause-kept : goal.returns-in_err-put_text-2-clause-kept
returns-in_err-put_text-2-clause-kept c = keeps_on _ _ _ c.put_text-2.ensures.kept (keeps_on _ _ _ c.put_texts.ensures.kept c.put_text.ensures.kept)

pub returns-clause-ok : goal.returns-clause-ok
returns-clause-ok c = wrote_next _ _ _ _ _ (wrote_next _ _ _ _ _ c.in_ok-put_text.ensures.ok c.in_ok-put_texts.ensures.ok) c.in_ok-put_text-2.ensures.ok

pub returns-clause-kept : goal.returns-clause-kept
returns-clause-kept c = keeps_on _ _ _ c.put_text-2.ensures.kept (keeps_on _ _ _ c.put_texts.ensures.kept c.put_text.ensures.kept)
