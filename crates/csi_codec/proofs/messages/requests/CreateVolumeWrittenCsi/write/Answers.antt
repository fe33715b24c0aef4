use Rattle.pbmessage.specs.facts.Writing.{keeps_on, wrote_next}
use Rattle.csi_codec.proofs.messages.requests.CreateVolumeWrittenCsi.write.Goals as goal

pub returns-in_err-put_option-clause-kept : goal.returns-in_err-put_option-clause-kept
returns-in_err-put_option-clause-kept c = keeps_on _ _ _ c.put_option.ensures.kept c.put_text.ensures.kept

pub returns-in_err-put_messages-clause-kept : goal.returns-in_err-put_messages-clause-kept
returns-in_err-put_messages-clause-kept c = keeps_on _ _ _ c.put_messages.ensures.kept (keeps_on _ _ _ c.put_option.ensures.kept c.put_text.ensures.kept)

pub returns-in_err-put_map-clause-kept : goal.returns-in_err-put_map-clause-kept
returns-in_err-put_map-clause-kept c = keeps_on _ _ _ c.put_map.ensures.kept (keeps_on _ _ _ c.put_messages.ensures.kept (keeps_on _ _ _ c.put_option.ensures.kept c.put_text.ensures.kept))

pub returns-in_err-put_map-2-clause-kept : goal.returns-in_err-put_map-2-clause-kept
returns-in_err-put_map-2-clause-kept c = keeps_on _ _ _ c.put_map-2.ensures.kept (keeps_on _ _ _ c.put_map.ensures.kept (keeps_on _ _ _ c.put_messages.ensures.kept (keeps_on _ _ _ c.put_option.ensures.kept c.put_text.ensures.kept)))

pub returns-in_err-put_presence-clause-kept : goal.returns-in_err-put_presence-clause-kept
returns-in_err-put_presence-clause-kept c = keeps_on _ _ _ c.put_presence.ensures.kept (keeps_on _ _ _ c.put_map-2.ensures.kept (keeps_on _ _ _ c.put_map.ensures.kept (keeps_on _ _ _ c.put_messages.ensures.kept (keeps_on _ _ _ c.put_option.ensures.kept c.put_text.ensures.kept))))

pub returns-in_err-put_option-2-clause-kept : goal.returns-in_err-put_option-2-clause-kept
returns-in_err-put_option-2-clause-kept c = keeps_on _ _ _ c.put_option-2.ensures.kept (keeps_on _ _ _ c.put_presence.ensures.kept (keeps_on _ _ _ c.put_map-2.ensures.kept (keeps_on _ _ _ c.put_map.ensures.kept (keeps_on _ _ _ c.put_messages.ensures.kept (keeps_on _ _ _ c.put_option.ensures.kept c.put_text.ensures.kept)))))

pub returns-in_err-put_map-3-clause-kept : goal.returns-in_err-put_map-3-clause-kept
returns-in_err-put_map-3-clause-kept c = keeps_on _ _ _ c.put_map-3.ensures.kept (keeps_on _ _ _ c.put_option-2.ensures.kept (keeps_on _ _ _ c.put_presence.ensures.kept (keeps_on _ _ _ c.put_map-2.ensures.kept (keeps_on _ _ _ c.put_map.ensures.kept (keeps_on _ _ _ c.put_messages.ensures.kept (keeps_on _ _ _ c.put_option.ensures.kept c.put_text.ensures.kept))))))

pub returns-clause-ok : goal.returns-clause-ok
returns-clause-ok c = wrote_next _ _ _ _ _ (wrote_next _ _ _ _ _ (wrote_next _ _ _ _ _ (wrote_next _ _ _ _ _ (wrote_next _ _ _ _ _ (wrote_next _ _ _ _ _ (wrote_next _ _ _ _ _ c.in_ok-put_text.ensures.ok c.in_ok-put_option.ensures.ok) c.in_ok-put_messages.ensures.ok) c.in_ok-put_map.ensures.ok) c.in_ok-put_map-2.ensures.ok) c.in_ok-put_presence.ensures.ok) c.in_ok-put_option-2.ensures.ok) c.in_ok-put_map-3.ensures.ok

pub returns-clause-kept : goal.returns-clause-kept
returns-clause-kept c = keeps_on _ _ _ c.put_map-3.ensures.kept (keeps_on _ _ _ c.put_option-2.ensures.kept (keeps_on _ _ _ c.put_presence.ensures.kept (keeps_on _ _ _ c.put_map-2.ensures.kept (keeps_on _ _ _ c.put_map.ensures.kept (keeps_on _ _ _ c.put_messages.ensures.kept (keeps_on _ _ _ c.put_option.ensures.kept c.put_text.ensures.kept))))))
