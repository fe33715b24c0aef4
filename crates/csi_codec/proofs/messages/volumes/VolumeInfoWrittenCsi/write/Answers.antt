use Rattle.std.proofs.Common.{rules}
use Rattle.pbmessage.specs.facts.Writing.{keeps_on, wrote_next, wrote_signed}
use Rattle.csi_codec.proofs.messages.volumes.VolumeInfoWrittenCsi.write.Goals as goal

pub returns-in_err-put_text-clause-kept : goal.returns-in_err-put_text-clause-kept
returns-in_err-put_text-clause-kept c = keeps_on _ _ _ c.put_text.ensures.kept c.put_signed.ensures.kept

pub returns-in_err-put_map-clause-kept : goal.returns-in_err-put_map-clause-kept
returns-in_err-put_map-clause-kept c = keeps_on _ _ _ c.put_map.ensures.kept (keeps_on _ _ _ c.put_text.ensures.kept c.put_signed.ensures.kept)

pub returns-in_err-put_messages-clause-kept : goal.returns-in_err-put_messages-clause-kept
returns-in_err-put_messages-clause-kept c = keeps_on _ _ _ c.put_messages.ensures.kept (keeps_on _ _ _ c.put_map.ensures.kept (keeps_on _ _ _ c.put_text.ensures.kept c.put_signed.ensures.kept))

pub returns-clause-kept : goal.returns-clause-kept
returns-clause-kept c = keeps_on _ _ _ c.put_messages.ensures.kept (keeps_on _ _ _ c.put_map.ensures.kept (keeps_on _ _ _ c.put_text.ensures.kept c.put_signed.ensures.kept))

pub returns-clause-ok : goal.returns-clause-ok
returns-clause-ok c = wrote_next _ _ _ _ _ (wrote_next _ _ _ _ _ (wrote_next _ _ _ _ _ (wrote_signed _ _ 1 c.args.self.now.bytes (search rules) c.in_ok-put_signed.ensures.ok) c.in_ok-put_text.ensures.ok) c.in_ok-put_map.ensures.ok) c.in_ok-put_messages.ensures.ok
