use Rattle.std.proofs.Common.{rules}
use Rattle.pbmessage.specs.facts.Writing.{keeps_on, wrote_next, wrote_signed}
use Rattle.csi_codec.proofs.messages.volumes.CapacityRangeWrittenCsi.write.Goals as goal

pub returns-in_err-put_signed-2-clause-kept : goal.returns-in_err-put_signed-2-clause-kept
returns-in_err-put_signed-2-clause-kept c = keeps_on _ _ _ c.put_signed-2.ensures.kept c.put_signed.ensures.kept

pub returns-clause-ok : goal.returns-clause-ok
returns-clause-ok c = wrote_next _ _ _ _ _ (wrote_signed _ _ 1 c.args.self.now.required (search rules) c.in_ok-put_signed.ensures.ok) (wrote_signed _ _ 2 c.args.self.now.limit (search rules) c.in_ok-put_signed-2.ensures.ok)

pub returns-clause-kept : goal.returns-clause-kept
returns-clause-kept c = keeps_on _ _ _ c.put_signed-2.ensures.kept c.put_signed.ensures.kept
