use Rattle.std.proofs.Common.{rules}
use Rattle.pbmessage.specs.facts.Writing.{keeps_on, wrote_next, wrote_signed}
use Rattle.csi_codec.proofs.created.CreatedVolumeWrittenCsi.write.Goals as goal

pub returns-in_err-put_joined-clause-kept : goal.returns-in_err-put_joined-clause-kept
returns-in_err-put_joined-clause-kept c = keeps_on _ _ _ c.put_joined.ensures.kept c.put_signed.ensures.kept

pub returns-in_err-put_single-clause-kept : goal.returns-in_err-put_single-clause-kept
returns-in_err-put_single-clause-kept c = keeps_on _ _ _ c.put_single.ensures.kept (keeps_on _ _ _ c.put_joined.ensures.kept c.put_signed.ensures.kept)

pub returns-in_err-put_topology-clause-kept : goal.returns-in_err-put_topology-clause-kept
returns-in_err-put_topology-clause-kept c = keeps_on _ _ _ c.put_topology.ensures.kept (keeps_on _ _ _ c.put_single.ensures.kept (keeps_on _ _ _ c.put_joined.ensures.kept c.put_signed.ensures.kept))

pub returns-clause-kept : goal.returns-clause-kept
returns-clause-kept c = keeps_on _ _ _ c.put_topology.ensures.kept (keeps_on _ _ _ c.put_single.ensures.kept (keeps_on _ _ _ c.put_joined.ensures.kept c.put_signed.ensures.kept))

pub returns-clause-ok : goal.returns-clause-ok
returns-clause-ok c = wrote_next _ _ _ _ _ (wrote_next _ _ _ _ _ (wrote_next _ _ _ _ _ (wrote_signed _ _ 1 c.args.self.now.bytes (search rules) c.in_ok-put_signed.ensures.ok) c.in_ok-put_joined.ensures.ok) c.in_ok-put_single.ensures.ok) c.in_ok-put_topology.ensures.ok
