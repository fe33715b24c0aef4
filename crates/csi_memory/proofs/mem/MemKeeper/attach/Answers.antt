use Rattle.std.proofs.lemmas.Result.{on_ok_weaker, on_err_weaker}
use Rattle.csi_memory.proofs.KeptLemmas.{kept_attached, kept_unattached}
use Rattle.csi_memory.proofs.mem.MemKeeper.attach.Goals as goal

pub returns-clause-made : goal.returns-clause-made
returns-clause-made c =
    on_ok_weaker c.put_attachment.result (λ rows s k a. kept_attached _ _ _ _ _ _ s _ _ c.args.number c.args.attachment.now k a rows c.put_attachment.ensures.spotted) c.put_attachment.ensures.ok

pub returns-clause-unchanged : goal.returns-clause-unchanged
returns-clause-unchanged c =
    on_err_weaker c.put_attachment.result (λ rows s k a. kept_unattached _ _ _ _ _ _ s _ _ c.args.number c.args.attachment.now k a rows c.put_attachment.ensures.spotted) c.put_attachment.ensures.err
