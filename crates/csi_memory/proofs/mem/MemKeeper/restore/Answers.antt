use Rattle.std.proofs.lemmas.Result.{on_ok_weaker, on_err_weaker}
use Rattle.csi_memory.proofs.KeptLemmas.{restorable}
use Rattle.csi_memory.proofs.mem.MemKeeper.restore.Goals as goal

pub returns-clause-made : goal.returns-clause-made
returns-clause-made c = on_ok_weaker c.add.result (λ made s kept can. made _ (c.skip_to.ensures s kept) (restorable s c.args.volume can)) c.add.ensures.made

pub returns-clause-unchanged : goal.returns-clause-unchanged
returns-clause-unchanged c = on_err_weaker c.add.result (λ same s kept can. same _ (c.skip_to.ensures s kept) (restorable s c.args.volume can)) c.add.ensures.unchanged
