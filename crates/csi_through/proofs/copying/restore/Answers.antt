use Rattle.std.proofs.lemmas.Result.{IfErr-weaker, on_ok_weaker}
use Rattle.csi_through.proofs.copying.restore.Goals as goal

pub returns-clause-given : goal.returns-clause-given
returns-clause-given c = on_ok_weaker c.attach_each.result (λ attached s held can allows. attached _ (c.in_ok-restore.ensures.made s held can) allows) c.attach_each.ensures.attached

pub returns-clause-up : goal.returns-clause-up
returns-clause-up c = IfErr-weaker c.attach_each.result _ _ (λ e is down. cc (is, down)) c.attach_each.ensures.fault

pub returns-clause-fault : goal.returns-clause-fault
returns-clause-fault c = IfErr-weaker c.attach_each.result _ _ (λ e is held. is) c.attach_each.ensures.fault
