use Rattle.std.proofs.Common.{List, ℕ, subst}
use Rattle.csi_machine.specs.Answering.{Performs}
use Rattle.csi_machine.proofs.answering.answer.Goals as goal

pub returns-clause-performs : goal.returns-clause-performs
returns-clause-performs g c =
    let m = g.K.Keeper.model in
    subst (λ (from : List ℕ). Performs c.args.config.now c.args.request.now (m c.args.keeper.now) (m c.append_answer.new.keeper) from c.append_answer.new.out.items c.append_answer.result) c.clear.ensures.items c.append_answer.ensures.performs
