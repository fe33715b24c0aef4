use Rattle.csi_server.proofs.Requesting.{memory_by}
use Rattle.csi_server.proofs.VolumeLemmas.{answered_by, holds_body}
use Rattle.csi_server.proofs.volumes.answer_request.Goals as goal

pub returns-in-Ok-clause-step : goal.returns-in-Ok-clause-step
returns-in-Ok-clause-step g c d s h =
    let m = g.K.Keeper.model in
    answered_by c.args.config.now c.args.request.now (m c.args.keeper.now) (m c.append_answer.new.keeper) c.append_answer.result c.begin_body.new.reply.items c.append_answer.new.out.items s _
    c.in-Ok.ensures.ok c.append_answer.ensures.performs d h.0 h.1 (c.append_answer.ensures.invariant s h.1) (c.answer_of.ensures.reply c.append_answer.new.out.items)

pub returns-in-Ok-clause-room : goal.returns-in-Ok-clause-room
returns-in-Ok-clause-room g c =
    c.answer_of.ensures.room c.append_answer.new.out.items (holds_body c.begin_body.new.reply.items c.append_answer.new.out.items c.append_answer.result c.in-Ok.ensures.ok c.append_answer.ensures.performs.appended)

pub returns-in-Err-clause-step : goal.returns-in-Err-clause-step
returns-in-Err-clause-step g c d s h = memory_by _ _ _ s _ (c.refuse.ensures.answered c.begin_body.new.reply.items) tt h
