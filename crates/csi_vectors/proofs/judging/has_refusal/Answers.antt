use Rattle.std.proofs.Common.{refl}
use Rattle.csi_vectors.proofs.Refusals.{none_more, one_more}
use Rattle.csi_vectors.proofs.judging.has_refusal.Goals as goal

pub returns-in_default : goal.returns-in_default
returns-in_default c h = c.loop-reply.invariant (none_more c.loop-reply.rest.now c.take_reply.result c.reply_read_back.ensures c.take_reply.ensures c.in_default.not-Frame)

pub loop-reply-preserved : goal.loop-reply-preserved
loop-reply-preserved c after =
    c.loop-reply.invariant (one_more c.loop-reply.rest.now c.split_at.result.1.now c.in-Frame.reply c.in-Frame.size c.reply_read_back.ensures c.in-Frame.ensures (c.if-is_refusal.ensures refl) c.split_at.ensures.back after)
