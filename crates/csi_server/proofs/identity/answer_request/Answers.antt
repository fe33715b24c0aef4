use Rattle.std.proofs.Common.{refl, subst, Ok, Err}
use Rattle.std.specs.declared.alloc.AllocError.{AllocError}
use Rattle.csi_machine.specs.Verdicts.{IsReported, reported_of}
use Rattle.csi_machine.specs.declared.body.Verdict.{Verdict}
use Rattle.csi_machine.specs.declared.body.Verdict.TheVariants as verdict
use Rattle.csi_server.specs.Identity.{said}
use Rattle.csi_server.specs.Service.{room}
use Rattle.csi_server.proofs.Requesting.{said_by}
use Rattle.csi_server.proofs.identity.answer_request.Goals as goal

pub returns-in-Ok-Done-clause-step : goal.returns-in-Ok-Done-clause-step
returns-in-Ok-Done-clause-step c =
    let n = c.args.names.now.name.now in
    let v = c.args.names.now.version.now in
    let out = c.put_response.new.reply.items in
    said_by {E = AllocError} n v c.args.request.now (Ok verdict.Done) out _
    (subst (λ (x : Verdict). IsReported {E = AllocError} (reported_of (said n v c.args.request.now)) room out (Ok x)) c.in-Ok-Done.field-0-is c.in-Ok-Done.ensures.reported) refl

pub returns-in-Ok-Refused-clause-step : goal.returns-in-Ok-Refused-clause-step
returns-in-Ok-Refused-clause-step c =
    let n = c.args.names.now.name.now in
    let v = c.args.names.now.version.now in
    let out = c.put_response.new.reply.items in
    said_by {E = AllocError} n v c.args.request.now (Ok (verdict.Refused c.in-Ok-Refused.reason)) out _
    (subst (λ (x : Verdict). IsReported {E = AllocError} (reported_of (said n v c.args.request.now)) room out (Ok x)) c.in-Ok-Refused.field-0-is c.in-Ok-Refused.ensures.reported)
    (c.refuse.ensures.answered out)

pub returns-in-Err-clause-step : goal.returns-in-Err-clause-step
returns-in-Err-clause-step c =
    let n = c.args.names.now.name.now in
    let v = c.args.names.now.version.now in
    let out = c.put_response.new.reply.items in
    said_by {E = AllocError} n v c.args.request.now (Err c.in-Err.field-0) out _ tt (c.refuse-in-Err.ensures.answered out)
