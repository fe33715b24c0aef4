use Rattle.std.proofs.Common.{false}
use Rattle.csi_server.specs.Identity.{said, still}
use Rattle.csi_machine.specs.Verdicts.{reported_of}
use Rattle.csi_server.proofs.Requesting.{unread_by, read_by}
use Rattle.csi_server.proofs.identity.answer_message.Goals as goal

pub returns-in-Err-clause-step : goal.returns-in-Err-clause-step
returns-in-Err-clause-step c =
    unread_by (λ r. false) (λ s r. (reported_of (said c.args.names.now.name.now c.args.names.now.version.now r), s)) c.args.method c.args.message.now still tt _ c.in-Err.ensures.err tt

pub returns-in-Ok-clause-step : goal.returns-in-Ok-clause-step
returns-in-Ok-clause-step c =
    read_by (λ r. false) (λ s r. (reported_of (said c.args.names.now.name.now c.args.names.now.version.now r), s)) c.args.method c.args.message.now still still tt _ c.in-Ok.request c.in-Ok.ensures.ok.0 c.in-Ok.ensures.ok.1 c.answer_request.ensures.step
