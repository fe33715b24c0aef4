use Rattle.std.proofs.Common.{◌∙◌, sym}
use Rattle.envelope.specs.Envelope.{bytes_of}
use Rattle.csi_types.specs.Methods.{method_at}
use Rattle.csi_machine.specs.Step.{step}
use Rattle.csi_server.proofs.Requesting.{call_by, read_by}
use Rattle.csi_server.specs.Volumes.{asks_keeper}
use Rattle.csi_server.proofs.volumes.AnyServiceConfig.answer.Goals as goal

pub returns-in-Ok-clause-step : goal.returns-in-Ok-clause-step
returns-in-Ok-clause-step g c d s h =
    let call = bytes_of c.args.call.now in
    let read = c.in-Ok.ensures.ok in
    call_by method_at asks_keeper (step c.args.config.now) call _ _ s _ c.in-Some.method (sym c.method_of.ensures.at ∙ c.in-Some.is)
    (read_by asks_keeper (step c.args.config.now) c.in-Some.method call.message _ _ s _ c.in-Ok.request read.0 read.1 (c.answer_request.ensures.step d s h))
