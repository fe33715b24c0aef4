use Rattle.std.proofs.Common.{◌∙◌, false, sym}
use Rattle.envelope.specs.Envelope.{bytes_of}
use Rattle.csi_machine.specs.Verdicts.{reported_of}
use Rattle.csi_types.specs.Methods.{method_at}
use Rattle.csi_server.specs.Identity.{said, known, still}
use Rattle.csi_server.proofs.Requesting.{unknown_by, call_by}
use Rattle.csi_server.proofs.identity.IdentityServicePluginNames.answer.Goals as goal

pub returns-in-Some-clause-step : goal.returns-in-Some-clause-step
returns-in-Some-clause-step c clean s h =
    let n = c.args.config.now.name.now in
    let v = c.args.config.now.version.now in
    call_by (λ path. known (method_at path)) (λ r. false) (λ t r. (reported_of (said n v r), t)) (bytes_of c.args.call.now) still still tt _ c.in-Some.method (sym c.known_method.ensures ∙ c.in-Some.is) c.answer_message.ensures.step

pub returns-in-None-clause-step : goal.returns-in-None-clause-step
returns-in-None-clause-step c clean s h =
    let n = c.args.config.now.name.now in
    let v = c.args.config.now.version.now in
    unknown_by (λ path. known (method_at path)) (λ r. false) (λ t r. (reported_of (said n v r), t)) (bytes_of c.args.call.now) still tt _ (sym c.known_method.ensures ∙ c.in-None.is) (c.refuse.ensures.answered c.args.reply.now.items) tt
