use Rattle.std.proofs.Common.{rules, subst, sym}
use Rattle.std.specs.Prelude.{IfErr}
use Rattle.csi_types.specs.declared.method.Method.{Method}
use Rattle.csi_types.specs.declared.responses.Response.TheVariants as response
use Rattle.csi_codec.specs.Methods.{RefusesResponse, MeansResponse, IsNoResponse, IsGoodResponse}
use Rattle.pbmessage.specs.facts.Parts.{mapped}
use Rattle.csi_codec.proofs.responses.decode_by_method.Goals as goal

pub returns-in_err-decode_message-in-Probe-clause-err : goal.returns-in_err-decode_message-in-Probe-clause-err
unfolding IsNoResponse IsGoodResponse
returns-in_err-decode_message-in-Probe-clause-err c =
    subst (λ (m : Method). IfErr c.from_residual-in_err-decode_message-in-Probe.result (RefusesResponse m c.args.bytes.now)) (sym c.in-Probe.is) (search rules)

pub returns-in_ok-decode_message-in-Probe-clause-ok : goal.returns-in_ok-decode_message-in-Probe-clause-ok
unfolding MeansResponse
returns-in_ok-decode_message-in-Probe-clause-ok c =
    subst (λ (m : Method). MeansResponse m c.args.bytes.now (response.Probe c.in_ok-decode_message-in-Probe.field-0)) (sym c.in-Probe.is)
    (mapped (λ x. response.Probe x) c.in_ok-decode_message-in-Probe.ensures.ok)

pub returns-in_err-decode_message-in-CreateVolume-clause-err : goal.returns-in_err-decode_message-in-CreateVolume-clause-err
unfolding IsNoResponse IsGoodResponse
returns-in_err-decode_message-in-CreateVolume-clause-err c =
    subst (λ (m : Method). IfErr c.from_residual-in_err-decode_message-in-CreateVolume.result (RefusesResponse m c.args.bytes.now)) (sym c.in-CreateVolume.is) (search rules)
