use Rattle.std.proofs.Common.{rules, ◌≡◌, ℕ, List, All, sym, subst}
use Rattle.csi_types.specs.Reasons.{text_of}
use Rattle.envelope.specs.Envelope.{IsTextByte}
use Rattle.csi_server.proofs.Reasons.{reason_printable}
use Rattle.csi_server.proofs.refused.reason_frame.Goals as goal

pub refusal_frame-requires-clause-printable : goal.refusal_frame-requires-clause-printable
refusal_frame-requires-clause-printable c =
    let is : c.as_bytes.result.now ≡ text_of c.args.reason = search rules in
    subst (λ (bytes : List ℕ). All IsTextByte bytes) (sym is) (reason_printable c.args.reason)
