use Rattle.std.proofs.Common.{sym, subst}
use Rattle.envelope.specs.Envelope.{IsReply}
use Rattle.csi_server.specs.declared.refused.Refusal.{Refusal}
use Rattle.csi_server.specs.Service.{refused_by}
use Rattle.csi_server.proofs.refused.Refusal.frame.Goals as goal

pub returns-in-Malformed-clause-formed : goal.returns-in-Malformed-clause-formed
returns-in-Malformed-clause-formed c = subst (λ (r : Refusal). IsReply (refused_by r)) (sym c.in-Malformed.is) c.malformed_frame.ensures.formed
