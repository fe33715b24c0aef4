use Rattle.std.proofs.Common.{false}
use Rattle.csi_types.specs.Methods.{method_at}
use Rattle.csi_server.specs.Identity.{said, known}
use Rattle.csi_machine.specs.Verdicts.{reported_of}
use Rattle.csi_server.proofs.Forms.{formed_reply, short_reported}
use Rattle.csi_server.proofs.laws.formed_identity.Goals as goal

pub returns : goal.returns
returns c name version call few =
    formed_reply (λ s r. (reported_of (said name version r), s)) (λ s r. short_reported (said name version r)) c.decimal_is_text.ensures c.reading.ensures.requests (λ path. known (method_at path)) (λ r. false) tt call few
