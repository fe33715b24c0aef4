use Rattle.std.proofs.Common.{rules, ◌≡◌, ◌++◌, arith, decimal}
use Rattle.std.specs.Prelude.{codes}
use Rattle.csi_server.proofs.Forms.{formed_malformed}
use Rattle.csi_server.proofs.refused.malformed_frame.Goals as goal

pub returns-clause-formed : goal.returns-clause-formed
returns-clause-formed c =
    let is : c.text_and_number.result ≡ codes "malformed message in the field at byte " ++ decimal c.args.at = search rules in
    formed_malformed c.args.at c.text_and_number.result is (omega (arith, c.text_and_number.ensures.short, c.malformed_start.ensures.short)) c.text_and_number.ensures.printable
