use Rattle.std.proofs.Common.{◌≡◌, ℕ, List, All, refl, rules, sym, subst}
use Rattle.std.specs.Prelude.{codes}
use Rattle.envelope.specs.Envelope.{IsTextByte}
use Rattle.csi_server.proofs.Printable.{all_printable}
use Rattle.csi_server.proofs.refused.malformed_start.Goals as goal

pub returns-clause-printable : goal.returns-clause-printable
returns-clause-printable c =
    let words = codes "malformed message in the field at byte " in
    let is : c.as_bytes.result.now ≡ words = search rules in
    subst (λ (bytes : List ℕ). All IsTextByte bytes) (sym is) (all_printable words refl)
