use Rattle.std.proofs.Common.{◌≡◌, ◌∙◌, ap, arith, inl, inr, length, sym}
use Rattle.std.specs.Char.{is_ascii_hexdigit}
use Rattle.std.specs.List.{list_all}
use Rattle.csi_vectors.proofs.Digits.{digits_spell, spelling_digits}
use Rattle.csi_vectors.proofs.Reading.{not_empty}
use Rattle.csi_vectors.proofs.vector.is_spelling.Goals as goal

pub returns-clause-true_only_if : goal.returns-clause-true_only_if
returns-clause-true_only_if c h =
    let digits = c.args.digits.now in
    digits_spell digits (not_empty digits c.if-is_empty.ensures) c.if-digits-ne0.false (ap (list_all is_ascii_hexdigit) (sym c.as_bytes.ensures.value) ∙ sym c.are_digits.ensures ∙ h)

pub returns-clause-none : goal.returns-clause-none
returns-clause-none c s =
    elim (spelling_digits c.args.digits.now s) [
      | inl dash ↦ (let one : length c.args.digits.now ≡ 1 = ap length dash in absurd (omega (arith, one, c.if-digits-ne0.false)))
      | inr h ↦ c.are_digits.ensures ∙ ap (list_all is_ascii_hexdigit) c.as_bytes.ensures.value ∙ h.2
    ]
