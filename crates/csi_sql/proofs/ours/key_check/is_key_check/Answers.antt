use Rattle.std.proofs.Common.{◌∙◌, sym, refl, true≢false}
use Rattle.csi_sql.proofs.KeyCheckLemmas.{key_reports, no_key}
use Rattle.csi_sql.proofs.ours.key_check.is_key_check.Goals as goal

pub returns-in-Some : goal.returns-in-Some
returns-in-Some c =
    key_reports c.checks.inside.nodes c.checks.inside.roots c.in-Some.root _ c.checks.view_is (sym c.as_slice.ensures ∙ c.in-Some.ensures.value) _ (rw c.as_slice-in-Some.ensures at c.says_key.ensures)

pub returns-in-None : goal.returns-in-None
returns-in-None c = (
  λ t. absurd (true≢false (sym t)),
  λ e. absurd (no_key c.checks.inside.nodes c.checks.inside.roots _ c.checks.view_is (λ r s. c.in-None.ensures.none refl r (c.as_slice.ensures ∙ s)) e),
)
