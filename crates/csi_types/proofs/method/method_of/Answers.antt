use Rattle.std.proofs.Common.{◌≡◌, None, rules, sym, ◌∙◌}
use Rattle.csi_types.proofs.MethodLemmas.{no_method, this_method}
use Rattle.csi_types.proofs.method.method_of.Goals as goal

pub returns-in_err-method-clause-at : goal.returns-in_err-method-clause-at
returns-in_err-method-clause-at c =
    let none : c.from_residual.result ≡ None = search rules in
    let unlikely : c.likely_method.result ≡ None = search rules in
    none ∙ no_method _ (λ m e. sym unlikely ∙ c.likely_method.ensures m e)

pub returns-clause-at : goal.returns-clause-at
returns-clause-at c =
    c.then_some.ensures ∙ this_method c.args.path.now c.eq.result c.in_ok-method.method (c.eq.ensures ∙ search rules) (λ n e. sym c.in_ok-method.was ∙ c.likely_method.ensures n e)
