use Rattle.std.proofs.Common.{◌≡◌, ◌++◌, ap, codes, sym, subst, ◌∙◌, IfOk, Option}
use Rattle.csi_types.specs.declared.method.Method.{Method}
use Rattle.csi_types.specs.Methods.{method_at, method_named, or_else}
use Rattle.csi_types.proofs.method.method_named.Goals as goal

pub returns-in-Some : goal.returns-in-Some
returns-in-Some c =
    let other = method_at (codes "/csi.v1.Identity/" ++ c.args.name.now) in
    sym (ap (λ (o : Option Method). or_else o other) (sym c.in_ok-method.ensures ∙ c.in-Some.is))

pub returns-in-None : goal.returns-in-None
returns-in-None c =
    let other = method_at (codes "/csi.v1.Identity/" ++ c.args.name.now) in
    let named : other ≡ method_named c.args.name.now = sym (ap (λ (o : Option Method). or_else o other) (sym c.in_ok-method.ensures ∙ c.in-None.is)) in
    subst (λ (o : Option Method). IfOk c.method_under-in-None.result (λ method. method ≡ o)) named c.method_under-in-None.ensures
