use Rattle.std.proofs.Common.{◌≡◌, sym, subst, rules}
use Rattle.std.specs.declared.cmp.Ordering.TheVariants.{Less}
use Rattle.csi_types.specs.Maps.{AreBelow, IsRising}
use Rattle.csi_types.proofs.Maps.{beyond_last, is_less, text_cmp}
use Rattle.csi_types.proofs.map.entering.is_beyond.Goals as goal

pub returns-in-Some-clause-beyond : goal.returns-in-Some-clause-beyond
returns-in-Some-clause-beyond c = λ t.
    let whole = c.in-Some.ensures.cases.0 in
    let less : text_cmp c.in-Some.last.now.0 c.args.key.now ≡ Less = search (rules, is_less) in
    subst (AreBelow c.args.key.now) (sym whole) (beyond_last c.args.key.now c.in-Some.field-0-1.now c.in-Some.last.now (subst (λ es. IsRising es) whole c.requires) less)
