use Rattle.std.proofs.Common.{◌++◌, ap, sym, ◌∙◌, subst}
use Rattle.csi_types.specs.Maps.{IsRising}
use Rattle.csi_types.proofs.Maps.{last_moves}
use Rattle.csi_types.proofs.map.entering.move_last.Goals as goal

pub returns-in-Ok-clause-unchanged : goal.returns-in-Ok-clause-unchanged
returns-in-Ok-clause-unchanged c =
    ap (λ es. c.pop.new.self.items ++ es) c.in-Ok.ensures.entries
    ∙ last_moves c.pop.new.self.items (c.in-Some.key, c.in-Some.value) c.args.tree.now.entries (subst (λ es. IsRising (es ++ c.args.tree.now.entries)) c.in-Some.ensures.items c.requires.rising)
    ∙ ap (λ es. es ++ c.args.tree.now.entries) (sym c.in-Some.ensures.items)
