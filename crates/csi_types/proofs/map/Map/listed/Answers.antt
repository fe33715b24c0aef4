use Rattle.std.proofs.Common.{◌∙◌}
use Rattle.csi_types.proofs.Maps.{all_listed}
use Rattle.csi_types.proofs.map.Map.listed.Goals as goal

pub returns-then-is_empty : goal.returns-then-is_empty
returns-then-is_empty c = c.as_slice.ensures.value ∙ all_listed c.self.inside.listed.items c.self.inside.tree.entries c.args.self.now c.self.invariant c.self.view_is (c.is_empty.ensures.0 c.if-is_empty.true)
