use Rattle.std.proofs.Common.{rules, tests}
use Rattle.std.specs.FinMap.{entries}
use Rattle.std.proofs.lemmas.Iterator.{YieldsList-from_take}
use Rattle.std.proofs.lemmas.Iterator.Consumers.{YieldsList-from_rest}
use Rattle.std.proofs.lemmas.Iterator.Search.{any_from_yields_List}
use Rattle.csi_types.specs.Topology.{alike}
use Rattle.csi_types.proofs.topology.is_key_alike_before.Goals as goal

pub returns : goal.returns
returns c =
    any_from_yields_List (λ e. alike e.0 c.args.key.now) _ _ _ c.any.ensures.ran
    (YieldsList-from_take c.args.count (YieldsList-from_rest (entries c.args.topology.now) cc) cc) (λ x b q k. search (rules, tests))
