use Rattle.std.proofs.Common.{subst}
use Rattle.std.specs.List.Sorted.{IsStrictlySortedBy}
use Rattle.std.specs.Ordering.{nat_cmp}
use Rattle.csi_keeper.specs.Texts.{Text}
use Rattle.csi_maps.specs.Rows.{numbers_by}
use Rattle.csi_maps.proofs.NodesLemmas.{none_ordered}
use Rattle.csi_maps.proofs.nodes.numbers_at.Goals as goal

pub returns-clause-ordered : goal.returns-clause-ordered
returns-clause-ordered c =
    subst (λ (t : Text). IsStrictlySortedBy nat_cmp (numbers_by c.args.nodes.now.entries t)) c.in_ok-node.ensures
    (none_ordered c.args.nodes.now.entries c.in_ok-node.node c.in-None.ensures.value)
