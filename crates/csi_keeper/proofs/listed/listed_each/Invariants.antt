use Rattle.std.proofs.Common.{◌≡◌, ◌++◌, drop}
use Rattle.std.specs.Vec.Iter.{into_iter_items}
use Rattle.csi_keeper.specs.Listing.{listed_each}
use Rattle.csi_keeper.proofs.listed.listed_each.Given as goal

abbrev pub invariant-loop-volume : goal.invariant-loop-volume
invariant-loop-volume l = l.listed ++ listed_each (drop l.volume-index l.volumes) (into_iter_items l.rest) ≡ listed_each l.volumes l.fn.nodes
