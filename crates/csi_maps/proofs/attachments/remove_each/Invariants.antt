use Rattle.std.proofs.Common.{◌≡◌}
use Rattle.csi_maps.specs.Rows.{places_of, removed_each, AreSpotted}
use Rattle.csi_maps.proofs.attachments.remove_each.Given as goal

abbrev pub invariant-loop-place : goal.invariant-loop-place
invariant-loop-place l = record {
  rows : places_of l.attachments.entries ≡ removed_each (places_of l.fn.attachments.entries) l.yielded;
  spotted : AreSpotted l.fn.attachments.entries l.fn.nodes.entries → AreSpotted l.attachments.entries l.nodes.entries;
}
