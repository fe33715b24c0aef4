use Rattle.std.proofs.Common.{◌≡◌, ◌++◌, reverse, map}
use Rattle.std.specs.FinMap.{entries, from_entries}
use Rattle.std.specs.Map.Iter.{deref_pair}
use Rattle.csi_types.proofs.Maps.{text_cmp}
use Rattle.csi_types.proofs.overlay.laid_over.Given as goal

abbrev pub invariant-loop-key : goal.invariant-loop-key
invariant-loop-key l =
    l.laid ≡ from_entries {R = text_cmp} (reverse (map deref_pair l.yielded) ++ entries l.map)
