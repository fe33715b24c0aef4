use Rattle.std.proofs.Common.{◌≡◌, ◌^◌, ◌-◌, ◌+◌, min, length, sum_by, map}
use Rattle.std.specs.Map.Iter.{deref_pair}
use Rattle.csi_types.proofs.measures.entries_bytes.Given as goal

abbrev pub invariant-loop-key : goal.invariant-loop-key
invariant-loop-key l =
    l.bytes ≡ min (sum_by (λ e. length e.0 + length e.1) (map deref_pair l.yielded)) (2 ^ 64 - 1)
