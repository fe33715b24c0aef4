use Rattle.std.proofs.Common.{◌^◌, ◌-◌, ◌+◌, ◌∙◌, ap, min, length, sum_by, rules}
use Rattle.std.specs.FinMap.{entries}
use Rattle.std.specs.Map.Iter.{deref_pair}
use Rattle.std.proofs.lemmas.Map.Iter.{iter_end}
use Rattle.csi_types.proofs.measures.entries_bytes.Goals as goal

pub returns : goal.returns
returns c =
    let all = (iter_end deref_pair (entries c.args.map.now) c.loop-key.yielded _ _ _ c.next.result (search rules) c.loop-key.yielded_by c.in-None.is c.next.ensures.steps).0 in
    c.loop-key.invariant ∙ ap (λ es. min (sum_by (λ e. length e.0 + length e.1) es) (2 ^ 64 - 1)) all
