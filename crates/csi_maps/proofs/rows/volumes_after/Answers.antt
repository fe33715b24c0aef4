use Rattle.std.proofs.Common.{rules, ◌∙◌}
use Rattle.std.specs.Map.Iter.{deref_pair}
use Rattle.std.proofs.lemmas.Map.Iter.{rest_so_far}
use Rattle.csi_maps.specs.Stored.{as_volume}
use Rattle.csi_maps.specs.facts.Listing.{page_full}
use Rattle.csi_maps.proofs.rows.volumes_after.Goals as goal

pub returns-then-len-count : goal.returns-then-len-count
returns-then-len-count c =
    record {
      value = page_full (λ e. as_volume e.0 e.1) _ _ _ c.loop-number.copies c.args.count (search rules ∙ rest_so_far deref_pair c.loop-number.yielded _ _ c.loop-number.yielded_by) c.loop-number.invariant.reported c.loop-number.invariant.most (search rules);
      ordered = search rules;
    }
