use Rattle.std.proofs.Common.{◌≡◌, ◌++◌, ap, sym, ◌∙◌, map, reverse}
use Rattle.std.specs.FinMap.{entries, from_entries}
use Rattle.std.specs.Map.Iter.{deref_pair}
use Rattle.std.proofs.lemmas.Map.Iter.{iter_end}
use Rattle.csi_types.proofs.Maps.{text_cmp}
use Rattle.csi_types.proofs.OverlayLemmas.{itself, laid_from}
use Rattle.csi_types.proofs.overlay.laid_over.Goals as goal

pub loop-key-init : goal.loop-key-init
loop-key-init c = c.in_ok-laid.ensures ∙ sym (itself c.args.map.now)

pub returns : goal.returns
returns c =
    let all : map deref_pair c.loop-key.yielded ≡ entries c.args.given.now =
    (iter_end deref_pair (entries c.args.given.now) c.loop-key.yielded _ c.loop-key.key-iterator c.next.new.self c.next.result c.into_iter-key-iterator.ensures.into_iter_gives c.loop-key.yielded_by c.in-None.is c.next.ensures.steps).0 in
    c.loop-key.invariant ∙ ap (λ es. from_entries {R = text_cmp} (reverse es ++ entries c.args.map.now)) all ∙ laid_from c.args.map.now c.args.given.now
