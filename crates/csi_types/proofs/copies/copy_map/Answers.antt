use Rattle.std.proofs.Common.{◌≡◌, ap, sym, ◌∙◌, map, reverse, rules}
use Rattle.std.specs.FinMap.{empty_of_len, entries, from_entries, len}
use Rattle.std.specs.Map.Iter.{deref_pair}
use Rattle.std.proofs.lemmas.Map.Iter.{iter_end}
use Rattle.csi_types.proofs.Maps.{again, text_cmp}
use Rattle.csi_types.proofs.copies.copy_map.Goals as goal

pub returns-then-is_empty : goal.returns-then-is_empty
returns-then-is_empty c =
    let none : len c.args.map.now ≡ 0 = search rules in
    c.new-copy.ensures ∙ sym (empty_of_len c.args.map.now none)

pub returns : goal.returns
returns c =
    let all : map deref_pair c.loop-key.yielded ≡ entries c.args.map.now =
    (iter_end deref_pair (entries c.args.map.now) c.loop-key.yielded _ c.loop-key.key-iterator c.next.new.self c.next.result c.into_iter-key-iterator.ensures.into_iter_gives c.loop-key.yielded_by c.in-None.is c.next.ensures.steps).0 in
    c.loop-key.invariant ∙ ap (λ es. from_entries {R = text_cmp} (reverse es)) all ∙ again c.args.map.now
