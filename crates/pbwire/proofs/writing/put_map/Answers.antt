use Rattle.std.proofs.Common.{refl, true}
use Rattle.std.proofs.iter.runs.Made.{run, to_end}
use Rattle.pbwire.proofs.writing.put_map.Goals as goal

pub returns-clause-ok : goal.returns-clause-ok
returns-clause-ok g c =
    (run g.I.Iterator.next_gives _ c.loop-key.yielded true (to_end g.I.Iterator.next_gives _ c.loop-key.yielded (_, (_, c.loop-key.yielded_by, c.in-None.ensures.steps))), c.into_iter-key-iterator.ensures.into_iter_gives, refl, c.loop-key.invariant.2)
