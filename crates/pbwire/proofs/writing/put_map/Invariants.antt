use Rattle.std.proofs.Common.{◌≡◌, ◌++◌, map}
use Rattle.pbwire.specs.Writing.{spellings, map_entries, bytes_of}
use Rattle.pbwire.proofs.writing.put_map.Given as goal

abbrev pub invariant-loop-key : goal.invariant-loop-key
invariant-loop-key g l =
    (goal.iterator-loop-key g).can_next l.key-iterator
    × (goal.iterator-loop-key g).is_finite l.key-iterator
    × (l.out.items ≡ l.fn.out.items ++ spellings (map_entries l.number (map bytes_of l.yielded)))
