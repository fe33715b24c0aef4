use Rattle.std.proofs.Common.{◌≡◌, ◌++◌}
use Rattle.std.specs.FinMap.{entries}
use Rattle.pbwire.specs.Writing.{spellings}
use Rattle.pbmessage.specs.Canon.{payload_fields, spelled, canon_map_entry, FitsMessages, FitsMapEntry, FitsMap}
use Rattle.pbmessage.specs.Kept.{Keeps}
use Rattle.pbmessage.proofs.writing.put_map.Given as goal

abbrev pub invariant-loop-key : goal.invariant-loop-key
invariant-loop-key l = record {
  wrote : l.out.items ++ spellings (payload_fields l.number (spelled canon_map_entry l.key-iterator)) ≡ l.fn.out.items ++ spellings (payload_fields l.number (spelled canon_map_entry (entries l.map)));
  fitting : FitsMessages FitsMapEntry canon_map_entry l.key-iterator → FitsMap l.map;
  kept : Keeps l.fn.out.items l.out.items;
}
