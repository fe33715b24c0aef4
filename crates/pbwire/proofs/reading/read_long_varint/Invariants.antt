use Rattle.std.proofs.Common.{◌-◌, ◌≡◌, ◌<◌, ◌*◌, ◌^◌, drop}
use Rattle.pbwire.specs.Reading.{groups_at}
use Rattle.pbwire.proofs.VarintLemmas.{with_low}
use Rattle.pbwire.proofs.reading.read_long_varint.Given as goal

abbrev pub invariant-loop-count : goal.invariant-loop-count
invariant-loop-count l = record {
  low : l.value < 2 ^ (7 * l.count);
  read : with_low l.value (2 ^ (7 * l.count)) (groups_at (10 - l.count) (drop l.count l.bytes)) ≡ groups_at 10 l.bytes;
}
