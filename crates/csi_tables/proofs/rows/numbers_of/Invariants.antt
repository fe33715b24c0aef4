use Rattle.std.proofs.Common.{◌≡◌, map, take}
use Rattle.csi_tables.proofs.rows.numbers_of.Given as goal

abbrev pub invariant-loop-volume : goal.invariant-loop-volume
invariant-loop-volume l = l.numbers.items ≡ map (λ v. v.number) (take l.volume-index l.volumes)
