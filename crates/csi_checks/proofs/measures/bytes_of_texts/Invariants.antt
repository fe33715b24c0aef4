use Rattle.std.proofs.Common.{◌≡◌, ◌^◌, ◌-◌, min, length, sum_by, take}
use Rattle.csi_checks.proofs.measures.bytes_of_texts.Given as goal

abbrev pub invariant-loop-text : goal.invariant-loop-text
invariant-loop-text l = l.bytes ≡ min (sum_by length (take l.text-index l.texts)) (2 ^ 64 - 1)
