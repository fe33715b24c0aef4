use Rattle.std.proofs.Common.{◌≡◌, drop, find}
use Rattle.csi_types.specs.Maps.{same_text}
use Rattle.csi_machine.proofs.places.placement_named.Given as goal

-- no earlier pool has the name
abbrev pub invariant-loop-place : goal.invariant-loop-place
invariant-loop-place l = find (λ place. same_text place.pool l.fn.pool) l.places ≡ find (λ place. same_text place.pool l.fn.pool) (drop l.place-index l.places)
