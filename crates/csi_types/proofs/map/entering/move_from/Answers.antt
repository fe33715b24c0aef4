use Rattle.std.proofs.Common.{sym, subst}
use Rattle.csi_types.specs.Maps.{IsRising}
use Rattle.csi_types.proofs.Maps.{front_rises}
use Rattle.csi_types.proofs.map.entering.move_from.Goals as goal

pub is_beyond-requires : goal.is_beyond-requires
is_beyond-requires c =
    let listed = c.loop-listed.listed.items in
    subst (λ es. IsRising es) (sym c.deref.ensures.value) (front_rises listed c.loop-listed.tree.entries (subst (λ es. IsRising es) (sym c.loop-listed.invariant) c.requires))
