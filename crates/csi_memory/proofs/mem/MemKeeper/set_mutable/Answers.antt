use Rattle.std.proofs.Common.{◌∙◌, ap}
use Rattle.csi_types.specs.Maps.{TextMap}
use Rattle.csi_maps.specs.Rows.{volumes_of}
use Rattle.csi_maps.specs.Stored.{as_volumes}
use Rattle.csi_keeper.specs.State.{mutable_set}
use Rattle.std.specs.FinMap.{get}
use Rattle.csi_memory.proofs.ChangeLemmas.{kept_mutable}
use Rattle.csi_memory.proofs.mem.MemKeeper.set_mutable.Goals as goal

pub returns-clause-made : goal.returns-clause-made
returns-clause-made c s k a =
    let volumes = volumes_of (as_volumes c.args.self.now.volumes.entries) in
    kept_mutable _ _ _ _ _ _ s _ c.args.number _ k
    (c.set_mutable.ensures ∙ ap (λ (m : TextMap). mutable_set volumes c.args.number m (get volumes c.args.number)) (c.in_ok-copy.ensures ∙ c.in_ok-copy_map.ensures))
