use Rattle.std.proofs.Common.{◌∙◌, refl}
use Rattle.csi_keeper.specs.facts.Reads.{read_same}
use Rattle.csi_maps.specs.facts.Stored.{sizes_stored}
use Rattle.csi_memory.proofs.ReadLemmas.{held_sizes}
use Rattle.csi_memory.proofs.mem.MemKeeperKeeper.sizes_in.Goals as goal

pub returns : goal.returns
returns c = read_same _ _ refl (λ d s k.
    c.from_vec.ensures ∙ c.in_ok-sizes_of.ensures.value ∙ sizes_stored c.args.pool.now c.args.self.now.volumes.entries
    ∙ held_sizes _ _ _ _ _ _ s c.args.pool.now c.in_ok-sizes_of.ensures.ordered k)
