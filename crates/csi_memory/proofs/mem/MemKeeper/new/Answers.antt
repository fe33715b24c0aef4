use Rattle.std.proofs.Common.{ap}
use Rattle.csi_memory.proofs.ReadLemmas.{first_held}
use Rattle.csi_maps.specs.Stored.{as_volumes}
use Rattle.csi_memory.proofs.mem.MemKeeper.new.Goals as goal

pub returns : goal.returns
returns c = first_held c.args.first c.requires.least _ _ _ _ _ (ap as_volumes c.new.ensures.empty) c.new-2.ensures.0 c.new-2.ensures.1 c.new-4.ensures.empty c.new-5.ensures.empty c.new-3.ensures
