-- The States that a keeper in memory may have.
use Rattle.std.specs.Prelude.{false, ⊤}
use Rattle.csi_memory.specs.declared.mem.MemKeeper.{MemKeeper}
use Rattle.csi_memory.specs.Kept.{IsKept}
use Rattle.csi_maps.specs.Stored.{as_volumes}
use Rattle.csi_keeper.specs.Model.{Model}
use Rattle.csi_keeper.specs.State.{State}

abbrev pub Holds : MemKeeper → State → Type 0
Holds m s = IsKept m.next (as_volumes m.volumes.entries) m.names m.pools m.attachments.entries m.nodes.entries s

-- the model of a keeper in memory: it is never down, counts no refusal, and a stop leaves nothing of it
abbrev pub mem_model : MemKeeper → Model State
mem_model m = record { holds = Holds m; doubt = 0; refusals = 0; survivors = λ s. ⊥; tied = ⊤; is_down = false }
