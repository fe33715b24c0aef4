use Rattle.csi_memory.specs.Holding.{Holds}
use Rattle.csi_keeper.specs.State.{State}
use Rattle.csi_through.specs.Copying.{AllowsEach, attached_each}
use Rattle.csi_through.proofs.copying.attach_each.Given as goal

abbrev pub invariant-loop-attachment : goal.invariant-loop-attachment
invariant-loop-attachment l = (s : State) → Holds l.fn.memory s → AllowsEach s l.number l.yielded → Holds l.memory (attached_each s l.number l.yielded)
