use Rattle.csi_machine.proofs.AgainLemmas.{step_again}
use Rattle.csi_machine.proofs.ModifyLemmas.{AreLaid}
use Rattle.csi_machine.proofs.ReachLemmas.{served_alike}
use Rattle.csi_machine.proofs.laws.repeat.Goals as goal

laid : (c : goal.After-inclusions) → AreLaid
laid c = record { given = c.overlays.ensures.given; again = c.overlays.ensures.again; own = c.inclusions.ensures.own }

pub returns : goal.returns
returns c s r inv passed = step_again (served_alike c.equal_topologies.ensures.inner c.equal_topologies.ensures.outer) (laid c) c.args.config.now c.configured.ensures s r inv passed
