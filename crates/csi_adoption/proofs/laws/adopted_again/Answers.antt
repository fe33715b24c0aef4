use Rattle.csi_adoption.proofs.AgainLemmas.{either_taken, ends_taken, stops_taken}
use Rattle.csi_adoption.proofs.laws.adopted_again.Goals as goal

pub returns-clause-ended : goal.returns-clause-ended
returns-clause-ended g c = ends_taken g.S.Store c.one_state.ensures

pub returns-clause-stopped : goal.returns-clause-stopped
returns-clause-stopped g c = stops_taken g.S.Store c.one_state.ensures

pub returns-clause-either : goal.returns-clause-either
returns-clause-either g c = either_taken g.S.Store c.one_state.ensures
