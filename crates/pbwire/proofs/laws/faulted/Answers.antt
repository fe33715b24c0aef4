use Rattle.pbwire.proofs.FaultLemmas.{entry_fault, fault_entry, one_fault, nothing_spelled}
use Rattle.pbwire.proofs.laws.faulted.Goals as goal

pub returns-clause-reason : goal.returns-clause-reason
returns-clause-reason c = λ bytes why. (entry_fault bytes why, fault_entry bytes why)

pub returns-clause-only : goal.returns-clause-only
returns-clause-only c = λ bytes why other f g. one_fault bytes why other f g

pub returns-clause-spells_none : goal.returns-clause-spells_none
returns-clause-spells_none c = λ bytes first rest why e f is s. nothing_spelled bytes why f e first rest s is
