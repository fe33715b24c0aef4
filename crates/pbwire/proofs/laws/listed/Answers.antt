use Rattle.pbwire.proofs.ListLemmas.{one_list, first_of, with_first}
use Rattle.pbwire.proofs.laws.listed.Goals as goal

pub returns-clause-unique : goal.returns-clause-unique
returns-clause-unique c = one_list

pub returns-clause-in_order : goal.returns-clause-in_order
returns-clause-in_order c = λ e es bytes. (first_of e es bytes, with_first e es bytes)
