use Rattle.pbwire.proofs.WritingLemmas.{entry_again, are_fields, spelling_is, spelled_fits, spelling_shortest}
use Rattle.pbwire.proofs.laws.written.Goals as goal

pub returns-clause-again : goal.returns-clause-again
returns-clause-again c = entry_again

pub returns-clause-spells : goal.returns-clause-spells
returns-clause-spells c = spelling_is

pub returns-clause-fits : goal.returns-clause-fits
returns-clause-fits c = spelled_fits

pub returns-clause-shortest : goal.returns-clause-shortest
returns-clause-shortest c = spelling_shortest

pub returns-clause-fields : goal.returns-clause-fields
returns-clause-fields c = are_fields
