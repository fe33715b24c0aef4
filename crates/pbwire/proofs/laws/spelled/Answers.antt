use Rattle.std.proofs.Common.{ap, ◌∙◌, sym}
use Rattle.pbwire.specs.Reading.{field_at}
use Rattle.pbwire.proofs.PrefixLemmas.{no_longer}
use Rattle.pbwire.proofs.WireLemmas.{entry_sound, entry_spelled}
use Rattle.pbwire.proofs.laws.spelled.Goals as goal

pub returns-clause-exactly : goal.returns-clause-exactly
returns-clause-exactly c = λ bytes rest e. (entry_sound bytes (e, rest), λ s. ap field_at s.2 ∙ entry_spelled e s.0 rest s.1)

pub returns-clause-shorter : goal.returns-clause-shorter
returns-clause-shorter c = λ bytes rest e read. no_longer bytes rest e (sym read)
