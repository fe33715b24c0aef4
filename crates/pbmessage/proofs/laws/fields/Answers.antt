use Rattle.pbmessage.specs.facts.Fields.{fields_are}
use Rattle.pbmessage.proofs.laws.fields.Goals as goal

pub returns : goal.returns
returns c = λ bytes es h. fields_are (record { exactly = c.spelled.ensures.exactly; shorter = c.spelled.ensures.shorter }) es bytes h
