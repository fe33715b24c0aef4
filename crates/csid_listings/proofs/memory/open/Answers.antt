use Rattle.csid_listings.proofs.MemoryLemmas.{opens_none}
use Rattle.csid_listings.proofs.memory.open.Goals as goal

pub returns-in-Ok-clause-blank : goal.returns-in-Ok-clause-blank
returns-in-Ok-clause-blank c = opens_none c.args.files c.in-Ok.conn c.in-Ok.ensures.opened c.in-Ok.ensures.found
