use Rattle.pbmessage.specs.Schema.{GoodField, Good}
use Rattle.pbmessage.proofs.MessageLemmas.{none_is_good}
use Rattle.pbmessage.proofs.slots.is_message.Goals as goal

pub returns : goal.returns
returns g c = none_is_good (GoodField (Good g.M.Message.schema)) c.args.payload.now c.first_fault.result c.is_none.result c.first_fault.ensures c.is_none.ensures
