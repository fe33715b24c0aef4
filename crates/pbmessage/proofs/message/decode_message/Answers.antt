use Rattle.pbmessage.specs.Schema.{GoodField, Good}
use Rattle.pbmessage.proofs.MessageLemmas.{decoded}
use Rattle.pbmessage.specs.Views.{value_of}
use Rattle.pbmessage.proofs.message.decode_message.Goals as goal

pub returns-in-Ok-clause-ok : goal.returns-in-Ok-clause-ok
returns-in-Ok-clause-ok g c = decoded (GoodField (Good g.M.Message.schema)) (value_of g.M.Message.of) c.args.bytes.now c.in-Ok.message c.fields.ensures c.in_default.ensures c.in-Ok.ensures
