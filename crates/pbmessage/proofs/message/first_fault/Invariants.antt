use Rattle.std.proofs.Common.{◌≡◌, false, length}
use Rattle.pbmessage.specs.Schema.{GoodField, Good}
use Rattle.pbmessage.proofs.MessageLemmas.{Looking}
use Rattle.pbmessage.proofs.message.first_fault.Given as goal

abbrev pub invariant-loop-next : goal.invariant-loop-next
invariant-loop-next g l = record {
  looking : Looking (GoodField (Good g.M.Message.schema)) l.bytes l.fields.rest l.offset;
  sound : l.fields.failed ≡ false;
  here : l.fields.at ≡ l.offset;
}

abbrev pub decreases-loop-next : goal.decreases-loop-next
decreases-loop-next g l = length l.fields.rest
