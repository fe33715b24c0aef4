use Rattle.std.proofs.Common.{◌≡◌, false, length}
use Rattle.pbmessage.specs.Schema.{GoodField, Good}
use Rattle.pbmessage.proofs.MessageLemmas.{Merging}
use Rattle.pbmessage.specs.Views.{value_of}
use Rattle.pbmessage.proofs.message.merge.Given as goal

abbrev pub invariant-loop-next : goal.invariant-loop-next
invariant-loop-next g l = record {
  merging : Merging (GoodField (Good g.M.Message.schema)) (value_of g.M.Message.of) l.bytes l.fields.rest l.initial.message l.message;
  sound : l.fields.failed ≡ false;
}

abbrev pub decreases-loop-next : goal.decreases-loop-next
decreases-loop-next g l = length l.fields.rest
