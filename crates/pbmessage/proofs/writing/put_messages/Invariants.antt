use Rattle.std.proofs.Common.{◌≡◌, ◌++◌, take}
use Rattle.pbwire.specs.Writing.{spellings}
use Rattle.pbmessage.specs.Canon.{payload_fields, spelled, FitsMessages}
use Rattle.pbmessage.specs.Kept.{Keeps}
use Rattle.pbmessage.proofs.writing.put_messages.Given as goal

abbrev pub invariant-loop-message : goal.invariant-loop-message
invariant-loop-message g l = record {
  wrote : l.out.items ≡ l.fn.out.items ++ spellings (payload_fields l.number (spelled g.M.Written.canon (take l.message-index l.messages)));
  fitting : FitsMessages g.M.Written.fits g.M.Written.canon (take l.message-index l.messages);
  kept : Keeps l.fn.out.items l.out.items;
}
