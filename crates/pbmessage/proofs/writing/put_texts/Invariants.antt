use Rattle.std.proofs.Common.{◌≡◌, ◌++◌, take}
use Rattle.pbwire.specs.Writing.{spellings}
use Rattle.pbmessage.specs.Canon.{payload_fields, FitsTexts}
use Rattle.pbmessage.specs.Kept.{Keeps}
use Rattle.pbmessage.proofs.writing.put_texts.Given as goal

abbrev pub invariant-loop-text : goal.invariant-loop-text
invariant-loop-text l = record {
  wrote : l.out.items ≡ l.fn.out.items ++ spellings (payload_fields l.number (take l.text-index l.texts));
  fitting : FitsTexts (take l.text-index l.texts);
  kept : Keeps l.fn.out.items l.out.items;
}
