use Rattle.std.proofs.Common.{◌++◌, chars, codes}
use Rattle.std.proofs.lemmas.Str.{chars_from_encodes}
use Rattle.std.specs.Str.Iter.{chars_rest}
use Rattle.std.specs.String.{string_bytes}
use Rattle.command_line.specs.Lines.{shown}
use Rattle.command_line.proofs.LineLemmas.{all_read, ended, one_of_text, one_shown}
use Rattle.command_line.proofs.lines.line.Goals as goal

pub loop-character-preserved : goal.loop-character-preserved
loop-character-preserved c = record {
  written = one_shown shown (c.args.program.now ++ codes ": ") c.loop-character.yielded c.in-Some.character (string_bytes c.loop-character.line) (string_bytes c.push_shown.new.line) c.loop-character.invariant.written c.in_ok-push_shown.ensures.ok;
  whole = one_of_text c.loop-character.yielded c.in-Some.character (chars_rest c.loop-character.character-iterator) (chars_rest c.next.new.self) c.args.text.now c.loop-character.invariant.whole c.in-Some.ensures.steps.0;
}

pub returns : goal.returns
returns c = record {
  ok = ended shown (c.args.program.now ++ codes ": ") c.loop-character.yielded (chars c.args.text.now) (string_bytes c.loop-character.line) (string_bytes c.push.new.self) c.loop-character.invariant.written c.in_ok-push.ensures.bytes
      (chars_from_encodes c.loop-character.yielded c.args.text.now c.utf8.text (all_read c.loop-character.yielded (chars_rest c.loop-character.character-iterator) c.args.text.now c.loop-character.invariant.whole c.in-None.ensures.steps.0.0));
}
