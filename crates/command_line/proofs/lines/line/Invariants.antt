use Rattle.std.proofs.Common.{◌≡◌, ◌++◌, codes, encode_utf8_all}
use Rattle.std.specs.List.{flat_map}
use Rattle.std.specs.String.{string_bytes}
use Rattle.std.specs.Str.Iter.{chars_rest}
use Rattle.command_line.specs.Lines.{shown}
use Rattle.command_line.proofs.lines.line.Given as goal

abbrev pub invariant-loop-character : goal.invariant-loop-character
invariant-loop-character l = record {
  written : string_bytes l.line ≡ (l.fn.program ++ codes ": ") ++ encode_utf8_all (flat_map shown l.yielded);
  whole : encode_utf8_all l.yielded ++ chars_rest l.character-iterator ≡ l.fn.text;
}
