use Rattle.std.proofs.Common.{◌≡◌, ◌++◌, encode_utf8_all}
use Rattle.std.specs.Char.Escape.{escape_default}
use Rattle.std.specs.Char.Iter.{escape_rest}
use Rattle.std.specs.String.{string_bytes}
use Rattle.command_line.proofs.lines.push_shown.Given as goal

abbrev pub invariant-loop-escaped : goal.invariant-loop-escaped
invariant-loop-escaped l = record {
  written : string_bytes l.line ≡ string_bytes l.fn.line ++ encode_utf8_all l.yielded;
  whole : l.yielded ++ escape_rest l.escaped-iterator ≡ escape_default l.fn.character;
}
