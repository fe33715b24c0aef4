use Rattle.std.proofs.Common.{◌≡◌, drop}
use Rattle.command_line.specs.Sizes.{size_text}
use Rattle.command_line.proofs.sizes.text_in.Given as goal

abbrev pub invariant-loop-unit : goal.invariant-loop-unit
invariant-loop-unit l = size_text l.units l.bytes ≡ size_text (drop l.unit-index l.units) l.bytes
