use Rattle.std.proofs.Common.{arith, ◌*◌, ◌+◌}
use Rattle.pbwire.proofs.VarintLemmas.{length-minimal}
use Rattle.pbwire.proofs.writing.head_of.Goals as goal

pub push_varint-requires-2 : goal.push_varint-requires-2
push_varint-requires-2 c = rw (c.push_varint.ensures, c.new-head.ensures) (omega (arith, length-minimal 9 (c.from.result * 8 + c.args.wire_type)))
