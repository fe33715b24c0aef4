use Rattle.std.proofs.Common.{arith, sym}
use Rattle.std.proofs.lemmas.List.{get_or_past}
use Rattle.csi_files.specs.Making.{first_bytes}
use Rattle.csi_files.proofs.making.page_byte.Goals as goal

pub returns-else-at-lt108 : goal.returns-else-at-lt108
returns-else-at-lt108 c = sym (get_or_past first_bytes c.args.at 0 (omega (arith, c.if-at-lt108.false)))
