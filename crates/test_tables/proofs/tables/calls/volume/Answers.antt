use Rattle.std.proofs.Common.{sym, subst, arith}
use Rattle.std.specs.List.Sorted.{IsStrictlySortedBy}
use Rattle.csi_keeper.specs.Capability.{AreOrdered}
use Rattle.test_tables.proofs.tables.calls.volume.Goals as goal

pub returns : goal.returns
unfolding IsStrictlySortedBy
returns c = (c.in_ok-number.ensures, omega (arith, c.in_ok-bytes.ensures), subst AreOrdered (sym c.new.ensures) tt)
