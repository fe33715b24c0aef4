use Rattle.std.proofs.Common.{arith, sym, ◌∙◌}
use Rattle.csi_constraints.proofs.OrderLemmas.{rise_all, rise_not}
use Rattle.csi_constraints.proofs.coding.rise.Goals as goal

pub returns-then-not-is_before : goal.returns-then-not-is_before
returns-then-not-is_before c =
    rise_not c.args.keys.now c.loop-at.at _ _ (omega arith) (omega arith) c.index-keys-at.is c.index-keys-at-in-loop-at.is (sym c.is_before.ensures ∙ c.if-not-is_before.true)

pub returns : goal.returns
returns c = rise_all c.args.keys.now c.loop-at.at (omega arith) c.loop-at.invariant
