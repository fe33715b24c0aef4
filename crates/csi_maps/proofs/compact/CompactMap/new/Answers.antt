use Rattle.std.proofs.Common.{◌∙◌, sym, eqb-true}
use Rattle.std.specs.FinMap.{empty_of_len}
use Rattle.csi_maps.proofs.compact.CompactMap.new.Goals as goal

pub returns-then-is_empty : goal.returns-then-is_empty
returns-then-is_empty c = sym (empty_of_len c.args.map (eqb-true _ _ (sym c.is_empty.ensures ∙ c.if-is_empty.true)))
